-- What clap makes of a first word: the subcommand of that name reads the words after it, and where
-- there is none the parse fails.
use Rattle.std.proofs.Common.{◌≡◌, ◌∙◌, ℕ, false, List, [], ◌∷◌, ◌++◌, map, refl, ap, ap₂, append_assoc, inl, inr}
use Rattle.std.proofs.lemmas.List.{append-nil}
use Rattle.std.proofs.lemmas.Bool.{cases_Bool}
use Rattle.std.proofs.Math.Bool.{and-false}
use Rattle.std.specs.Prelude.{Option, Some, None, codes, fold, slice_get, find, is_some, option_map}
use Rattle.std.specs.Str.{bytes_eq, chars}
use Rattle.clap.specs.Lexer.{long_of, short_of}
use Rattle.clap.specs.Kinds.{Kinds, or_else}
use Rattle.clap.specs.Walk.{Names, Row, Rule, Walk, answers_to, bundle_met, finished, nothing_held, settled, stop_after, walk, walk_from, walked}
use Rattle.clap.specs.Simple.{App, Shape, built, entered, label_of, names_of, rows_at}
use Rattle.clap.specs.Faults.{built_fault, check_fault, defaults_fault, entered_fault, flags_fault, level_fault, settle_fault, turn_fault, walk_fault}
use Rattle.clap.proofs.FaultLemmas.{stopped_fault}
use Rattle.fp_app_words.specs.Commands.{above}

-- the command above these subcommands, as it is built
abbrev pub built_above : List Shape → App
built_above subs = record { top = (built (above [])).top; subs = subs }

-- the first of these subcommands that a word names
abbrev pub named : List ℕ → List Shape → Option Shape
named word subs = find (λ s. answers_to word (label_of s)) subs

-- the faults of the words, and the subcommand that they enter
abbrev pub faults : List Shape → List (List ℕ) → Kinds
faults subs words = built_fault (built_above subs) nothing_held words

abbrev pub entry : List Shape → List (List ℕ) → Option (List ℕ × List Row)
entry subs words = entered (built_above subs) (stop_after (built_above subs).top.rules (names_of (built_above subs)) words)

-- the faults of a subcommand over the words after its name
abbrev pub rest_faults : Shape → List (List ℕ) → Kinds
rest_faults s words = level_fault s [] nothing_held words false []

-- the label of what is found
find-labels : (word : List ℕ) (subs : List Shape) → find (answers_to word) (map label_of subs) ≡ option_map label_of (named word subs)
find-labels word [] = refl
find-labels word (s ∷ subs) =
    elim (cases_Bool (answers_to word (label_of s))) [
      | inl t ↦ rw t refl
      | inr f ↦ rw f (find-labels word subs)
    ]

-- a walk that stopped at a subcommand keeps the words after it
walk-stopped : (c : List Rule) (ns : Names) (w : Walk) (name : List ℕ) (xs words : List (List ℕ))
    → fold (walked c ns) (record w { stopped = Some (name, xs) }) words ≡ record w { stopped = Some (name, xs ++ words) }
unfolding walked
walk-stopped c ns w name xs [] = rw (append-nil xs) refl
walk-stopped c ns w name xs (x ∷ words) = walk-stopped c ns w name (xs ++ (x ∷ [])) words ∙ ap (λ (ys : List (List ℕ)). record w { stopped = Some (name, ys) }) (append_assoc xs (x ∷ []) words)

or_else-nil : (a : Kinds) → or_else a [] ≡ a
or_else-nil [] = refl
or_else-nil (k ∷ ks) = refl

-- where the word names a subcommand, the walk stops there
module _ (subs : List Shape) (s : Shape) (word : List ℕ) (found : named word subs ≡ Some s) (same : s.name ≡ word) where
  label : find (answers_to word) (map label_of subs) ≡ Some (label_of s)
  label = find-labels word subs ∙ ap (option_map label_of) found

  again : named s.name subs ≡ Some s
  again = ap (λ (t : List ℕ). named t subs) same ∙ found

  stopped : List (List ℕ) → Walk
  stopped words = record (walk_from nothing_held) { stopped = Some (s.name, words) }

  first : walked [] (map label_of subs) (walk_from nothing_held) word ≡ stopped []
  unfolding walked stopped
  first = rw label refl

  whole : (words : List (List ℕ)) → walk [] (map label_of subs) nothing_held (word ∷ words) ≡ stopped words
  unfolding stopped
  whole words = ap (λ (w : Walk). fold (walked [] (map label_of subs)) w words) first ∙ walk-stopped [] (map label_of subs) (walk_from nothing_held) s.name [] words

  passes : (words : List (List ℕ)) → walk_fault (built_above subs).top (map label_of subs) (walk_from nothing_held) (word ∷ words) ≡ []
  unfolding walk_fault stopped
  passes words =
      let turn : turn_fault (built_above subs).top (map label_of subs) (walk_from nothing_held) word ≡ [] = rw (label, and-false) refl in
      let rest : walk_fault (built_above subs).top (map label_of subs) (walked [] (map label_of subs) (walk_from nothing_held) word) words ≡ [] =
      ap (λ (w : Walk). walk_fault (built_above subs).top (map label_of subs) w words) first ∙ stopped_fault (built_above subs).top (map label_of subs) (walk_from nothing_held) (s.name, []) words in
      ap₂ or_else turn rest

  -- the faults, by those of the walk and by where it stopped
  abbrev faults_by : Kinds → Walk → Kinds
  faults_by ks w =
      or_else ks (or_else (entered_fault (built_above subs) w.stopped)
      (or_else (settle_fault [] false w.held) (or_else (defaults_fault (settled [] w.held).rows [])
      (check_fault (built_above subs).top (finished [] w.held) (is_some (entered (built_above subs) w.stopped))))))

  rest-named : (words : List (List ℕ)) → faults_by [] (stopped words) ≡ rest_faults s words
  unfolding stopped defaults_fault
  rest-named words = rw again (or_else-nil _)

  -- the words after the name of a subcommand are that subcommand's
  pub faults-named : (words : List (List ℕ)) → faults subs (word ∷ words) ≡ rest_faults s words
  faults-named words = ap₂ faults_by (passes words) (whole words) ∙ rest-named words

  pub entry-named : (words : List (List ℕ)) → entry subs (word ∷ words) ≡ Some (rows_at s words)
  unfolding stopped
  entry-named words = ap (λ (w : Walk). entered (built_above subs) w.stopped) (whole words) ∙ rw again refl

pub or_else-left : (a b : Kinds) → or_else a b ≡ [] → a ≡ []
or_else-left [] b e = refl
or_else-left (k ∷ ks) b e = e

module _ (subs : List Shape) (word : List ℕ) (unnamed : find (answers_to word) (map label_of subs) ≡ None) (plain : bytes_eq word (codes "--") ≡ false) where
  abbrev turn : Kinds
  turn = turn_fault (built_above subs).top (map label_of subs) (walk_from nothing_held) word

  turn-flags : (flags : List ℕ) (c : Option ℕ) → long_of word ≡ None → short_of word ≡ Some flags → slice_get (chars flags) 0 ≡ c → turn ≡ [] → ⊥
  unfolding flags_fault bundle_met
  turn-flags [] c l s e f = let g = rw (unnamed, plain, l, s) at f in cc g
  turn-flags (x ∷ xs) None l s e f = let g = rw (unnamed, plain, l, s, e) at f in cc g
  turn-flags (x ∷ xs) (Some y) l s e f = let g = rw (unnamed, plain, l, s, e) at f in cc g

  turn-short : (t : Option (List ℕ)) → long_of word ≡ None → short_of word ≡ t → turn ≡ [] → ⊥
  turn-short None l s f = let g = rw (unnamed, plain, l, s) at f in cc g
  turn-short (Some flags) l s f = turn-flags flags _ l s refl f

  turn-long : (t : Option (List ℕ × Option (List ℕ))) → long_of word ≡ t → turn ≡ [] → ⊥
  turn-long None l f = turn-short (short_of word) l refl f
  turn-long (Some (name, v)) l f = let g = rw (unnamed, plain, l) at f in cc g

-- a first word that names no subcommand
pub faults-unnamed : (subs : List Shape) (word : List ℕ) (words : List (List ℕ)) → named word subs ≡ None → bytes_eq word (codes "--") ≡ false → faults subs (word ∷ words) ≡ [] → ⊥
unfolding walk_fault
faults-unnamed subs word words none plain f =
    turn-long subs word (find-labels word subs ∙ ap (option_map label_of) none) plain (long_of word) refl (or_else-left _ _ (or_else-left _ _ f))

-- no word
pub faults-none : (subs : List Shape) → faults subs [] ≡ [] → ⊥
unfolding walk_fault defaults_fault
faults-none subs f = cc f
