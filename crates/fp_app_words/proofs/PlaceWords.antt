-- What clap makes of the words after a subcommand with places.
use Rattle.std.proofs.Common.{◌≡◌, ◌∙◌, ℕ, Bool, true, false, List, [], ◌∷◌, ◌++◌, refl, sym, ap, inl, inr}
use Rattle.std.specs.Prelude.{Option, Some, None, slice_get, if◌then◌else◌, ◌||◌}
use Rattle.std.specs.List.{list_any}
use Rattle.std.specs.Str.{bytes_eq, chars}
use Rattle.std.proofs.lemmas.Bool.{cases_Bool, or_parts}
use Rattle.std.proofs.lemmas.List.Folds.{list_any-append}
use Rattle.std.proofs.lemmas.Slice.Eq.{bytes_eq-Decides}
use Rattle.std.proofs.Math.Bool.{and-false, or-false}
use Rattle.clap.specs.Lexer.{long_of, short_of}
use Rattle.clap.specs.Walk.{Row, Rule, arg_by_id, arg_by_index, bundle_met, finished, idle, is_pending, settled, used, walked}
use Rattle.clap.specs.Simple.{Shape}
use Rattle.clap.specs.Faults.{flags_fault, settle_fault, use_fault, walk_fault}
use Rattle.fp_app_words.specs.Commands.{bare, is_dashes}
use Rattle.fp_app_words.specs.Options.{Given, is_among, is_option_word, is_given}
use Rattle.fp_app_words.proofs.BareWords.{leaf}
use Rattle.fp_app_words.proofs.GivenRows.{rows}
use Rattle.fp_app_words.proofs.NoDefaults.{defaults_fault-none, fold-with_default}
use Rattle.fp_app_words.proofs.OptionRules.{use_fault-new, used-new}
use Rattle.fp_app_words.proofs.PlaceRules.{after, arg_by_long-places, arg_by_short-places, misses, misses-none, misses-some, place, places, places-no_defaults}
use Rattle.fp_app_words.proofs.PlainWords.{goes}
use Rattle.fp_app_words.proofs.Walks.{Agrees, agrees-skip, agrees-stop, held, state_at, turn}

-- a subcommand with places, as it is built
abbrev pub shape : List ℕ → List (List ℕ) → Shape
shape command names = record (leaf (bare command)) { rules = places 1 names }

-- what words give in places of these names: a word that is no option in each
abbrev pub placed_from : List Given → List (List ℕ) → List (List ℕ) → Option (List Given)
placed_from given [] [] = Some given
placed_from given [] (word ∷ words) = None
placed_from given (name ∷ names) [] = None
placed_from given (name ∷ names) (word ∷ words) = if is_option_word word then None else placed_from (given ++ (name, word) ∷ []) names words

-- From this number on clap finds these places, by number and by name, and none was given yet.
abbrev pub Stands : List Rule → List Given → ℕ → List (List ℕ) → Type 0
Stands rules given k [] = arg_by_index rules k ≡ None
Stands rules given k (name ∷ names) =
    (arg_by_index rules k ≡ Some (place k name)) × (arg_by_id rules name ≡ Some (place k name)) × (is_given given name ≡ false) × ((word : List ℕ) → Stands rules (given ++ (name, word) ∷ []) (after k) names)

or-shift : (a b c : Bool) → (a || (b || c)) ≡ ((a || (b || false)) || c)
or-shift true b c = refl
or-shift false true c = refl
or-shift false false c = refl

module _ (command : List ℕ) (names : List (List ℕ)) where
  abbrev here : Shape
  here = shape command names

  -- a word that is an option is refused
  refused-flags : (k : ℕ) (found : List Row) (p : Option (List ℕ × List (List ℕ))) (word flags : List ℕ) (c : Option ℕ) → is_dashes word ≡ false → is_option_word word ≡ true → long_of word ≡ None → short_of word ≡ Some flags → slice_get (chars flags) 0 ≡ c →
      turn here (state_at k found p idle) word ≡ [] → ⊥
  unfolding flags_fault bundle_met chars
  refused-flags k found p word [] None d dashed l s e f = let g = rw (d, l, s) at dashed in cc g
  refused-flags k found p word [] (Some y) d dashed l s e f = cc e
  refused-flags k found p word (x ∷ xs) None d dashed l s e f = let g = rw (d, l, s, e) at dashed in cc g
  refused-flags k found p word (x ∷ xs) (Some y) d dashed l s e f = let g = rw (d, l, s, e, arg_by_short-places 1 names y) at f in cc g

  refused-short : (k : ℕ) (found : List Row) (p : Option (List ℕ × List (List ℕ))) (word : List ℕ) (t : Option (List ℕ)) → is_dashes word ≡ false → is_option_word word ≡ true → long_of word ≡ None → short_of word ≡ t →
      turn here (state_at k found p idle) word ≡ [] → ⊥
  refused-short k found p word None d dashed l s f = let g = rw (d, l, s) at dashed in cc g
  refused-short k found p word (Some flags) d dashed l s f = refused-flags k found p word flags _ d dashed l s refl f

  refused : (k : ℕ) (found : List Row) (p : Option (List ℕ × List (List ℕ))) (word : List ℕ) (t : Option (List ℕ × Option (List ℕ))) → is_dashes word ≡ false → is_option_word word ≡ true → long_of word ≡ t →
      turn here (state_at k found p idle) word ≡ [] → ⊥
  refused k found p word None d dashed l f = refused-short k found p word (short_of word) d dashed l refl f
  refused k found p word (Some (name, v)) d dashed l f = let g = rw (d, l, arg_by_long-places 1 names name) at f in cc g

  -- what is given and what is to come are the names
  abbrev Covers : List Given → List (List ℕ) → Type 0
  Covers given rest = (name : List ℕ) → is_among names name ≡ (is_given given name || is_among rest name)

  covers-next : (given : List Given) (name word : List ℕ) (rest : List (List ℕ)) → Covers given (name ∷ rest) → Covers (given ++ (name, word) ∷ []) rest
  covers-next given name word rest covers other =
      covers other ∙ or-shift (is_given given other) (bytes_eq name other) (is_among rest other)
      ∙ ap (λ (b : Bool). b || is_among rest other) (sym (list_any-append (λ (g : Given). bytes_eq g.0 other) given ((name, word) ∷ [])))

  -- Before some words: what is found so far, of which the last may be pending, is what was given.
  record Before (k : ℕ) (found : List Row) (p : Option (List ℕ × List (List ℕ))) (given : List Given) (rest : List (List ℕ)) : Type 0 where
    stands : Stands (places 1 names) given k rest
    covers : Covers given rest
    passes : settle_fault (places 1 names) false (held found p) ≡ []
    finds : (settled (places 1 names) (held found p)).rows ≡ rows given

  -- the words end where all places are filled
  ends : (k : ℕ) (found : List Row) (p : Option (List ℕ × List (List ℕ))) (given : List Given) → Before k found p given [] → Agrees here (Some given) (state_at k found p idle) []
  unfolding walk_fault
  ends k found p given b =
      let all : finished (places 1 names) (held found p) ≡ rows given = fold-with_default (settled (places 1 names) (held found p)).rows (places 1 names) (places-no_defaults 1 names) ∙ b.finds in
      let met : misses (places 1 names) given ≡ false = misses-none 1 names given (λ name among. sym (or-false (is_given given name)) ∙ sym (b.covers name) ∙ among) in
      (rw (b.passes, defaults_fault-none (settled (places 1 names) (held found p)).rows (places 1 names) (places-no_defaults 1 names), all, met) refl, b.finds)

  -- or where one is missing
  ends-early : (k : ℕ) (found : List Row) (p : Option (List ℕ × List (List ℕ))) (given : List Given) (name : List ℕ) (rest : List (List ℕ)) → Before k found p given (name ∷ rest) → Agrees here None (state_at k found p idle) []
  unfolding walk_fault
  ends-early k found p given name rest b f =
      let all : finished (places 1 names) (held found p) ≡ rows given = fold-with_default (settled (places 1 names) (held found p)).rows (places 1 names) (places-no_defaults 1 names) ∙ b.finds in
      let itself : bytes_eq name name ≡ true = (bytes_eq-Decides name name).1 refl in
      let among : is_among names name ≡ true = b.covers name ∙ rw (b.stands.2, itself) refl in
      let missing : misses (places 1 names) given ≡ true = misses-some 1 names given name among b.stands.2 in
      let g = rw (b.passes, defaults_fault-none (settled (places 1 names) (held found p)).rows (places 1 names) (places-no_defaults 1 names), all, missing) at f in
      cc g

  -- a word more than places
  strays : (k : ℕ) (found : List Row) (p : Option (List ℕ × List (List ℕ))) (given : List Given) (word : List ℕ) (words : List (List ℕ)) → Before k found p given [] → is_option_word word ≡ false → Agrees here None (state_at k found p idle) (word ∷ words)
  strays k found p given word words b plain =
      agrees-stop here (state_at k found p idle) word words (λ f.
      let none = sym (goes command (places 1 names) k found p word (long_of word) plain refl).fault ∙ f in
      let g = rw b.stands at none in
      cc g)

  -- a word in its place, and what comes after it
  module _ (k : ℕ) (found : List Row) (p : Option (List ℕ × List (List ℕ))) (given : List Given) (name word : List ℕ) (rest : List (List ℕ)) (b : Before k found p given (name ∷ rest)) where
    fits : is_option_word word ≡ false → turn here (state_at k found p idle) word ≡ []
    fits plain = (goes command (places 1 names) k found p word (long_of word) plain refl).fault ∙ rw (b.stands.0, and-false (is_pending (place k name) p), b.passes) refl

    moves : is_option_word word ≡ false → walked (places 1 names) [] (state_at k found p idle) word ≡ state_at (after k) (rows given) (Some (name, word ∷ [])) idle
    moves plain = (goes command (places 1 names) k found p word (long_of word) plain refl).next ∙ rw (b.stands.0, and-false (is_pending (place k name) p), b.finds) refl

    next-before : Before (after k) (rows given) (Some (name, word ∷ [])) (given ++ (name, word) ∷ []) rest
    next-before =
        let none : use_fault false (place k name) (word ∷ []) (rows given) ≡ [] = use_fault-new given name word b.stands.2 in
        let used_so : used (place k name) (word ∷ []) (rows given) ≡ rows (given ++ (name, word) ∷ []) = used-new given name word b.stands.2 in
        record {
          stands = b.stands.3 word;
          covers = covers-next given name word rest b.covers;
          passes = rw (b.stands.1, none) refl;
          finds = rw (b.stands.1, used_so) refl;
        }

  refuses : (k : ℕ) (found : List Row) (p : Option (List ℕ × List (List ℕ))) (word : List ℕ) (words : List (List ℕ)) → is_dashes word ≡ false → is_option_word word ≡ true → Agrees here None (state_at k found p idle) (word ∷ words)
  refuses k found p word words d dashed = agrees-stop here (state_at k found p idle) word words (refused k found p word (long_of word) d dashed refl)

  placed : (rest words : List (List ℕ)) (k : ℕ) (found : List Row) (p : Option (List ℕ × List (List ℕ))) (given : List Given) → list_any is_dashes words ≡ false → Before k found p given rest → Agrees here (placed_from given rest words) (state_at k found p idle) words
  placed [] [] k found p given clean b = ends k found p given b
  placed (name ∷ rest) [] k found p given clean b = ends-early k found p given name rest b
  placed [] (word ∷ words) k found p given clean b =
      elim (cases_Bool (is_option_word word)) [
        | inl dashed ↦ refuses k found p word words (or_parts (is_dashes word) (list_any is_dashes words) clean).0 dashed
        | inr plain ↦ strays k found p given word words b plain
      ]
  placed (name ∷ rest) (word ∷ words) k found p given clean b =
      let parts = or_parts (is_dashes word) (list_any is_dashes words) clean in
      let rest_placed : Agrees here (placed_from (given ++ (name, word) ∷ []) rest words) (state_at (after k) (rows given) (Some (name, word ∷ [])) idle) words =
      placed rest words (after k) (rows given) (Some (name, word ∷ [])) (given ++ (name, word) ∷ []) parts.1 (next-before k found p given name word rest b) in
      elim (cases_Bool (is_option_word word)) [
        | inl dashed ↦ rw dashed (refuses k found p word words parts.0 dashed)
        | inr plain ↦
            rw plain (agrees-skip here (placed_from (given ++ (name, word) ∷ []) rest words) (state_at k found p idle) (state_at (after k) (rows given) (Some (name, word ∷ [])) idle) word words
            (fits k found p given name word rest b plain) (moves k found p given name word rest b plain) rest_placed)
      ]

  -- the words after the name of a subcommand with places: they are read, exactly where they fill the places
  pub places-read : Stands (places 1 names) [] 1 names → (words : List (List ℕ)) → list_any is_dashes words ≡ false → Agrees here (placed_from [] names words) (state_at 1 [] None idle) words
  places-read stands words clean = placed names words 1 [] None [] clean (record { stands = stands; covers = λ name. refl; passes = refl; finds = refl })
