-- What clap makes of the words after a subcommand with options, and a place that a word may fill.
use Rattle.std.proofs.Common.{◌≡◌, ◌∙◌, ℕ, true, false, List, [], ◌∷◌, ◌++◌, refl, sym, ap, inl, inr, ◌⊎◌}
use Rattle.std.specs.Prelude.{Option, Some, None, IfSome, codes, slice_get, option_and_then, min, ◌==◌, ◌+◌}
use Rattle.std.specs.List.{list_any}
use Rattle.std.specs.Str.{bytes_eq, chars}
use Rattle.std.proofs.lemmas.Bool.{cases_Bool, or_parts}
use Rattle.std.proofs.lemmas.List.Folds.{list_any-append}
use Rattle.std.proofs.lemmas.Slice.Eq.{bytes_eq-Decides}
use Rattle.std.proofs.Math.Bool.{and-false, or-false}
use Rattle.clap.specs.Lexer.{long_of, short_of, usize_max}
use Rattle.clap.specs.Kinds.{Kinds, or_else}
use Rattle.clap.specs.Walk.{Row, Rule, Walk, arg_by_index, bundle_met, finished, idle, is_pending, settled, used, walked}
use Rattle.clap.specs.Walk.{option as awaits}
use Rattle.clap.specs.Simple.{Shape}
use Rattle.clap.specs.Faults.{flags_fault, settle_fault, use_fault, walk_fault}
use Rattle.clap.specs.declared.error.kind.ErrorKind.{ErrorKind}
use Rattle.fp_app_words.specs.Commands.{bare, is_dashes}
use Rattle.fp_app_words.specs.Options.{Given, is_among, is_given, is_option_word, option, options_from, place_at, value_of, with_value, word_at}
use Rattle.fp_app_words.proofs.BareWords.{leaf}
use Rattle.fp_app_words.proofs.FirstWords.{or_else-left}
use Rattle.fp_app_words.proofs.FlagDefaults.{defaults_fault-rules}
use Rattle.fp_app_words.proofs.OptionRules.{IsApart, arg_by_id-among, arg_by_index-none, arg_by_long-among, arg_by_long-flag, arg_by_long-unknown, arg_by_short-none, flag, flag_fault-new, flag_fault-old, flag_used-new, required-none, rule, rules, slot, use_fault-new, use_fault-old, used-new}
use Rattle.fp_app_words.proofs.GivenRows.{rows}
use Rattle.fp_app_words.proofs.PlainWords.{goes}
use Rattle.fp_app_words.proofs.Walks.{Agrees, agrees-skip, agrees-stop, held, state_at, tail_fault, turn}

-- a subcommand with options and flags, and a place where there is one, as it is built
abbrev pub shape : List ℕ → Option (List ℕ) → (names flags : List (List ℕ)) → Shape
shape command place names flags = record (leaf (bare command)) { rules = rules place names flags }

eq-refl : (name : List ℕ) → bytes_eq name name ≡ true
eq-refl name = (bytes_eq-Decides name name).1 refl

-- what clap finds at a number: nothing, or the place
index-cases : (place : Option (List ℕ)) (names flags : List (List ℕ)) (k : ℕ) →
    (arg_by_index (rules place names flags) k ≡ None) ⊎ ((at : List ℕ) × (arg_by_index (rules place names flags) k ≡ Some (slot at)))
index-cases None names flags k = inl (arg_by_index-none names flags k)
index-cases (Some at) names flags k =
    elim (cases_Bool (1 == k)) [
      | inl t ↦ inr (at, rw t refl)
      | inr f ↦ inl (rw f (arg_by_index-none names flags k))
    ]

-- The place, where there is one, is free at the number 1 or taken at the number 2.
abbrev Stands : Option (List ℕ) → ℕ → List Given → Type 0
Stands None k given = Unit {0}
Stands (Some at) k given = ((k ≡ 1) × (is_given given at ≡ false)) ⊎ ((k ≡ 2) × (is_given given at ≡ true))

is_given-push : (given : List Given) (name value at : List ℕ) → bytes_eq name at ≡ false → is_given (given ++ (name, value) ∷ []) at ≡ is_given given at
is_given-push given name value at differs =
    list_any-append (λ (g : Given). bytes_eq g.0 at) given ((name, value) ∷ []) ∙ rw differs (or-false (is_given given at))

stands-push : (place : Option (List ℕ)) (k : ℕ) (given : List Given) (name value : List ℕ) → IfSome place (λ at. bytes_eq name at ≡ false) → Stands place k given → Stands place k (given ++ (name, value) ∷ [])
stands-push None k given name value differs stands = tt
stands-push (Some at) k given name value differs (inl free) = inl (free.0, is_given-push given name value at differs ∙ free.1)
stands-push (Some at) k given name value differs (inr taken) = inr (taken.0, is_given-push given name value at differs ∙ taken.1)

-- a name that the place doesn't have
unlike : (names : List (List ℕ)) (at name : List ℕ) → is_among names at ≡ false → is_among names name ≡ true → bytes_eq name at ≡ false
unlike names at name out among =
    elim (cases_Bool (bytes_eq name at)) [
      | inl t ↦ let g = ap (is_among names) ((bytes_eq-Decides name at).0 t) in let h = sym among ∙ g ∙ out in cc h
      | inr f ↦ f
    ]

unlike-names : (place : Option (List ℕ)) (names flags : List (List ℕ)) (name : List ℕ) → IsApart place names flags → is_among names name ≡ true → IfSome place (λ at. bytes_eq name at ≡ false)
unlike-names None names flags name apart among = tt
unlike-names (Some at) names flags name apart among = unlike names at name apart.0 among

unlike-flags : (place : Option (List ℕ)) (names flags : List (List ℕ)) (name : List ℕ) → IsApart place names flags → is_among flags name ≡ true → IfSome place (λ at. bytes_eq name at ≡ false)
unlike-flags None names flags name apart among = tt
unlike-flags (Some at) names flags name apart among = unlike flags at name apart.1 among

module _ (command : List ℕ) (place : Option (List ℕ)) (names flags : List (List ℕ)) (apart : IsApart place names flags) where
  abbrev here : Shape
  here = shape command place names flags

  abbrev all : List Rule
  all = rules place names flags

  -- `-x` is refused where no option waits
  refused-short : (k : ℕ) (found : List Row) (p : Option (List ℕ × List (List ℕ))) (word short : List ℕ) (c : Option ℕ) → is_dashes word ≡ false → is_option_word word ≡ true → long_of word ≡ None → short_of word ≡ Some short → slice_get (chars short) 0 ≡ c →
      turn here (state_at k found p idle) word ≡ [] → ⊥
  unfolding flags_fault bundle_met chars
  refused-short k found p word [] None d dashed l s e f = let g = rw (d, l, s) at dashed in cc g
  refused-short k found p word [] (Some y) d dashed l s e f = cc e
  refused-short k found p word (x ∷ xs) None d dashed l s e f = let g = rw (d, l, s, e) at dashed in cc g
  refused-short k found p word (x ∷ xs) (Some y) d dashed l s e f = let g = rw (d, l, s, e, arg_by_short-none place names flags y) at f in cc g

  refused-dashed : (k : ℕ) (found : List Row) (p : Option (List ℕ × List (List ℕ))) (word : List ℕ) (t : Option (List ℕ)) → is_dashes word ≡ false → is_option_word word ≡ true → long_of word ≡ None → short_of word ≡ t →
      turn here (state_at k found p idle) word ≡ [] → ⊥
  refused-dashed k found p word None d dashed l s f = let g = rw (d, l, s) at dashed in cc g
  refused-dashed k found p word (Some short) d dashed l s f = refused-short k found p word short _ d dashed l s refl f

  -- a word that is no option, and that no place takes
  refused-stray : (k : ℕ) (found : List Row) (p : Option (List ℕ × List (List ℕ))) (word : List ℕ) → is_option_word word ≡ false → arg_by_index all k ≡ None → turn here (state_at k found p idle) word ≡ [] → ⊥
  refused-stray k found p word plain none f =
      let g = sym (goes command all k found p word (long_of word) plain refl).fault ∙ f in
      let h = rw none at g in
      cc h

  -- a long option of another name is refused
  refused-unknown : (k : ℕ) (found : List Row) (p : Option (List ℕ × List (List ℕ))) (word name : List ℕ) (v : Option (List ℕ)) → is_dashes word ≡ false → long_of word ≡ Some (name, v) → is_among names name ≡ false → is_among flags name ≡ false →
      turn here (state_at k found p idle) word ≡ [] → ⊥
  refused-unknown k found p word name v d l u n f = let g = rw (d, l, arg_by_long-unknown place names flags name u n) at f in cc g

  -- and a flag with a value
  refused-value : (k : ℕ) (found : List Row) (p : Option (List ℕ × List (List ℕ))) (word name v : List ℕ) → is_dashes word ≡ false → long_of word ≡ Some (name, Some v) → is_among names name ≡ false → is_among flags name ≡ true →
      turn here (state_at k found p idle) word ≡ [] → ⊥
  refused-value k found p word name v d l u n f = let g = rw (d, l, arg_by_long-flag place names flags name u n) at f in cc g

  -- where a pending use fails, any word fails
  module _ (k : ℕ) (found : List Row) (p : Option (List ℕ × List (List ℕ))) (kind : ErrorKind) (ks : Kinds) (bad : settle_fault all false (held found p) ≡ kind ∷ ks) where
    doomed-among : (word name : List ℕ) (v : Option (List ℕ)) → is_dashes word ≡ false → long_of word ≡ Some (name, v) → is_among names name ≡ true → turn here (state_at k found p idle) word ≡ [] → ⊥
    doomed-among word name None d l a f = let g = rw (d, l, arg_by_long-among place names flags name a, bad) at f in cc g
    doomed-among word name (Some v) d l a f = let g = rw (d, l, arg_by_long-among place names flags name a, bad) at f in cc g

    doomed-flag : (word name : List ℕ) (v : Option (List ℕ)) → is_dashes word ≡ false → long_of word ≡ Some (name, v) → is_among names name ≡ false → is_among flags name ≡ true → turn here (state_at k found p idle) word ≡ [] → ⊥
    doomed-flag word name None d l u n f = let g = rw (d, l, arg_by_long-flag place names flags name u n, bad) at f in cc g
    doomed-flag word name (Some v) d l u n f = refused-value k found p word name v d l u n f

    doomed-plain : (word : List ℕ) → is_option_word word ≡ false → turn here (state_at k found p idle) word ≡ [] → ⊥
    doomed-plain word plain f =
        elim (index-cases place names flags k) [
          | inl none ↦ refused-stray k found p word plain none f
          | inr slotted ↦
              let g = sym (goes command all k found p word (long_of word) plain refl).fault ∙ f in
              let h = rw (slotted.1, and-false (is_pending (slot slotted.0) p), bad) at g in
              cc h
        ]

    doomed-long : (word : List ℕ) (t : Option (List ℕ × Option (List ℕ))) → is_dashes word ≡ false → long_of word ≡ t → turn here (state_at k found p idle) word ≡ [] → ⊥
    doomed-long word None d l f =
        elim (cases_Bool (is_option_word word)) [
          | inl dashed ↦ refused-dashed k found p word (short_of word) d dashed l refl f
          | inr plain ↦ doomed-plain word plain f
        ]
    doomed-long word (Some (name, v)) d l f =
        elim (cases_Bool (is_among names name)) [
          | inl a ↦ doomed-among word name v d l a f
          | inr u ↦
              elim (cases_Bool (is_among flags name)) [
                | inl n ↦ doomed-flag word name v d l u n f
                | inr n ↦ refused-unknown k found p word name v d l u n f
              ]
        ]

  -- where a pending use fails, the walk does
  doomed-by : (words : List (List ℕ)) (k : ℕ) (found : List Row) (p : Option (List ℕ × List (List ℕ))) (ks : Kinds) → list_any is_dashes words ≡ false → settle_fault all false (held found p) ≡ ks → (ks ≡ [] → ⊥) →
      tail_fault here (state_at k found p idle) words ≡ [] → ⊥
  unfolding walk_fault
  doomed-by words k found p [] clean e fails f = fails refl
  doomed-by [] k found p (kind ∷ ks) clean e fails f = let g = rw e at f in cc g
  doomed-by (word ∷ words) k found p (kind ∷ ks) clean e fails f =
      elim (cases_Bool (is_dashes word)) [
        | inl t ↦ let g = rw t at clean in cc g
        | inr plain ↦ doomed-long k found p kind ks e word (long_of word) plain refl (or_else-left _ _ (or_else-left _ _ f))
      ]

  record Facts (words : List (List ℕ)) : Type 0 where
    idle_fact : (k : ℕ) (found : List Row) (p : Option (List ℕ × List (List ℕ))) (given : List Given) → Stands place k given → settle_fault all false (held found p) ≡ [] → (settled all (held found p)).rows ≡ rows given →
        Agrees here (options_from place names flags option given words) (state_at k found p idle) words
    value_fact : (k : ℕ) (name : List ℕ) (given : List Given) → Stands place k given → is_among names name ≡ true → Agrees here (options_from place names flags (value_of name) given words) (state_at k (rows given) (Some (name, [])) (awaits name)) words

  nil-facts : Facts []
  unfolding walk_fault
  nil-facts = record {
    idle_fact = λ k found p given stands s h. (
      rw (s, defaults_fault-rules (settled all (held found p)).rows place names flags, required-none (finished all (held found p)) place names flags) refl,
      h,
    );
    value_fact = λ k name given stands a f. let g = rw (arg_by_id-among place names flags name apart a) at f in cc g;
  }

-- a word that is no option and no flag: in the place where that is free
place-step : (command : List ℕ) (place : Option (List ℕ)) (names flags : List (List ℕ)) (apart : IsApart place names flags) (word : List ℕ) (words : List (List ℕ)) → Facts command place names flags apart words →
    (k : ℕ) (found : List Row) (p : Option (List ℕ × List (List ℕ))) (given : List Given) → is_dashes word ≡ false → long_of word ≡ None → Stands place k given → settle_fault (rules place names flags) false (held found p) ≡ [] → (settled (rules place names flags) (held found p)).rows ≡ rows given →
    Agrees (shape command place names flags) (place_at place (λ role more. options_from place names flags role more words) given word) (state_at k found p idle) (word ∷ words)
place-step command None names flags apart word words rest k found p given d l stands s h =
    agrees-stop (shape command None names flags) (state_at k found p idle) word words (λ f.
    elim (cases_Bool (is_option_word word)) [
      | inl dashed ↦ refused-dashed command None names flags apart k found p word (short_of word) d dashed l refl f
      | inr plain ↦ refused-stray command None names flags apart k found p word plain (arg_by_index-none names flags k) f
    ])
place-step command (Some at) names flags apart word words rest k found p given d l stands s h =
    elim (cases_Bool (is_option_word word)) [
      | inl dashed ↦ rw dashed (agrees-stop (shape command (Some at) names flags) (state_at k found p idle) word words (refused-dashed command (Some at) names flags apart k found p word (short_of word) d dashed l refl))
      | inr plain ↦ rw plain (placed k stands plain)
    ]
  where
    here : Shape
    here = shape command (Some at) names flags

    placed : (k : ℕ) → Stands (Some at) k given → is_option_word word ≡ false →
        Agrees here (option_and_then (λ more. options_from (Some at) names flags option more words) (with_value given at word)) (state_at k found p idle) (word ∷ words)
    placed k (inr taken) plain =
        let second : arg_by_index (rules (Some at) names flags) k ≡ None = ap (arg_by_index (rules (Some at) names flags)) taken.0 ∙ arg_by_index-none names flags 2 in
        rw taken.1 (agrees-stop here (state_at k found p idle) word words (refused-stray command (Some at) names flags apart k found p word plain second))
    placed k (inl free) plain =
        let first : arg_by_index (rules (Some at) names flags) k ≡ Some (slot at) = ap (arg_by_index (rules (Some at) names flags)) free.0 in
        let to = goes command (rules (Some at) names flags) k found p word (long_of word) plain refl in
        let fits : turn here (state_at k found p idle) word ≡ [] = to.fault ∙ rw (first, and-false (is_pending (slot at) p), s) refl in
        let moves : walked (rules (Some at) names flags) [] (state_at k found p idle) word ≡ state_at 2 (rows given) (Some (at, word ∷ [])) idle =
        to.next ∙ rw (first, and-false (is_pending (slot at) p), h) (ap (λ (n : ℕ). state_at (min (n + 1) usize_max) (rows given) (Some (at, word ∷ [])) idle) free.0) in
        let none : use_fault false (slot at) (word ∷ []) (rows given) ≡ [] = use_fault-new given at word free.1 in
        let used_so : used (slot at) (word ∷ []) (rows given) ≡ rows (given ++ (at, word) ∷ []) = used-new given at word free.1 in
        let has : is_given (given ++ (at, word) ∷ []) at ≡ true = list_any-append (λ (g : Given). bytes_eq g.0 at) given ((at, word) ∷ []) ∙ rw (free.1, eq-refl at) refl in
        rw free.1 (agrees-skip here (options_from (Some at) names flags option (given ++ (at, word) ∷ []) words) (state_at k found p idle) (state_at 2 (rows given) (Some (at, word ∷ [])) idle) word words fits moves
        (rest.idle_fact 2 (rows given) (Some (at, word ∷ [])) (given ++ (at, word) ∷ []) (inr (refl, has)) (rw (eq-refl at, none) refl) (rw (eq-refl at, used_so) refl)))

module _ (command : List ℕ) (place : Option (List ℕ)) (names flags : List (List ℕ)) (apart : IsApart place names flags) where
  abbrev this : Shape
  this = shape command place names flags

  abbrev every : List Rule
  every = rules place names flags

  module _ (word : List ℕ) (words : List (List ℕ)) (plain : is_dashes word ≡ false) (clean : list_any is_dashes words ≡ false) (rest : Facts command place names flags apart words) where
    -- after `--NAME=VALUE`
    after-value : (k : ℕ) (found : List Row) (p : Option (List ℕ × List (List ℕ))) (given : List Given) (name v : List ℕ) → Stands place k given → settle_fault every false (held found p) ≡ [] → (settled every (held found p)).rows ≡ rows given →
        long_of word ≡ Some (name, Some v) → is_among names name ≡ true →
        Agrees this (option_and_then (λ more. options_from place names flags option more words) (with_value given name v)) (state_at k found p idle) (word ∷ words)
    unfolding walked
    after-value k found p given name v stands s h l a =
        elim (cases_Bool (is_given given name)) [
          | inl old ↦
              rw old (agrees-stop this (state_at k found p idle) word words (λ f.
              let g = rw (plain, l, arg_by_long-among place names flags name a, s, h) at f in use_fault-old given name v old (or_else-left _ _ g)))
          | inr new ↦
              let used_so : used (rule name) (v ∷ []) (rows given) ≡ rows (given ++ (name, v) ∷ []) = used-new given name v new in
              let none : use_fault false (rule name) (v ∷ []) (rows given) ≡ [] = use_fault-new given name v new in
              let once : turn this (state_at k found p idle) word ≡ or_else (use_fault false (rule name) (v ∷ []) (rows given)) [] = rw (plain, l, arg_by_long-among place names flags name a, s, h) refl in
              rw new (agrees-skip this (options_from place names flags option (given ++ (name, v) ∷ []) words) (state_at k found p idle) (state_at k (rows (given ++ (name, v) ∷ [])) None idle) word words
              (once ∙ ap (λ (ks : Kinds). or_else ks []) none) (rw (plain, l, arg_by_long-among place names flags name a, h, used_so) refl)
              (rest.idle_fact k (rows (given ++ (name, v) ∷ [])) None (given ++ (name, v) ∷ []) (stands-push place k given name v (unlike-names place names flags name apart a) stands) refl refl))
        ]

    -- after `--NAME`
    after-name : (k : ℕ) (found : List Row) (p : Option (List ℕ × List (List ℕ))) (given : List Given) (name : List ℕ) → Stands place k given → settle_fault every false (held found p) ≡ [] → (settled every (held found p)).rows ≡ rows given →
        long_of word ≡ Some (name, None) → is_among names name ≡ true → Agrees this (options_from place names flags (value_of name) given words) (state_at k found p idle) (word ∷ words)
    unfolding walked
    after-name k found p given name stands s h l a =
        agrees-skip this (options_from place names flags (value_of name) given words) (state_at k found p idle) (state_at k (rows given) (Some (name, [])) (awaits name)) word words
        (rw (plain, l, arg_by_long-among place names flags name a, s) refl) (rw (plain, l, arg_by_long-among place names flags name a, h) refl) (rest.value_fact k name given stands a)

    -- after a flag
    after-flag : (k : ℕ) (found : List Row) (p : Option (List ℕ × List (List ℕ))) (given : List Given) (name : List ℕ) → Stands place k given → settle_fault every false (held found p) ≡ [] → (settled every (held found p)).rows ≡ rows given →
        long_of word ≡ Some (name, None) → is_among names name ≡ false → is_among flags name ≡ true →
        Agrees this (option_and_then (λ more. options_from place names flags option more words) (with_value given name (codes "true"))) (state_at k found p idle) (word ∷ words)
    unfolding walked
    after-flag k found p given name stands s h l u n =
        elim (cases_Bool (is_given given name)) [
          | inl old ↦
              rw old (agrees-stop this (state_at k found p idle) word words (λ f.
              let g = rw (plain, l, arg_by_long-flag place names flags name u n, s, h) at f in flag_fault-old given name old (or_else-left _ _ g)))
          | inr new ↦
              let used_so : used (flag name) [] (rows given) ≡ rows (given ++ (name, codes "true") ∷ []) = flag_used-new given name new in
              let none : use_fault false (flag name) [] (rows given) ≡ [] = flag_fault-new given name new in
              let once : turn this (state_at k found p idle) word ≡ or_else (use_fault false (flag name) [] (rows given)) [] = rw (plain, l, arg_by_long-flag place names flags name u n, s, h) refl in
              rw new (agrees-skip this (options_from place names flags option (given ++ (name, codes "true") ∷ []) words) (state_at k found p idle) (state_at k (rows (given ++ (name, codes "true") ∷ [])) None idle) word words
              (once ∙ ap (λ (ks : Kinds). or_else ks []) none) (rw (plain, l, arg_by_long-flag place names flags name u n, h, used_so) refl)
              (rest.idle_fact k (rows (given ++ (name, codes "true") ∷ [])) None (given ++ (name, codes "true") ∷ []) (stands-push place k given name (codes "true") (unlike-flags place names flags name apart n) stands) refl refl))
        ]

    -- a value in a word that is no option with one
    refused-attached : (k : ℕ) (found : List Row) (p : Option (List ℕ × List (List ℕ))) (name v : List ℕ) → long_of word ≡ Some (name, Some v) → is_among names name ≡ false → turn this (state_at k found p idle) word ≡ [] → ⊥
    refused-attached k found p name v l u f =
        elim (cases_Bool (is_among flags name)) [
          | inl n ↦ refused-value command place names flags apart k found p word name v plain l u n f
          | inr n ↦ refused-unknown command place names flags apart k found p word name (Some v) plain l u n f
        ]

    idle-long : (k : ℕ) (found : List Row) (p : Option (List ℕ × List (List ℕ))) (given : List Given) (t : Option (List ℕ × Option (List ℕ))) → Stands place k given → settle_fault every false (held found p) ≡ [] → (settled every (held found p)).rows ≡ rows given →
        long_of word ≡ t → Agrees this (word_at place names flags (λ role more. options_from place names flags role more words) given word t) (state_at k found p idle) (word ∷ words)
    idle-long k found p given None stands s h l = place-step command place names flags apart word words rest k found p given plain l stands s h
    idle-long k found p given (Some (name, None)) stands s h l =
        elim (cases_Bool (is_among names name)) [
          | inl a ↦ rw a (after-name k found p given name stands s h l a)
          | inr u ↦
              elim (cases_Bool (is_among flags name)) [
                | inl n ↦ rw (u, n) (after-flag k found p given name stands s h l u n)
                | inr n ↦ rw (u, n) (agrees-stop this (state_at k found p idle) word words (refused-unknown command place names flags apart k found p word name None plain l u n))
              ]
        ]
    idle-long k found p given (Some (name, Some v)) stands s h l =
        elim (cases_Bool (is_among names name)) [
          | inl a ↦ rw a (after-value k found p given name v stands s h l a)
          | inr u ↦ rw u (agrees-stop this (state_at k found p idle) word words (refused-attached k found p name v l u))
        ]

    -- the word is the value of an option that waits for it
    abbrev waiting : ℕ → List ℕ → List Given → Walk
    waiting k name given = state_at k (rows given) (Some (name, [])) (awaits name)

    got-value : (k : ℕ) (name : List ℕ) (given : List Given) → Stands place k given → is_among names name ≡ true →
        Agrees this (option_and_then (λ more. options_from place names flags option more words) (with_value given name word)) (state_at k (rows given) (Some (name, word ∷ [])) idle) words
    got-value k name given stands a =
        elim (cases_Bool (is_given given name)) [
          | inl old ↦
              let pending : settle_fault every false (held (rows given) (Some (name, word ∷ []))) ≡ use_fault false (rule name) (word ∷ []) (rows given) = rw (arg_by_id-among place names flags name apart a) refl in
              rw old (doomed-by command place names flags apart words k (rows given) (Some (name, word ∷ [])) _ clean pending (use_fault-old given name word old))
          | inr new ↦
              let none : use_fault false (rule name) (word ∷ []) (rows given) ≡ [] = use_fault-new given name word new in
              let used_so : used (rule name) (word ∷ []) (rows given) ≡ rows (given ++ (name, word) ∷ []) = used-new given name word new in
              rw new (rest.idle_fact k (rows given) (Some (name, word ∷ [])) (given ++ (name, word) ∷ []) (stands-push place k given name word (unlike-names place names flags name apart a) stands)
              (rw (arg_by_id-among place names flags name apart a, none) refl) (rw (arg_by_id-among place names flags name apart a, used_so) refl))
        ]

    -- a long option fails where a value is waited for
    fails-option : (k : ℕ) (name : List ℕ) (given : List Given) (other : List ℕ) (v : Option (List ℕ)) → is_among names name ≡ true → long_of word ≡ Some (other, v) → is_among names other ≡ true → turn this (waiting k name given) word ≡ [] → ⊥
    fails-option k name given other None a l b f = let g = rw (plain, l, arg_by_long-among place names flags other b, arg_by_id-among place names flags name apart a) at f in cc g
    fails-option k name given other (Some v) a l b f = let g = rw (plain, l, arg_by_long-among place names flags other b, arg_by_id-among place names flags name apart a) at f in cc g

    fails-flag : (k : ℕ) (name : List ℕ) (given : List Given) (other : List ℕ) (v : Option (List ℕ)) → is_among names name ≡ true → long_of word ≡ Some (other, v) → is_among names other ≡ false → is_among flags other ≡ true →
        turn this (waiting k name given) word ≡ [] → ⊥
    fails-flag k name given other None a l u n f = let g = rw (plain, l, arg_by_long-flag place names flags other u n, arg_by_id-among place names flags name apart a) at f in cc g
    fails-flag k name given other (Some v) a l u n f = let g = rw (plain, l, arg_by_long-flag place names flags other u n) at f in cc g

    fails-unlike : (k : ℕ) (name : List ℕ) (given : List Given) (other : List ℕ) (v : Option (List ℕ)) → is_among names name ≡ true → long_of word ≡ Some (other, v) → is_among names other ≡ false → turn this (waiting k name given) word ≡ [] → ⊥
    fails-unlike k name given other v a l u f =
        elim (cases_Bool (is_among flags other)) [
          | inl n ↦ fails-flag k name given other v a l u n f
          | inr n ↦ let g = rw (plain, l, arg_by_long-unknown place names flags other u n) at f in cc g
        ]

    long-fails : (k : ℕ) (name : List ℕ) (given : List Given) (other : List ℕ) (v : Option (List ℕ)) → is_among names name ≡ true → long_of word ≡ Some (other, v) → turn this (waiting k name given) word ≡ [] → ⊥
    long-fails k name given other v a l f =
        elim (cases_Bool (is_among names other)) [
          | inl b ↦ fails-option k name given other v a l b f
          | inr u ↦ fails-unlike k name given other v a l u f
        ]

    -- a word that is no option
    take-value : (k : ℕ) (name : List ℕ) (given : List Given) → Stands place k given → is_among names name ≡ true → is_option_word word ≡ false → turn this (waiting k name given) word ≡ [] → walked every [] (waiting k name given) word ≡ state_at k (rows given) (Some (name, word ∷ [])) idle →
        Agrees this (options_from place names flags (value_of name) given (word ∷ words)) (waiting k name given) (word ∷ words)
    take-value k name given stands a unlike t e = rw unlike (agrees-skip this _ (waiting k name given) (state_at k (rows given) (Some (name, word ∷ [])) idle) word words t e (got-value k name given stands a))

    value-chars : (k : ℕ) (name : List ℕ) (given : List Given) (short : List ℕ) (c : Option ℕ) → Stands place k given → is_among names name ≡ true → long_of word ≡ None → short_of word ≡ Some short → slice_get (chars short) 0 ≡ c →
        Agrees this (options_from place names flags (value_of name) given (word ∷ words)) (waiting k name given) (word ∷ words)
    unfolding walked flags_fault bundle_met chars
    value-chars k name given [] None stands a l s e =
        take-value k name given stands a (rw (plain, l, s) refl) (rw (plain, l, s) refl) (rw (plain, l, s, arg_by_id-among place names flags name apart a, eq-refl name) refl)
    value-chars k name given [] (Some y) stands a l s e = cc e
    value-chars k name given (x ∷ xs) None stands a l s e =
        take-value k name given stands a (rw (plain, l, s, e) refl) (rw (plain, l, s, e) refl) (rw (plain, l, s, e, arg_by_id-among place names flags name apart a, eq-refl name) refl)
    value-chars k name given (x ∷ xs) (Some y) stands a l s e =
        let dashed : is_option_word word ≡ true = rw (plain, l, s, e) refl in
        rw dashed (agrees-stop this (waiting k name given) word words (λ f. let g = rw (plain, l, s, e, arg_by_short-none place names flags y) at f in cc g))

    value-short : (k : ℕ) (name : List ℕ) (given : List Given) (t : Option (List ℕ)) → Stands place k given → is_among names name ≡ true → long_of word ≡ None → short_of word ≡ t →
        Agrees this (options_from place names flags (value_of name) given (word ∷ words)) (waiting k name given) (word ∷ words)
    unfolding walked
    value-short k name given None stands a l s = take-value k name given stands a (rw (plain, l, s) refl) (rw (plain, l, s) refl) (rw (plain, l, s, arg_by_id-among place names flags name apart a, eq-refl name) refl)
    value-short k name given (Some short) stands a l s = value-chars k name given short _ stands a l s refl

    value-long : (k : ℕ) (name : List ℕ) (given : List Given) (t : Option (List ℕ × Option (List ℕ))) → Stands place k given → is_among names name ≡ true → long_of word ≡ t →
        Agrees this (options_from place names flags (value_of name) given (word ∷ words)) (waiting k name given) (word ∷ words)
    value-long k name given None stands a l = value-short k name given (short_of word) stands a l refl
    value-long k name given (Some (other, v)) stands a l =
        let dashed : is_option_word word ≡ true = rw (plain, l) refl in
        rw dashed (agrees-stop this (waiting k name given) word words (long-fails k name given other v a l))

    more-facts : Facts command place names flags apart (word ∷ words)
    more-facts = record {
      idle_fact = λ k found p given stands s h. idle-long k found p given (long_of word) stands s h refl;
      value_fact = λ k name given stands a. value-long k name given (long_of word) stands a refl;
    }

  facts : (words : List (List ℕ)) → list_any is_dashes words ≡ false → Facts command place names flags apart words
  facts [] clean = nil-facts command place names flags apart
  facts (word ∷ words) clean = let parts = or_parts (is_dashes word) (list_any is_dashes words) clean in more-facts word words parts.0 parts.1 (facts words parts.1)

-- at the beginning the place is free
stands-first : (place : Option (List ℕ)) → Stands place 1 []
stands-first None = tt
stands-first (Some at) = inl (refl, refl)

-- the words after the name of a subcommand with options: they are read, exactly where they give options of its names,
-- and at most one word in its place
pub options-read : (command : List ℕ) (place : Option (List ℕ)) (names flags : List (List ℕ)) → IsApart place names flags → (words : List (List ℕ)) → list_any is_dashes words ≡ false →
    Agrees (shape command place names flags) (options_from place names flags option [] words) (state_at 1 [] None idle) words
options-read command place names flags apart words clean = (facts command place names flags apart words clean).idle_fact 1 [] None [] (stands-first place) refl refl
