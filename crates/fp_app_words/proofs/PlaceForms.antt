-- A form with places is read by a subcommand that has them.
use Rattle.std.proofs.Common.{◌≡◌, ◌∙◌, ℕ, Bool, true, false, List, [], ◌∷◌, ◌++◌, length, refl, sym, ap, inl, inr, append_assoc}
use Rattle.std.specs.Prelude.{Option, Some, None, ◌==◌, ◌&&◌, fold}
use Rattle.std.specs.List.{list_any, list_all, zip}
use Rattle.std.proofs.lemmas.Bool.{cases_Bool}
use Rattle.std.proofs.lemmas.Bool.Decides.{Decides-eqb}
use Rattle.std.proofs.lemmas.List.{append-nil}
use Rattle.std.proofs.Math.Bool.{and-false}
use Rattle.std.proofs.Math.Dec.{eqb-suc-suc, eqb-suc-zero, eqb-zero-suc}
use Rattle.clap.specs.Walk.{Row, idle, rows_after, with_default}
use Rattle.clap.specs.Simple.{rows_at}
use Rattle.fp_records_fields.specs.Fields.{is_number}
use Rattle.fp_app_words.specs.declared.orders.Order.{Order}
use Rattle.fp_app_words.specs.Commands.{entered_order, is_dashes}
use Rattle.fp_app_words.specs.Options.{Given, is_option_word}
use Rattle.fp_app_words.specs.Places.{are_numbers, by_places}
use Rattle.fp_app_words.specs.Settings.{Setting, is_number_between, names_of}
use Rattle.fp_app_words.proofs.FirstWords.{rest_faults}
use Rattle.fp_app_words.proofs.GivenRows.{rows}
use Rattle.fp_app_words.proofs.NoDefaults.{fold-with_default}
use Rattle.fp_app_words.proofs.Parses.{Reads}
use Rattle.fp_app_words.proofs.PlaceRules.{places, places-no_defaults}
use Rattle.fp_app_words.proofs.PlaceWords.{Stands, placed_from, places-read, shape}
use Rattle.fp_app_words.proofs.Walks.{Agrees, state_at}

and-swap : (a b c : Bool) → (a && (b && c)) ≡ (b && (a && c))
and-swap true b c = refl
and-swap false true c = refl
and-swap false false c = refl

-- an option is no number
is_number-option_word : (word : List ℕ) → is_option_word word ≡ true → is_number word ≡ false
is_number-option_word [] dashed = refl
is_number-option_word (x ∷ xs) dashed =
    elim (cases_Bool (x == 45)) [
      | inl t ↦ let hyphen : x ≡ 45 = (Decides-eqb x 45).0 t in rw (hyphen, eqb-suc-zero (length xs)) refl
      | inr f ↦ let g = rw f at dashed in cc g
    ]

is_number_between-option_word : (least most : ℕ) (word : List ℕ) → is_option_word word ≡ true → is_number_between least most word ≡ false
is_number_between-option_word least most word dashed = rw (is_number-option_word word dashed) refl

are_numbers-cons : (s : Setting) (settings : List Setting) (word : List ℕ) (words : List (List ℕ)) → are_numbers (s ∷ settings) (word ∷ words) ≡ (is_number_between s.least s.most word && are_numbers settings words)
are_numbers-cons s settings word words =
    rw (eqb-suc-suc (length words) (length settings)) (and-swap (length words == length settings) (is_number_between s.least s.most word) (list_all (λ (p : Setting × List ℕ). is_number_between p.0.least p.0.most p.1) (zip settings words)))

-- words that fill the places give each word by the name of its place
placed-some : (given more : List Given) (names words : List (List ℕ)) → placed_from given names words ≡ Some more → (length words ≡ length names) × (more ≡ given ++ zip names words)
placed-some given more [] [] is = (refl, rw (append-nil given) (cc is))
placed-some given more [] (word ∷ words) is = cc is
placed-some given more (name ∷ names) [] is = cc is
placed-some given more (name ∷ names) (word ∷ words) is =
    elim (cases_Bool (is_option_word word)) [
      | inl dashed ↦ let g = rw dashed at is in cc g
      | inr plain ↦
          let rest = placed-some (given ++ (name, word) ∷ []) more names words (rw plain at is) in
          (rw rest.0 refl, rest.1 ∙ append_assoc given ((name, word) ∷ []) (zip names words))
    ]

-- and words that don't aren't numbers in the places
placed-none : (given : List Given) (settings : List Setting) (words : List (List ℕ)) → placed_from given (names_of settings) words ≡ None → are_numbers settings words ≡ false
placed-none given [] [] is = cc is
placed-none given [] (word ∷ words) is = rw (eqb-suc-zero (length words)) refl
placed-none given (s ∷ settings) [] is = rw (eqb-zero-suc (length settings)) refl
placed-none given (s ∷ settings) (word ∷ words) is =
    are_numbers-cons s settings word words
    ∙ elim (cases_Bool (is_option_word word)) as (λ _. (is_number_between s.least s.most word && are_numbers settings words) ≡ false) [
      | inl dashed ↦ rw (is_number_between-option_word s.least s.most word dashed) refl
      | inr plain ↦ rw (placed-none (given ++ (s.name, word) ∷ []) settings words (rw plain at is)) (and-false (is_number_between s.least s.most word))
    ]

are_numbers-dashes : (settings : List Setting) (words : List (List ℕ)) → list_any is_dashes words ≡ true → are_numbers settings words ≡ false
are_numbers-dashes settings [] e = cc e
are_numbers-dashes [] (word ∷ words) e = rw (eqb-suc-zero (length words)) refl
are_numbers-dashes (s ∷ settings) (word ∷ words) e =
    are_numbers-cons s settings word words
    ∙ elim (cases_Bool (is_dashes word)) as (λ _. (is_number_between s.least s.most word && are_numbers settings words) ≡ false) [
      | inl t ↦ rw (is_number_between-option_word s.least s.most word (rw t refl)) refl
      | inr f ↦ rw (are_numbers-dashes settings words (rw f at e)) (and-false (is_number_between s.least s.most word))
    ]

module _ (command : List ℕ) (settings : List Setting) (order : (ℕ → ℕ) → Order)
    (gives : (words : List (List ℕ)) → length words ≡ length (names_of settings) → entered_order (command, rows (zip (names_of settings) words)) ≡ by_places settings order words) where
  passed-by : (o : Option (List Given)) (words : List (List ℕ)) → placed_from [] (names_of settings) words ≡ o → Agrees (shape command (names_of settings)) o (state_at 1 [] None idle) words
      → rest_faults (shape command (names_of settings)) words ≡ [] → by_places settings order words ≡ entered_order (rows_at (shape command (names_of settings)) words)
  passed-by None words is agrees none = absurd (agrees none)
  passed-by (Some given) words is agrees none =
      let filled = placed-some [] given (names_of settings) words is in
      let found : rows_after (places 1 (names_of settings)) [] words ≡ rows given =
      ap (λ (r : List Row). fold with_default r (places 1 (names_of settings))) agrees.1 ∙ fold-with_default (rows given) (places 1 (names_of settings)) (places-no_defaults 1 (names_of settings)) in
      sym (gives words filled.0) ∙ sym (ap (λ (g : List Given). entered_order (command, rows g)) filled.1) ∙ sym (ap (λ (r : List Row). entered_order (command, r)) found)

  failed-by : (o : Option (List Given)) (words : List (List ℕ)) → placed_from [] (names_of settings) words ≡ o → Agrees (shape command (names_of settings)) o (state_at 1 [] None idle) words
      → (rest_faults (shape command (names_of settings)) words ≡ [] → ⊥) → ◌≡◌ {A = Option Order} (by_places settings order words) None
  failed-by None words is agrees fails = rw (placed-none [] settings words is) refl
  failed-by (Some given) words is agrees fails = absurd (fails agrees.0)

  -- a command with places, whose subcommand orders what its rows give
  pub places-reads : is_dashes command ≡ false → Stands (places 1 (names_of settings)) [] 1 (names_of settings) → Reads (record { name = command; order = by_places settings order }) (shape command (names_of settings))
  places-reads plain stands = record {
    name = refl;
    aliases = refl;
    plain = plain;
    passed = λ words clean none. passed-by (placed_from [] (names_of settings) words) words refl (places-read command (names_of settings) stands words clean) none;
    failed = λ words clean fails. failed-by (placed_from [] (names_of settings) words) words refl (places-read command (names_of settings) stands words clean) fails;
    dashes = λ words e. rw (are_numbers-dashes settings words e) refl;
  }
