-- A form with options is read by a subcommand that has them.
use Rattle.std.proofs.Common.{◌≡◌, ◌∙◌, ℕ, true, false, List, [], ◌∷◌, ◌++◌, map, refl, sym, ap, inl, inr}
use Rattle.std.specs.Prelude.{Option, Some, None, codes, fold, option_and_then}
use Rattle.std.specs.List.{list_any}
use Rattle.std.proofs.lemmas.Bool.{cases_Bool}
use Rattle.std.proofs.lemmas.Slice.Eq.{bytes_eq-Decides}
use Rattle.clap.specs.Lexer.{long_of}
use Rattle.clap.specs.Walk.{Row, idle, rows_after, with_default}
use Rattle.clap.specs.Simple.{rows_at}
use Rattle.fp_app_words.specs.declared.orders.Order.{Order}
use Rattle.fp_app_words.specs.Commands.{entered_order, is_dashes}
use Rattle.fp_app_words.specs.Options.{Given, Role, by_options, is_among, is_given, is_option_word, option, options_from, options_of, place_at, value_of, with_value, word_at}
use Rattle.fp_app_words.specs.Settings.{Options, names_of}
use Rattle.fp_app_words.proofs.FirstWords.{rest_faults}
use Rattle.fp_app_words.proofs.FlagDefaults.{all_rows}
use Rattle.fp_app_words.proofs.GivenRows.{rows}
use Rattle.fp_app_words.proofs.NoDefaults.{fold-with_default-more}
use Rattle.fp_app_words.proofs.OptionRules.{IsApart, flag_rules, options-no_defaults, rule, rules, slots, slots-no_defaults}
use Rattle.fp_app_words.proofs.OptionWords.{options-read, shape}
use Rattle.fp_app_words.proofs.Parses.{Reads}
use Rattle.fp_app_words.proofs.Walks.{Agrees, state_at}

module _ (place : Option (List ℕ)) (names flags : List (List ℕ)) where
  -- the words give no options, whatever the next one is and whatever was given before
  abbrev None_from : List (List ℕ) → Type 0
  None_from words = (role : Role) (given : List Given) → options_from place names flags role given words ≡ None

  value-none : (given : List Given) (name value : List ℕ) (words : List (List ℕ)) → None_from words →
      ◌≡◌ {A = Option (List Given)} (option_and_then (λ more. options_from place names flags option more words) (with_value given name value)) None
  value-none given name value words none =
      elim (cases_Bool (is_given given name)) [
        | inl t ↦ rw t refl
        | inr f ↦ rw f (none option (given ++ (name, value) ∷ []))
      ]

  option-none : (given : List Given) (word : List ℕ) (t : Option (List ℕ × Option (List ℕ))) (words : List (List ℕ)) → None_from words →
      ◌≡◌ {A = Option (List Given)} (word_at place names flags (λ role more. options_from place names flags role more words) given word t) None
  option-none given word None words none = at-none place refl
    where
      at-none : (at : Option (List ℕ)) → at ≡ place → ◌≡◌ {A = Option (List Given)} (place_at at (λ role more. options_from place names flags role more words) given word) None
      at-none None is = refl
      at-none (Some name) is =
          elim (cases_Bool (is_option_word word)) [
            | inl dashed ↦ rw dashed refl
            | inr plain ↦ rw plain (value-none given name word words none)
          ]
  option-none given word (Some (name, None)) words none =
      elim (cases_Bool (is_among names name)) [
        | inl t ↦ rw t (none (value_of name) given)
        | inr u ↦
            elim (cases_Bool (is_among flags name)) [
              | inl t ↦ rw (u, t) (value-none given name (codes "true") words none)
              | inr f ↦ rw (u, f) refl
            ]
      ]
  option-none given word (Some (name, Some value)) words none =
      elim (cases_Bool (is_among names name)) [
        | inl t ↦ rw t (value-none given name value words none)
        | inr f ↦ rw f refl
      ]

  -- `--` is in no place
  at-dashes : (at : Option (List ℕ)) (given : List Given) (word : List ℕ) (words : List (List ℕ)) → is_option_word word ≡ true → ◌≡◌ {A = Option (List Given)} (place_at at (λ role more. options_from place names flags role more words) given word) None
  at-dashes None given word words dashed = refl
  at-dashes (Some name) given word words dashed = rw dashed refl

  -- words of which one is `--` give no options
  options_from-dashes : (words : List (List ℕ)) → list_any is_dashes words ≡ true → None_from words
  options_from-dashes [] e role given = cc e
  options_from-dashes (word ∷ words) e option given =
      elim (cases_Bool (is_dashes word)) [
        | inl t ↦
            let long : long_of word ≡ None = ap long_of ((bytes_eq-Decides word (codes "--")).0 t) in
            rw long (at-dashes place given word words (rw t refl))
        | inr f ↦ option-none given word (long_of word) words (options_from-dashes words (rw f at e))
      ]
  options_from-dashes (word ∷ words) e (value_of name) given =
      elim (cases_Bool (is_dashes word)) [
        | inl t ↦ rw t refl
        | inr f ↦
            elim (cases_Bool (is_option_word word)) [
              | inl dashed ↦ rw dashed refl
              | inr plain ↦ rw plain (value-none given name word words (options_from-dashes words (rw f at e)))
            ]
      ]

module _ (command : List ℕ) (place : Option (List ℕ)) (names flags : List (List ℕ)) (order : List Given → Option Order) (gives : (given : List Given) → entered_order (command, all_rows flags given) ≡ order given) where
  passed-by : (o : Option (List Given)) (words : List (List ℕ)) → Agrees (shape command place names flags) o (state_at 1 [] None idle) words → rest_faults (shape command place names flags) words ≡ []
      → option_and_then order o ≡ entered_order (rows_at (shape command place names flags) words)
  passed-by None words agrees none = absurd (agrees none)
  passed-by (Some given) words agrees none =
      let found : rows_after (rules place names flags) [] words ≡ all_rows flags given =
      ap (λ (r : List Row). fold with_default r (rules place names flags)) agrees.1
      ∙ fold-with_default-more (rows given) (slots place) (map rule names ++ flag_rules flags) (slots-no_defaults place)
      ∙ fold-with_default-more (rows given) (map rule names) (flag_rules flags) (options-no_defaults names) in
      sym (ap (λ (r : List Row). entered_order (command, r)) found ∙ gives given)

  failed-by : (o : Option (List Given)) (words : List (List ℕ)) → Agrees (shape command place names flags) o (state_at 1 [] None idle) words → (rest_faults (shape command place names flags) words ≡ [] → ⊥)
      → ◌≡◌ {A = Option Order} (option_and_then order o) None
  failed-by None words agrees fails = refl
  failed-by (Some given) words agrees fails = absurd (fails agrees.0)

-- a command with options, whose subcommand orders what its rows give
pub options-reads : (command : List ℕ) (options : Options) (order : List Given → Option Order) → ((given : List Given) → entered_order (command, all_rows options.flags given) ≡ order given) → is_dashes command ≡ false → IsApart options.place (names_of options.settings) options.flags
    → Reads (record { name = command; order = by_options options order }) (shape command options.place (names_of options.settings) options.flags)
options-reads command options order gives plain apart = record {
  name = refl;
  aliases = refl;
  plain = plain;
  passed = λ words clean none. passed-by command options.place names options.flags order gives (options_of options words) words (options-read command options.place names options.flags apart words clean) none;
  failed = λ words clean fails. failed-by command options.place names options.flags order gives (options_of options words) words (options-read command options.place names options.flags apart words clean) fails;
  dashes = λ words e. ap (option_and_then order) (options_from-dashes options.place names options.flags words e option []);
}
  where
    names : List (List ℕ)
    names = names_of options.settings
