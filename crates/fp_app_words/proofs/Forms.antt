-- What a parse of the words says of their order.
use Rattle.std.proofs.Common.{◌≡◌, ◌∙◌, ℕ, Bool, true, false, List, [], ◌∷◌, arith, length, map, refl, sym, ap, String, Global}
use Rattle.std.specs.Prelude.{Option, Some, None, codes, option_and_then, option_map, if◌then◌else◌, string_bytes, ◌&&◌, ◌||◌}
use Rattle.std.specs.List.{list_any, zip}
use Rattle.std.proofs.lemmas.Bool.{or_parts}
use Rattle.clap.specs.Faults.{fault_of}
use Rattle.clap.specs.Simple.{Shape, subcommand_of}
use Rattle.clap.specs.Walk.{first_of}
use Rattle.fp_records_fields.specs.Fields.{number}
use Rattle.fp_model.specs.declared.limits.TheConstants.{MOST_SHIPMENTS, MOST_TERMINALS}
use Rattle.fp_session_history.specs.declared.budgets.Budget.{Budget}
use Rattle.fp_app_words.specs.declared.orders.Order.{Order}
use Rattle.fp_app_words.specs.declared.orders.Order.TheVariants.{Direct, Check, Improve, Plan, Trial, Yard}
use Rattle.fp_app_words.specs.declared.orders.TheConstants.{FEWEST_TERMINALS, GREATEST_SEED}
use Rattle.fp_app_words.specs.Commands.{app, entered_order, is_dashes, was_given}
use Rattle.fp_app_words.specs.Options.{Given, is_among, is_given, value_given}
use Rattle.fp_app_words.specs.Places.{by_places}
use Rattle.fp_app_words.specs.Settings.{bound_by, bound_options, budget_by, budget_options, fleet_by, fleet_options, improve_by, is_number_between, names_of, plan_by, plan_options, quote_by, quote_options, replan_by, scaled_by, seconds_by, trial_settings, yard_settings}
use Rattle.fp_app_words.specs.Words.{forms, order_of, texts}
use Rattle.fp_app_words.proofs.BareWords.{leaf}
use Rattle.fp_app_words.proofs.FirstWords.{faults-none}
use Rattle.fp_app_words.proofs.FlagDefaults.{all_rows, first_of-all_rows, was_given-all_rows}
use Rattle.fp_app_words.proofs.GivenRows.{rows}
use Rattle.fp_app_words.proofs.OptionForms.{options-reads}
use Rattle.fp_app_words.proofs.Parses.{AllRead, alone-reads, choice, dashes-by, failed-choice, passed-choice}
use Rattle.fp_app_words.proofs.PlaceForms.{places-reads}

-- what options come to, as they were given or by the rows of a parse
seconds_by-rows : (flags : List (List ℕ)) (given : List Given) → is_among flags (codes "seconds") ≡ false → seconds_by (λ name. first_of name (all_rows flags given)) ≡ seconds_by (value_given given)
seconds_by-rows flags given seconds = rw (first_of-all_rows flags given (codes "seconds") seconds) refl

bound_by-rows : (given : List Given) → bound_by (λ name. first_of name (all_rows bound_options.flags given)) (λ name. was_given name (all_rows bound_options.flags given)) ≡ bound_by (value_given given) (is_given given)
bound_by-rows given = rw (seconds_by-rows bound_options.flags given refl, was_given-all_rows bound_options.flags given (codes "spans")) refl

fleet_by-rows : (given : List Given) → fleet_by (λ name. was_given name (all_rows fleet_options.flags given)) ≡ fleet_by (is_given given)
fleet_by-rows given = rw (was_given-all_rows fleet_options.flags given (codes "trucks")) refl

budget_by-rows : (flags : List (List ℕ)) (given : List Given) → is_among flags (codes "rounds") ≡ false → is_among flags (codes "branches") ≡ false → budget_by (λ name. first_of name (all_rows flags given)) ≡ budget_by (value_given given)
budget_by-rows flags given rounds branches = rw (first_of-all_rows flags given (codes "rounds") rounds, first_of-all_rows flags given (codes "branches") branches) refl

scaled_by-rows : (order : Budget → ℕ → Bool → Option ℕ → Bool → Order) (given : List Given) → scaled_by order (λ name. first_of name (all_rows plan_options.flags given)) (λ name. was_given name (all_rows plan_options.flags given)) ≡ scaled_by order (value_given given) (is_given given)
scaled_by-rows order given =
    rw (budget_by-rows plan_options.flags given refl refl, first_of-all_rows plan_options.flags given (codes "scale") refl, seconds_by-rows plan_options.flags given refl, was_given-all_rows plan_options.flags given (codes "spans"), was_given-all_rows plan_options.flags given (codes "notes")) refl

replan_by-rows : (given : List Given) → replan_by (λ name. first_of name (all_rows budget_options.flags given)) (λ name. was_given name (all_rows budget_options.flags given)) ≡ replan_by (value_given given) (is_given given)
replan_by-rows given = rw (budget_by-rows budget_options.flags given refl refl, seconds_by-rows budget_options.flags given refl, was_given-all_rows budget_options.flags given (codes "spans"), was_given-all_rows budget_options.flags given (codes "notes")) refl

quote_by-rows : (given : List Given) → quote_by (λ name. first_of name (all_rows quote_options.flags given)) (λ name. was_given name (all_rows quote_options.flags given)) ≡ quote_by (value_given given) (is_given given)
quote_by-rows given =
    rw (budget_by-rows quote_options.flags given refl refl, seconds_by-rows quote_options.flags given refl, was_given-all_rows quote_options.flags given (codes "spans"), was_given-all_rows quote_options.flags given (codes "notes"), first_of-all_rows quote_options.flags given (codes "name") refl) refl

-- three numbers, one after the other or at once
three-numbers : (a b c : Bool) (x y z : ℕ) →
    option_and_then (λ seed. option_and_then (λ terminals. option_map (λ shipments. Trial seed terminals shipments) (if c then Some z else None)) (if b then Some y else None)) (if a then Some x else None)
    ≡ (if a && (b && (c && true)) then Some (Trial x y z) else None)
three-numbers true true true x y z = refl
three-numbers true true false x y z = refl
three-numbers true false c x y z = refl
three-numbers false b c x y z = refl

trial-gives : (words : List (List ℕ)) → length words ≡ length (names_of trial_settings) → entered_order (codes "trial", rows (zip (names_of trial_settings) words)) ≡ by_places trial_settings (λ n. Trial (n 0) (n 1) (n 2)) words
trial-gives [] e = absurd (omega (arith, e))
trial-gives (a ∷ []) e = absurd (omega (arith, e))
trial-gives (a ∷ b ∷ []) e = absurd (omega (arith, e))
trial-gives (a ∷ b ∷ c ∷ []) e = three-numbers (is_number_between 0 GREATEST_SEED a) (is_number_between FEWEST_TERMINALS MOST_TERMINALS b) (is_number_between 0 MOST_SHIPMENTS c) (number a) (number b) (number c)
trial-gives (a ∷ b ∷ c ∷ d ∷ words) e = absurd (omega (arith, e))

one-number : (a : Bool) (x : ℕ) → option_map (λ seed. Yard seed) (if a then Some x else None) ≡ (if a && true then Some (Yard x) else None)
one-number true x = refl
one-number false x = refl

yard-gives : (words : List (List ℕ)) → length words ≡ length (names_of yard_settings) → entered_order (codes "yard", rows (zip (names_of yard_settings) words)) ≡ by_places yard_settings (λ n. Yard (n 0)) words
yard-gives [] e = absurd (omega (arith, e))
yard-gives (a ∷ []) e = one-number (is_number_between 0 GREATEST_SEED a) (number a)
yard-gives (a ∷ b ∷ words) e = absurd (omega (arith, e))

-- the subcommands as they are built
abbrev leaves : List Shape
leaves = map leaf app.subs

-- each form has its subcommand
all-read : AllRead forms leaves
all-read = (
  alone-reads (codes "direct") Direct refl refl,
  (
    alone-reads (codes "check") Check refl refl,
    (
      options-reads (codes "bound") bound_options (λ given. bound_by (value_given given) (is_given given)) bound_by-rows refl tt,
      (
        options-reads (codes "plan") plan_options (λ given. plan_by (value_given given) (is_given given)) (scaled_by-rows (λ budget scale spans seconds notes. Plan budget scale spans seconds notes)) refl tt,
        (
          options-reads (codes "improve") plan_options (λ given. improve_by (value_given given) (is_given given)) (scaled_by-rows (λ budget scale spans seconds notes. Improve budget scale spans seconds notes)) refl tt,
          (
            places-reads (codes "trial") trial_settings (λ n. Trial (n 0) (n 1) (n 2)) trial-gives refl (refl, refl, refl, λ seed. (refl, refl, refl, λ terminals. (refl, refl, refl, λ shipments. refl))),
            (
              places-reads (codes "yard") yard_settings (λ n. Yard (n 0)) yard-gives refl (refl, refl, refl, λ seed. refl),
              (
                options-reads (codes "fleet") fleet_options (λ given. fleet_by (is_given given)) fleet_by-rows refl tt,
                (
                  options-reads (codes "replan") budget_options (λ given. replan_by (value_given given) (is_given given)) replan_by-rows refl tt,
                  (options-reads (codes "quote") quote_options (λ given. quote_by (value_given given) (is_given given)) quote_by-rows refl (refl, refl), tt),
                ),
              ),
            ),
          ),
        ),
      ),
    ),
  ),
)

-- a test of each word, by its bytes
list_any-texts : (words : List (String Global)) → list_any (λ word. is_dashes (string_bytes word)) words ≡ list_any is_dashes (texts words)
list_any-texts [] = refl
list_any-texts (word ∷ words) = ap (λ (b : Bool). is_dashes (string_bytes word) || b) (list_any-texts words)

-- after a parse that succeeds
pub order_of-passed : (words : List (String Global)) → list_any (λ word. is_dashes (string_bytes word)) words ≡ false → fault_of app (texts words) ≡ []
    → order_of (texts words) ≡ option_and_then entered_order (subcommand_of app (texts words))
order_of-passed [] clean none = absurd (faults-none leaves none)
order_of-passed (word ∷ words) clean none =
    let parts = or_parts (is_dashes (string_bytes word)) (list_any is_dashes (texts words)) (sym (list_any-texts (word ∷ words)) ∙ clean) in
    passed-choice forms leaves (string_bytes word) (texts words) (choice forms leaves (string_bytes word) all-read) parts.0 parts.1 none

-- after one that fails, and not for want of memory
pub order_of-failed : (words : List (String Global)) → list_any (λ word. is_dashes (string_bytes word)) words ≡ false → (fault_of app (texts words) ≡ [] → ⊥) → order_of (texts words) ≡ None
order_of-failed [] clean fails = refl
order_of-failed (word ∷ words) clean fails =
    let parts = or_parts (is_dashes (string_bytes word)) (list_any is_dashes (texts words)) (sym (list_any-texts (word ∷ words)) ∙ clean) in
    failed-choice forms leaves (string_bytes word) (texts words) (choice forms leaves (string_bytes word) all-read) parts.1 fails

-- where a word is `--`
pub order_of-dashes : (words : List (String Global)) → list_any (λ word. is_dashes (string_bytes word)) words ≡ true → order_of (texts words) ≡ None
order_of-dashes [] e = refl
order_of-dashes (word ∷ words) e = dashes-by forms leaves (string_bytes word) (texts words) all-read (sym (list_any-texts (word ∷ words)) ∙ e)
