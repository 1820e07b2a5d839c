-- Whatever the words, a limit of time is within its range.
use Rattle.std.proofs.Common.{◌≡◌, ℕ, ◌≤◌, Bool, true, List, [], ◌∷◌, inl, inr, arith}
use Rattle.std.specs.Prelude.{⊤, codes, Option, Some, None, option_and_then, option_map, ◌&&◌, nat_le, length}
use Rattle.std.specs.Str.{bytes_eq}
use Rattle.std.proofs.lemmas.Bool.{and_parts, cases_Bool, leb-true}
use Rattle.fp_records_fields.specs.Fields.{is_number, is_within, number, number_at}
use Rattle.fp_model.specs.declared.limits.TheConstants.{SCALE}
use Rattle.fp_session_history.specs.declared.budgets.Budget.{Budget}
use Rattle.fp_app_words.specs.declared.orders.Order.{Order}
use Rattle.fp_app_words.specs.declared.orders.Order.TheVariants.{Bound, Check, Direct, Improve, Plan, Quote, Replan, Trial, Yard}
use Rattle.fp_app_words.specs.declared.orders.TheConstants.{MOST_SECONDS}
use Rattle.fp_app_words.specs.declared.settings.TheConstants.{LONGEST_NUMBER}
use Rattle.fp_app_words.specs.Options.{Given, by_options, is_given, options_of, value_given}
use Rattle.fp_app_words.specs.Places.{are_numbers, by_places}
use Rattle.fp_app_words.specs.Settings.{IsTimeLimit, Options, Setting, begins_with_zero, bound_by, bound_options, budget_by, budget_options, fleet_by, fleet_options, improve_by, is_number_between, number_if, option_number, plan_by, plan_options, quote_by, quote_options, replan_by, scale_setting, scaled_by, seconds_by, trial_settings, yard_settings}
use Rattle.fp_app_words.specs.TimeLimits.{TimeLimitsHold, halved, seconds_of}
use Rattle.fp_app_words.specs.Words.{Form, alone, forms, order_by}

-- an order has a limit of time within its range, or none
abbrev Holds : Option Order → Type 0
Holds o = IsTimeLimit (seconds_of o)

-- a number that was read between two others lies there
between : (least most : ℕ) (text : List ℕ) → is_number_between least most text ≡ true → (least ≤ number text) × (number text ≤ most)
between least most text is =
    let outer = and_parts (is_number text && nat_le (length text) LONGEST_NUMBER) (is_within least most text) is in
    let ends = and_parts (nat_le least (number text)) (nat_le (number text) most) outer.1 in
    (leb-true least (number text) ends.0, leb-true (number text) most ends.1)

-- what is ordered by a limit of time
limit-holds : (f : Option ℕ → Order) → ((s : Option ℕ) → IsTimeLimit s → Holds (Some (f s))) → (o : Option (List ℕ)) → Holds (option_map f (number_if 1 MOST_SECONDS o))
limit-holds f each None = each None tt
limit-holds f each (Some text) =
    elim (cases_Bool (begins_with_zero text)) [
      | inl zero ↦ rw zero tt
      | inr other ↦
          elim (cases_Bool (is_number_between 1 MOST_SECONDS text)) [
            | inl is ↦ rw (other, is) (each (Some (number text)) (between 1 MOST_SECONDS text is))
            | inr bad ↦ rw (other, bad) tt
          ]
    ]

-- what is ordered by something else first
then-holds : {A : Type 0} (f : A → Option Order) → ((x : A) → Holds (f x)) → (o : Option A) → Holds (option_and_then f o)
then-holds f each None = tt
then-holds f each (Some x) = each x

-- half of a limit is one
halved-holds : (s : Option ℕ) → IsTimeLimit s → IsTimeLimit (halved s)
halved-holds None is = tt
halved-holds (Some n) is = (omega (arith, is.0), omega (arith, is.1))

-- the commands with options
module _ (text : List ℕ → Option (List ℕ)) (given : List ℕ → Bool) where
  bound-holds : Holds (bound_by text given)
  bound-holds = limit-holds (λ seconds. Bound (given (codes "spans")) seconds) (λ s is. is) (text (codes "seconds"))

  scaled-holds : (order : Budget → ℕ → Bool → Option ℕ → Bool → Order) → ((budget : Budget) (scale : ℕ) (spans : Bool) (s : Option ℕ) (notes : Bool) → IsTimeLimit s → Holds (Some (order budget scale spans s notes))) → Holds (scaled_by order text given)
  scaled-holds order each =
      then-holds (λ (budget : Budget). option_and_then (λ scale. option_map (λ seconds. order budget scale (given (codes "spans")) seconds (given (codes "notes"))) (seconds_by text)) (option_number SCALE scale_setting text))
      (λ budget. then-holds (λ scale. option_map (λ seconds. order budget scale (given (codes "spans")) seconds (given (codes "notes"))) (seconds_by text))
      (λ scale. limit-holds (λ seconds. order budget scale (given (codes "spans")) seconds (given (codes "notes"))) (λ s is. each budget scale (given (codes "spans")) s (given (codes "notes")) is) (text (codes "seconds"))) (option_number SCALE scale_setting text)) (budget_by text)

  plan-holds : Holds (plan_by text given)
  plan-holds = scaled-holds (λ budget scale spans seconds notes. Plan budget scale spans seconds notes) (λ budget scale spans s notes is. is)

  improve-holds : Holds (improve_by text given)
  improve-holds = scaled-holds (λ budget scale spans seconds notes. Improve budget scale spans seconds notes) (λ budget scale spans s notes is. is)

  replan-holds : Holds (replan_by text given)
  replan-holds =
      then-holds (λ (budget : Budget). option_map (λ seconds. Replan budget (given (codes "spans")) seconds (given (codes "notes"))) (seconds_by text))
      (λ budget. limit-holds (λ seconds. Replan budget (given (codes "spans")) seconds (given (codes "notes"))) (λ s is. is) (text (codes "seconds"))) (budget_by text)

  quote-holds : Holds (quote_by text given)
  quote-holds =
      then-holds (λ (budget : Budget). option_map (λ seconds. Quote budget (given (codes "spans")) seconds (given (codes "notes")) (text (codes "name"))) (seconds_by text))
      (λ budget. limit-holds (λ seconds. Quote budget (given (codes "spans")) seconds (given (codes "notes")) (text (codes "name"))) halved-holds (text (codes "seconds"))) (budget_by text)

-- a form's orders hold
abbrev FormHolds : Form → Type 0
FormHolds form = (words : List (List ℕ)) → Holds (form.order words)

alone-holds : (order : Order) → Holds (Some order) → (words : List (List ℕ)) → Holds (alone order words)
alone-holds order holds [] = holds
alone-holds order holds (word ∷ words) = tt

options-hold : (options : Options) (order : List Given → Option Order) → ((given : List Given) → Holds (order given)) → (words : List (List ℕ)) → Holds (by_options options order words)
options-hold options order each words = then-holds order each (options_of options words)

places-hold : (settings : List Setting) (order : (ℕ → ℕ) → Order) → ((n : ℕ → ℕ) → Holds (Some (order n))) → (words : List (List ℕ)) → Holds (by_places settings order words)
places-hold settings order each words =
    elim (cases_Bool (are_numbers settings words)) [
      | inl t ↦ rw t (each (number_at words))
      | inr f ↦ rw f tt
    ]

-- so do those of the first form that has a name
abbrev AllHold : List Form → Type 0
AllHold [] = ⊤
AllHold (form ∷ others) = FormHolds form × AllHold others

first-holds : (list : List Form) → AllHold list → (word : List ℕ) (words : List (List ℕ)) → Holds (order_by list word words)
first-holds [] all word words = tt
first-holds (form ∷ others) all word words =
    elim (cases_Bool (bytes_eq form.name word)) [
      | inl t ↦ rw t (all.0 words)
      | inr f ↦ rw f (first-holds others all.1 word words)
    ]

all-hold : AllHold forms
all-hold = (
  alone-holds Direct tt,
  (
    alone-holds Check tt,
    (
      options-hold bound_options (λ given. bound_by (value_given given) (is_given given)) (λ given. bound-holds (value_given given) (is_given given)),
      (
        options-hold plan_options (λ given. plan_by (value_given given) (is_given given)) (λ given. plan-holds (value_given given) (is_given given)),
        (
          options-hold plan_options (λ given. improve_by (value_given given) (is_given given)) (λ given. improve-holds (value_given given) (is_given given)),
          (
            places-hold trial_settings (λ n. Trial (n 0) (n 1) (n 2)) (λ n. tt),
            (
              places-hold yard_settings (λ n. Yard (n 0)) (λ n. tt),
              (
                options-hold fleet_options (λ given. fleet_by (is_given given)) (λ given. tt),
                (
                  options-hold budget_options (λ given. replan_by (value_given given) (is_given given)) (λ given. replan-holds (value_given given) (is_given given)),
                  (
                    options-hold quote_options (λ given. quote_by (value_given given) (is_given given)) (λ given. quote-holds (value_given given) (is_given given)),
                    tt,
                  ),
                ),
              ),
            ),
          ),
        ),
      ),
    ),
  ),
)

pub TimeLimitsHold_hold : TimeLimitsHold
TimeLimitsHold_hold [] = tt
TimeLimitsHold_hold (word ∷ words) = first-holds forms all-hold word words
