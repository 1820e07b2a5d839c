-- What words give a command: its options and places, the ranges of numbers, and what it orders by
-- them.
use Rattle.std.specs.Prelude.{ℕ, ◌≤◌, Bool, false, nat_eq, List, [], ◌∷◌, ◌++◌, ◌&&◌, length, nat_le, codes, map, if◌then◌else◌, None, Some, IfSome, option_and_then, option_map}
use Rattle.std.specs.declared.option.Option.{Option}
use Rattle.fp_records_fields.specs.Fields.{is_number, is_within, number}
use Rattle.fp_session_history.specs.declared.budgets.Budget.{Budget}
use Rattle.fp_session_history.specs.Budgets.{IsBudget}
use Rattle.fp_model.specs.declared.limits.TheConstants.{GREATEST_SCALE, LAST_ROUND, MOST_SHIPMENTS, MOST_TERMINALS, SCALE}
use Rattle.fp_tree.specs.declared.layout.TheConstants.{MOST_SPLITS}
use Rattle.fp_app_words.specs.declared.orders.Order.{Order}
use Rattle.fp_app_words.specs.declared.orders.Order.TheVariants.{Bound, Fleet, Improve, Plan, Quote, Replan, Trial, Yard}
use Rattle.fp_app_words.specs.declared.orders.TheConstants.{FEWEST_TERMINALS, GREATEST_SEED, MOST_SECONDS}
use Rattle.fp_app_words.specs.declared.settings.TheConstants.{LONGEST_NUMBER, USUAL_BRANCHES, USUAL_ROUNDS}

-- a number that a command takes, as an option or in a place: its name, and the least and the
-- greatest that it may be
pub record Setting : Type 0 where
  pub name : List ℕ
  pub least : ℕ
  pub most : ℕ

abbrev pub rounds_setting : Setting
rounds_setting = record { name = codes "rounds"; least = 0; most = LAST_ROUND }

abbrev pub branches_setting : Setting
branches_setting = record { name = codes "branches"; least = 0; most = MOST_SPLITS }

abbrev pub scale_setting : Setting
scale_setting = record { name = codes "scale"; least = 1; most = GREATEST_SCALE }

abbrev pub seconds_setting : Setting
seconds_setting = record { name = codes "seconds"; least = 1; most = MOST_SECONDS }

abbrev pub seed_setting : Setting
seed_setting = record { name = codes "seed"; least = 0; most = GREATEST_SEED }

abbrev pub terminals_setting : Setting
terminals_setting = record { name = codes "terminals"; least = FEWEST_TERMINALS; most = MOST_TERMINALS }

abbrev pub shipments_setting : Setting
shipments_setting = record { name = codes "shipments"; least = 0; most = MOST_SHIPMENTS }

abbrev pub names_of : List Setting → List (List ℕ)
names_of settings = map (λ (s : Setting). s.name) settings

-- The options of a command: those with a value, the names of its flags, which have none, and the name of
-- a place that a word which is no option may fill, where there is one.
pub record Options : Type 0 where
  pub settings : List Setting
  pub flags : List (List ℕ)
  pub place : Option (List ℕ)

-- the numbers of a budget and of seconds
abbrev pub budget_settings : List Setting
budget_settings = rounds_setting ∷ branches_setting ∷ seconds_setting ∷ []

-- the flags of a command with a budget
abbrev pub search_flags : List (List ℕ)
search_flags = codes "spans" ∷ codes "notes" ∷ []

-- the options of `bound`, those of a command with a budget, and those of `plan` and `improve`
abbrev pub bound_options : Options
bound_options = record { settings = seconds_setting ∷ []; flags = codes "spans" ∷ []; place = None }

abbrev pub budget_options : Options
budget_options = record { settings = budget_settings; flags = search_flags; place = None }

abbrev pub plan_options : Options
plan_options = record { settings = budget_settings ++ scale_setting ∷ []; flags = search_flags; place = None }

-- those of `quote`: the same, and a place for the name of a shipment
abbrev pub quote_options : Options
quote_options = record { settings = budget_settings; flags = search_flags; place = Some (codes "name") }

-- the flag of `fleet`
abbrev pub fleet_options : Options
fleet_options = record { settings = []; flags = codes "trucks" ∷ []; place = None }

-- the places of `trial` and of `yard`
abbrev pub trial_settings : List Setting
trial_settings = seed_setting ∷ terminals_setting ∷ shipments_setting ∷ []

abbrev pub yard_settings : List Setting
yard_settings = seed_setting ∷ []

-- whether a text is 1 to 10 digits, and the number that they write lies between two others
abbrev pub is_number_between : ℕ → ℕ → List ℕ → Bool
is_number_between least most text = is_number text && nat_le (length text) LONGEST_NUMBER && is_within least most text

-- the number that such a text writes
abbrev pub number_of : ℕ → ℕ → List ℕ → Option ℕ
number_of least most text = if is_number_between least most text then Some (number text) else None

-- the number of an option, by the text of its value, if it was given; else the usual one
abbrev pub number_or : ℕ → ℕ → ℕ → Option (List ℕ) → Option ℕ
number_or usual least most None = Some usual
number_or usual least most (Some text) = number_of least most text

-- whether a text begins with the digit 0
abbrev pub begins_with_zero : List ℕ → Bool
begins_with_zero [] = false
begins_with_zero (byte ∷ bytes) = nat_eq byte 48

-- the number of an option that has no usual one, if it was given: without a 0 before it
abbrev pub number_if : ℕ → ℕ → Option (List ℕ) → Option (Option ℕ)
number_if least most None = Some None
number_if least most (Some text) = if begins_with_zero text then None else option_map (λ n. Some n) (number_of least most text)

-- what the texts of options and places come to, by their names: a number, a budget, and what `trial`
-- and `yard` order
abbrev pub option_number : ℕ → Setting → (List ℕ → Option (List ℕ)) → Option ℕ
option_number usual s text = number_or usual s.least s.most (text s.name)

abbrev pub place_number : Setting → (List ℕ → Option (List ℕ)) → Option ℕ
place_number s text = option_and_then (number_of s.least s.most) (text s.name)

abbrev pub budget_by : (List ℕ → Option (List ℕ)) → Option Budget
budget_by text =
    option_and_then (λ rounds. option_map (λ branches. record { rounds = rounds; branches = branches }) (option_number USUAL_BRANCHES branches_setting text))
    (option_number USUAL_ROUNDS rounds_setting text)

abbrev pub seconds_by : (List ℕ → Option (List ℕ)) → Option (Option ℕ)
seconds_by text = number_if seconds_setting.least seconds_setting.most (text seconds_setting.name)

abbrev pub trial_by : (List ℕ → Option (List ℕ)) → Option Order
trial_by text =
    option_and_then (λ seed. option_and_then (λ terminals. option_map (λ shipments. Trial seed terminals shipments) (place_number shipments_setting text))
    (place_number terminals_setting text)) (place_number seed_setting text)

abbrev pub yard_by : (List ℕ → Option (List ℕ)) → Option Order
yard_by text = option_map (λ seed. Yard seed) (place_number seed_setting text)

-- what `fleet` orders, by the flags that were given
abbrev pub fleet_by : (List ℕ → Bool) → Option Order
fleet_by is_given = Some (Fleet (is_given (codes "trucks")))

-- what `bound`, `plan`, `improve`, `replan` and `quote` order, by the texts of options and by the flags that were
-- given
abbrev pub bound_by : (List ℕ → Option (List ℕ)) → (List ℕ → Bool) → Option Order
bound_by text is_given = option_map (λ seconds. Bound (is_given (codes "spans")) seconds) (seconds_by text)

abbrev pub scaled_by : (Budget → (scale : ℕ) → (spans : Bool) → (seconds : Option ℕ) → (notes : Bool) → Order) → (List ℕ → Option (List ℕ)) → (List ℕ → Bool) → Option Order
scaled_by order text is_given =
    option_and_then (λ budget. option_and_then (λ scale. option_map (λ seconds. order budget scale (is_given (codes "spans")) seconds (is_given (codes "notes"))) (seconds_by text))
    (option_number SCALE scale_setting text)) (budget_by text)

abbrev pub plan_by : (List ℕ → Option (List ℕ)) → (List ℕ → Bool) → Option Order
plan_by text is_given = scaled_by (λ budget scale spans seconds notes. Plan budget scale spans seconds notes) text is_given

abbrev pub improve_by : (List ℕ → Option (List ℕ)) → (List ℕ → Bool) → Option Order
improve_by text is_given = scaled_by (λ budget scale spans seconds notes. Improve budget scale spans seconds notes) text is_given

abbrev pub replan_by : (List ℕ → Option (List ℕ)) → (List ℕ → Bool) → Option Order
replan_by text is_given = option_and_then (λ budget. option_map (λ seconds. Replan budget (is_given (codes "spans")) seconds (is_given (codes "notes"))) (seconds_by text)) (budget_by text)

-- `quote` with a word in its place or none
abbrev pub quote_of : (List ℕ → Option (List ℕ)) → (List ℕ → Bool) → (name : Option (List ℕ)) → Option Order
quote_of text is_given name = option_and_then (λ budget. option_map (λ seconds. Quote budget (is_given (codes "spans")) seconds (is_given (codes "notes")) name) (seconds_by text)) (budget_by text)

abbrev pub quote_by : (List ℕ → Option (List ℕ)) → (List ℕ → Bool) → Option Order
quote_by text is_given = quote_of text is_given (text (codes "name"))

-- a limit of time, if there is one, is within its range
abbrev pub IsTimeLimit : Option ℕ → Type 0
IsTimeLimit seconds = IfSome seconds (λ n. (1 ≤ n) × (n ≤ MOST_SECONDS))

-- what is ordered is within the limits
abbrev pub IsWithinLimits : Order → Type 0
IsWithinLimits (Bound spans seconds) = IsTimeLimit seconds
IsWithinLimits (Plan budget scale spans seconds notes) = IsBudget budget × (1 ≤ scale) × (scale ≤ GREATEST_SCALE) × IsTimeLimit seconds
IsWithinLimits (Improve budget scale spans seconds notes) = IsBudget budget × (1 ≤ scale) × (scale ≤ GREATEST_SCALE) × IsTimeLimit seconds
IsWithinLimits (Trial seed terminals shipments) = (seed ≤ GREATEST_SEED) × (FEWEST_TERMINALS ≤ terminals) × (terminals ≤ MOST_TERMINALS) × (shipments ≤ MOST_SHIPMENTS)
IsWithinLimits (Yard seed) = seed ≤ GREATEST_SEED
IsWithinLimits (Replan budget spans seconds notes) = IsBudget budget × IsTimeLimit seconds
IsWithinLimits (Quote budget spans seconds notes name) = IsBudget budget × IsTimeLimit seconds
IsWithinLimits _ = Unit {0}
