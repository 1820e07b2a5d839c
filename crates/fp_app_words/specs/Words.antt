-- The words of the command line: the forms that they may have, and what they order.
use Rattle.std.specs.Prelude.{ℕ, List, [], ◌∷◌, codes, map, if◌then◌else◌, None, Some, Result, Ok, Err, ◌≡◌, String, string_bytes}
use Rattle.std.specs.Str.{bytes_eq}
use Rattle.std.specs.declared.option.Option.{Option}
use Rattle.std.specs.declared.alloc.Global.{Global}
use Rattle.fp_app_words.specs.declared.orders.Order.{Order}
use Rattle.fp_app_words.specs.declared.orders.Order.TheVariants.{Direct, Check, Trial, Yard}
use Rattle.fp_app_words.specs.Options.{by_options, is_given, value_given}
use Rattle.fp_app_words.specs.Places.{by_places}
use Rattle.fp_app_words.specs.Settings.{bound_by, bound_options, budget_options, fleet_by, fleet_options, improve_by, plan_by, plan_options, quote_by, quote_options, replan_by, trial_settings, yard_settings}
use Rattle.fp_app_words.specs.declared.orders.WordFault.{WordFault}
use Rattle.fp_app_words.specs.declared.orders.WordFault.TheVariants.{BadWords, NoMemory}

-- the bytes of each word
abbrev pub texts : List (String Global) → List (List ℕ)
texts words = map (λ word. string_bytes word) words

-- A form: the name of a command, and what the words after the name order, where the command takes
-- them.
pub record Form : Type 0 where
  pub name : List ℕ
  pub order : List (List ℕ) → Option Order

-- the order of a command that takes no words
abbrev pub alone : Order → List (List ℕ) → Option Order
alone order [] = Some order
alone order (word ∷ words) = None

-- the forms, one line for each command
abbrev pub forms : List Form
forms =
    record { name = codes "direct"; order = alone Direct }
    ∷ record { name = codes "check"; order = alone Check }
    ∷ record { name = codes "bound"; order = by_options bound_options (λ given. bound_by (value_given given) (is_given given)) }
    ∷ record { name = codes "plan"; order = by_options plan_options (λ given. plan_by (value_given given) (is_given given)) }
    ∷ record { name = codes "improve"; order = by_options plan_options (λ given. improve_by (value_given given) (is_given given)) }
    ∷ record { name = codes "trial"; order = by_places trial_settings (λ n. Trial (n 0) (n 1) (n 2)) }
    ∷ record { name = codes "yard"; order = by_places yard_settings (λ n. Yard (n 0)) }
    ∷ record { name = codes "fleet"; order = by_options fleet_options (λ given. fleet_by (is_given given)) }
    ∷ record { name = codes "replan"; order = by_options budget_options (λ given. replan_by (value_given given) (is_given given)) }
    ∷ record { name = codes "quote"; order = by_options quote_options (λ given. quote_by (value_given given) (is_given given)) }
    ∷ []

-- what a first word and the words after it order by the first of these forms that has this name
abbrev pub order_by : List Form → List ℕ → List (List ℕ) → Option Order
order_by [] word words = None
order_by (form ∷ others) word words = if bytes_eq form.name word then form.order words else order_by others word words

-- the order that the words give, if they have one of the forms
abbrev pub order_of : List (List ℕ) → Option Order
order_of [] = None
order_of (word ∷ words) = order_by forms word words

-- What reading the words answers, unless memory runs out.
abbrev pub Orders : Option Order → Result Order WordFault → Type 0
Orders wanted (Ok order) = wanted ≡ Some order
Orders wanted (Err BadWords) = wanted ≡ None
Orders wanted (Err NoMemory) = Unit {0}
