-- The limit of time that an order has, if it has one.
use Rattle.std.specs.Prelude.{ℕ, List, None, Some, option_map}
use Rattle.std.specs.Int.{div_ceil}
use Rattle.std.specs.declared.option.Option.{Option}
use Rattle.fp_app_words.specs.declared.orders.Order.{Order}
use Rattle.fp_app_words.specs.declared.orders.Order.TheVariants.{Bound, Improve, Plan, Quote, Replan}
use Rattle.fp_app_words.specs.Settings.{IsTimeLimit}
use Rattle.fp_app_words.specs.Words.{order_of}

-- half of a limit of time, rounded up
abbrev pub halved : Option ℕ → Option ℕ
halved seconds = option_map (λ n. div_ceil n 2) seconds

-- the seconds after which a search of an order may end, if it has some: for `quote`, whose first search
-- has half of them, these
abbrev pub seconds_of : Option Order → Option ℕ
seconds_of None = None
seconds_of (Some (Bound spans seconds)) = seconds
seconds_of (Some (Plan budget scale spans seconds notes)) = seconds
seconds_of (Some (Improve budget scale spans seconds notes)) = seconds
seconds_of (Some (Replan budget spans seconds notes)) = seconds
seconds_of (Some (Quote budget spans seconds notes name)) = halved seconds
seconds_of (Some _) = None

-- whatever the words, a limit of time is within its range
abbrev pub TimeLimitsHold : Type 0
TimeLimitsHold = (words : List (List ℕ)) → IsTimeLimit (seconds_of (order_of words))
