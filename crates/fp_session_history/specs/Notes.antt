-- What a search notes of its rounds, and the points that it has added.
use Rattle.std.specs.Prelude.{ℕ, List, [], ◌∷◌, ◌++◌, length, map, Option}
use Rattle.std.specs.Int.{div_ceil}
use Rattle.fp_model.specs.declared.parts.Leg.{Leg}
use Rattle.fp_model.specs.Problem.{Problem}
use Rattle.fp_timenodes.specs.declared.places.AddedPoint.{AddedPoint}
use Rattle.fp_timenodes.specs.declared.places.Place.{Place}
use Rattle.fp_flatnet.specs.Tables.{WindowTable}
use Rattle.fp_prices.specs.Shares.{ClassShare}
use Rattle.fp_prices_gifts.specs.declared.gifts.Gift.{Gift}
use Rattle.fp_prices_spans.specs.Spans.{ClassSpan}
use Rattle.fp_certificate_rules.specs.Points.{points_with_added}
use Rattle.fp_certificate_rules.specs.Units.{rounded_up}

-- a round of refinement: its number, what the incumbent cost, a relaxed plan that called for it, and
-- the places at which it added points
pub record Refinement : Type 0 where
  pub round : ℕ
  pub incumbent : ℕ
  pub relaxed : List (List Leg)
  pub added : List Place

-- places, as points that a round added
abbrev pub points_added : ℕ → List Place → List AddedPoint
points_added round places = map (λ (q : Place). record { terminal = q.terminal; at = q.at; round = round }) places

-- the points that rounds added, in their order
abbrev pub added_of : List Refinement → List AddedPoint
added_of [] = []
added_of (n ∷ notes) = points_added n.round n.added ++ added_of notes

-- the history of a search: the instance and its windows, its notes on rounds, its tables of prices
-- with the spans and the gifts beside each, and the unit by which it rounds up what leaves are worth, if
-- it does
pub record History : Type 0 where
  pub problem : Problem
  pub windows : WindowTable
  pub trace : List Refinement
  pub tables : List (List ClassShare)
  pub spans : List (List ClassSpan)
  pub gifts : List (List Gift)
  pub unit : Option ℕ

-- the points of each terminal as of a round
abbrev pub points_of : History → ℕ → ℕ → List ℕ
points_of h round terminal = points_with_added h.problem h.windows.anchors (added_of h.trace) round terminal

-- the last round, which is the number of notes
abbrev pub last_round : History → ℕ
last_round h = length h.trace

-- a history with one more note
abbrev pub with_note : History → Refinement → History
with_note h n = record h { trace = h.trace ++ n ∷ [] }

-- a history with more tables, and the spans and the gifts beside them
abbrev pub with_tables : History → List (List ClassShare) → List (List ClassSpan) → List (List Gift) → History
with_tables h more spans gifts = record h { tables = h.tables ++ more; spans = h.spans ++ spans; gifts = h.gifts ++ gifts }

-- a value in whole units of money, rounded up to a multiple of the unit
abbrev pub worth_of : History → ℕ → ℕ
worth_of h value = rounded_up h.unit (div_ceil value h.problem.scale)
