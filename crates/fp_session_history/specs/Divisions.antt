-- How the splits of a search divide leaves: the departures that a shipment has left, or the numbers of trucks that an arc may have.
use Rattle.std.specs.Prelude.{ℕ, ◌+◌, ◌-◌, ◌<◌, ◌≤◌, ◌≡◌, ◌⊎◌, ⊤, List, Bool, true, false, Option, None, Some, IfSome, IsSomeAnd, length, min, sum_by}
use Rattle.std.specs.Int.{div_ceil}
use Rattle.std.specs.List.{AllByRecursion}
use Rattle.fp_base_lists.specs.Below.{sum_below}
use Rattle.fp_model.specs.declared.parts.Shipment.{Shipment}
use Rattle.fp_model.specs.Problem.{Problem, arc_at}
use Rattle.fp_timenodes.specs.declared.places.TheConstants.{LATEST}
use Rattle.fp_flatnet.specs.declared.window_tables.Window.{Window}
use Rattle.fp_tree.specs.declared.sides.Side.{Side}
use Rattle.fp_tree.specs.declared.sides.Split.{Split}
use Rattle.fp_tree.specs.declared.sides.Split.TheVariants.{ByArc, ByTime, ByTrucks, ByWay}
use Rattle.fp_tree.specs.Sides.{Fork}
use Rattle.fp_tree.specs.Trees.{Branch}
use Rattle.fp_allowed.specs.Slack.{DividesSome, slack}
use Rattle.fp_prices_gifts.specs.declared.gifts.Gift.{Gift}
use Rattle.fp_prices_gifts.specs.GiftNumbers.{gift_number}

-- the trucks of an arc that each shipment goes by alone: no plan has more
abbrev pub trucks_alone : Problem → ℕ → ℕ
trucks_alone p arc = sum_by (λ (s : Shipment). div_ceil s.size (arc_at p arc).capacity) p.shipments

-- a gift, without an amount, for the trucks of an arc over its whole time
abbrev pub whole_gift : (arc : ℕ) → (least : Bool) → Gift
whole_gift arc least = record { arc = arc; point = 0; until = LATEST + 1; least = least; amount = 0 }

-- a number that is told, or else another
abbrev pub told_or : Option ℕ → ℕ → ℕ
told_or None other = other
told_or (Some told) other = told

-- the fewest trucks that sides leave an arc over its whole time
abbrev pub fewest_trucks : List Side → ℕ → ℕ
fewest_trucks sides arc = told_or (gift_number sides (whole_gift arc true)) 0

-- and the most
abbrev pub most_trucks : Problem → List Side → ℕ → ℕ
most_trucks p sides arc = min (trucks_alone p arc) (told_or (gift_number sides (whole_gift arc false)) (trucks_alone p arc))

-- how often the numbers of trucks that are left can still be divided, over all arcs
abbrev pub truck_slack : Problem → List Side → ℕ
truck_slack p sides = sum_below (length p.arcs) (λ arc. most_trucks p sides arc - fewest_trucks sides arc)

-- a fork divides the numbers of trucks that an arc has left under sides: each side leaves fewer of them
pub record DividesTrucks (p : Problem) (sides : List Side) (f : Fork) : Type 0 where
  pub arc : ℕ
  pub trucks : ℕ
  pub exists : arc < length p.arcs
  pub split : f.split ≡ ByTrucks arc 0 (LATEST + 1) trucks
  pub fewest : fewest_trucks sides arc ≤ trucks
  pub most : trucks < most_trucks p sides arc

-- a search splits leaves by arcs and by times, and by ways only where there is a unit, as each search has that seeks spans
abbrev pub MaySplit : (unit : Option ℕ) → Split → Type 0
MaySplit unit (ByArc shipment arc) = Unit {0}
MaySplit unit (ByTime shipment terminal at) = Unit {0}
MaySplit unit (ByTrucks arc point until most) = IsSomeAnd unit (λ u. ⊤)
MaySplit unit (ByWay shipment arc) = IsSomeAnd unit (λ u. ⊤)

-- a fork divides the departures of a shipment or, where there is a unit, the numbers of trucks of an arc
abbrev pub Divides : (unit : Option ℕ) → Problem → (ℕ → ℕ → Option Window) → List Side → Fork → Type 0
Divides unit p windows sides f = MaySplit unit f.split × (DividesSome p windows sides f ⊎ (IsSomeAnd unit (λ u. ⊤) × DividesTrucks p sides f))

-- so does each of the splits, under the sides on its way
abbrev pub AllDivide : (unit : Option ℕ) → Problem → (ℕ → ℕ → Option Window) → {X : Type 0} → (X → Option Fork) → List (Branch X) → Type 0
AllDivide unit p windows {X} fork_of branches = AllByRecursion (λ (b : Branch X). IfSome (fork_of b.node) (Divides unit p windows b.sides)) branches

-- how often leaves can be divided below sides: the slack, and where there is a unit that of the trucks
abbrev pub division_slack : (unit : Option ℕ) → Problem → (ℕ → ℕ → Option Window) → List Side → ℕ
division_slack None p windows sides = slack p windows sides
division_slack (Some unit) p windows sides = slack p windows sides + truck_slack p sides
