-- When a shipment can leave by an arc, and plans that keep to it. A plan over the denominator d
-- leaves at `depart / d`.
use Rattle.std.specs.Prelude.{ℕ, ◌+◌, ◌*◌, ◌/◌, ◌≤◌, ◌<◌, ◌≡◌, ◌≢◌, List, [], length, map, cond, nat_eq, Option, None, IsSomeAnd, MatchOption, slice_index_or}
use Rattle.std.specs.List.{AllByRecursion}
use Rattle.fp_model.specs.declared.parts.Leg.{Leg}
use Rattle.fp_model.specs.declared.parts.Shipment.{Shipment}
use Rattle.fp_model.specs.Numbered.{shipment_at}
use Rattle.fp_base_lists.specs.Numbered.{AllFrom}
use Rattle.fp_model.specs.Plans.{IsPlan}
use Rattle.fp_model.specs.Problem.{Problem, arc_at, hold_at}
use Rattle.fp_model.specs.Routes.{step}
use Rattle.fp_model.specs.Times.{IsLeastTime}
use Rattle.fp_flatnet.specs.declared.window_tables.Window.{Window}

-- how long after its release a shipment can leave by an arc, where t is the least time to the arc's
-- tail
abbrev pub time_before : Problem → Shipment → ℕ → ℕ → ℕ
time_before p s a t = cond (nat_eq (arc_at p a).from s.from) 0 (t + hold_at p (arc_at p a).from)

-- the time of the arc and a walk onward to a terminal, where the walk from the arc's head takes the
-- time t
abbrev pub time_onward : Problem → ℕ → ℕ → ℕ → ℕ
time_onward p there a t = cond (nat_eq (arc_at p a).to there) (arc_at p a).time (step p a + t)

-- how long before its due time it must leave by the arc, where t is the least time from the arc's
-- head
abbrev pub time_after : Problem → Shipment → ℕ → ℕ → ℕ
time_after p s a t = time_onward p s.to a t

-- the window of a shipment and an arc that does not leave its destination and does not enter its
-- origin: least times to the tail and from the head exist, and leave room
pub record IsWindow (p : Problem) (s : Shipment) (a : ℕ) (w : Window) : Type 0 where
  pub before : ℕ
  pub after : ℕ
  pub to_tail : IsLeastTime p s.from (arc_at p a).from before
  pub from_head : IsLeastTime p (arc_at p a).to s.to after
  pub lo : w.lo ≡ s.release + time_before p s a before
  pub hi : w.hi + time_after p s a after ≡ s.due
  pub some : w.lo ≤ w.hi
  pub leaves : (arc_at p a).from ≢ s.to
  pub enters : (arc_at p a).to ≢ s.from

-- the window of a shipment and an arc, or that there is none
abbrev pub IsWindowOrNone : Problem → Shipment → ℕ → Option Window → Type 0
IsWindowOrNone p s a o = MatchOption o ((w : Window) → IsWindow p s a w → ⊥) (IsWindow p s a)

-- for each shipment and arc, by their numbers, its window or that there is none
abbrev pub AreWindows : Problem → (ℕ → ℕ → Option Window) → Type 0
AreWindows p windows = AllFrom (λ k (s : Shipment). (a : ℕ) → a < length p.arcs → IsWindowOrNone p s a (windows k a)) 0 p.shipments

-- the row of a shipment: for each arc the window or that there is none
pub record IsWindowRow (p : Problem) (s : Shipment) (row : List (Option Window)) : Type 0 where
  pub one_each : length row ≡ length p.arcs
  pub exact : (a : ℕ) → a < length p.arcs → IsWindowOrNone p s a (slice_index_or row a None)

-- each shipment has its row
pub record AreWindowRows (p : Problem) (rows : List (List (Option Window))) : Type 0 where
  pub one_each : length rows ≡ length p.shipments
  pub exact : (k : ℕ) → k < length p.shipments → IsWindowRow p (shipment_at p k) (slice_index_or rows k [])

-- over the denominator d, the number n stands for a time inside the window
abbrev pub IsInside : ℕ → ℕ → Window → Type 0
IsInside d n w = (d * w.lo ≤ n) × (n ≤ d * w.hi)

-- over the denominator d, each leg of the shipment with a number has a window and leaves inside it
abbrev pub LiesWithin : (ℕ → ℕ → Option Window) → ℕ → ℕ → List Leg → Type 0
LiesWithin windows d k legs = AllByRecursion (λ (l : Leg). IsSomeAnd (windows k l.arc) (IsInside d l.depart)) legs

-- over the denominator d, each leg of each shipment has a window and leaves inside it
abbrev pub PlanLiesWithin : (ℕ → ℕ → Option Window) → ℕ → List (List Leg) → Type 0
PlanLiesWithin windows d routes = AllFrom (LiesWithin windows d) 0 routes

-- a leg over the denominator d as it leaves at the whole moment at its own or the last one before it
abbrev pub whole_leg : ℕ → Leg → Leg
whole_leg d l = record { arc = l.arc; depart = l.depart / d }

-- legs as each of them leaves so
abbrev pub whole_legs : ℕ → List Leg → List Leg
whole_legs d legs = map (whole_leg d) legs

-- over the denominator d, each leg of the shipment with a number has a window, and leaves inside it
-- by the whole part of its moment: it may leave at a fraction after the window's end
abbrev pub LiesWithinWhole : (ℕ → ℕ → Option Window) → ℕ → ℕ → List Leg → Type 0
LiesWithinWhole windows d k legs = LiesWithin windows 1 k (whole_legs d legs)

-- over the denominator d, each leg of each shipment has a window, and leaves inside it by the whole
-- part of its moment
abbrev pub PlanLiesWithinWhole : (ℕ → ℕ → Option Window) → ℕ → List (List Leg) → Type 0
PlanLiesWithinWhole windows d routes = PlanLiesWithin windows 1 (map (whole_legs d) routes)

-- every plan, over whatever denominator, lies within the windows
abbrev pub CoverPlans : Problem → (ℕ → ℕ → Option Window) → Type 0
CoverPlans p windows = (d : ℕ) (routes : List (List Leg)) → 1 ≤ d → IsPlan p d routes → PlanLiesWithin windows d routes
