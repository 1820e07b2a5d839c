-- When a shipment can leave by an arc on its way from its origin to its destination, if each leg of the way lies in the
-- shipment's windows and meets the sides.
use Rattle.std.specs.Prelude.{ℕ, ◌<◌, ◌≤◌, ◌≡◌, true, List, [], length, Option, None, MatchOption, IsSomeAnd, Contains, slice_index_or}
use Rattle.std.specs.List.{AllByRecursion}
use Rattle.fp_model.specs.declared.parts.Leg.{Leg}
use Rattle.fp_model.specs.Numbered.{route_at, shipment_at}
use Rattle.fp_model.specs.Plans.{IsPlan}
use Rattle.fp_model.specs.Problem.{Problem}
use Rattle.fp_model.specs.Routes.{Leads, LeavesReady, arcs_of}
use Rattle.fp_flatnet.specs.declared.window_tables.Window.{Window}
use Rattle.fp_flatnet.specs.Windows.{IsInside, LiesWithin, PlanLiesWithinWhole, whole_legs}
use Rattle.fp_tree.specs.declared.sides.Side.{Side}
use Rattle.fp_allowed.specs.Allowed.{PlanObeys, exit_of, meets_all}

-- A passage of the shipment with the number k: legs that leave at whole moments and lead from its origin to its
-- destination, none before the shipment can be ready for it, each in the shipment's window for its arc, and each as the
-- sides ask. It may enter a terminal twice; that it arrives by the due time is left to the windows.
pub record IsPassage (p : Problem) (windows : ℕ → ℕ → Option Window) (sides : List Side) (k : ℕ) (legs : List Leg) : Type 0 where
  pub leads : Leads p (shipment_at p k).from (arcs_of legs) (shipment_at p k).to
  pub ready : LeavesReady p 1 (shipment_at p k).release legs
  pub within : LiesWithin windows 1 k legs
  pub meets : AllByRecursion (λ (l : Leg). meets_all k sides (exit_of p l) ≡ true) legs

-- a passage with a leg that leaves by the arc at the moment m
pub record PassesAt (p : Problem) (windows : ℕ → ℕ → Option Window) (sides : List Side) (k a m : ℕ) : Type 0 where
  pub legs : List Leg
  pub is : IsPassage p windows sides k legs
  pub leaves : Contains legs (record { arc = a; depart = m })

-- the window of a shipment and an arc under sides: the first and the last moment at which a passage leaves by the arc
pub record IsWindowUnder (p : Problem) (windows : ℕ → ℕ → Option Window) (sides : List Side) (k a : ℕ) (w : Window) : Type 0 where
  pub first : PassesAt p windows sides k a w.lo
  pub last : PassesAt p windows sides k a w.hi
  pub between : (m : ℕ) → PassesAt p windows sides k a m → (w.lo ≤ m) × (m ≤ w.hi)

-- the window under sides, or none where no passage leaves by the arc
abbrev pub IsWindowUnderOrNone : Problem → (ℕ → ℕ → Option Window) → List Side → ℕ → ℕ → Option Window → Type 0
IsWindowUnderOrNone p windows sides k a o = MatchOption o ((m : ℕ) → PassesAt p windows sides k a m → ⊥) (IsWindowUnder p windows sides k a)

-- for each arc of the instance the window of the shipment under sides, or that there is none
pub record IsWindowRowUnder (p : Problem) (windows : ℕ → ℕ → Option Window) (sides : List Side) (k : ℕ) (row : List (Option Window)) : Type 0 where
  pub one_each : length row ≡ length p.arcs
  pub exact : (a : ℕ) → a < length p.arcs → IsWindowUnderOrNone p windows sides k a (slice_index_or row a None)

-- for each shipment the row of its windows under sides
pub record AreWindowRowsUnder (p : Problem) (windows : ℕ → ℕ → Option Window) (sides : List Side) (rows : List (List (Option Window))) : Type 0 where
  pub one_each : length rows ≡ length p.shipments
  pub exact : (k : ℕ) → k < length p.shipments → IsWindowRowUnder p windows sides k (slice_index_or rows k [])

-- for every plan over any denominator that lies within the windows by its whole moments and obeys the sides, the legs of
-- the shipment's route, as each leaves at the whole moment at its own or before it, lie in the row
abbrev pub KeepsPlansWhole : Problem → (ℕ → ℕ → Option Window) → List Side → ℕ → List (Option Window) → Type 0
KeepsPlansWhole p windows sides k row =
    (d : ℕ) (routes : List (List Leg)) → 1 ≤ d → IsPlan p d routes → PlanLiesWithinWhole windows d routes → PlanObeys p d sides routes →
    AllByRecursion (λ (l : Leg). IsSomeAnd (slice_index_or row l.arc None) (IsInside 1 l.depart)) (whole_legs d (route_at routes k))
