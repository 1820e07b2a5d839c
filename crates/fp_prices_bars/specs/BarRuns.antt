-- Sides that bar runs of departures, and which classes they bar.
use Rattle.std.specs.Prelude.{ℕ, ◌+◌, ◌≡◌, ◌<◌, ◌≤◌, ◌↔◌, Bool, ◌&&◌, not, nat_eq, List, length}
use Rattle.fp_model.specs.declared.limits.TheConstants.{LATEST}
use Rattle.fp_model.specs.declared.parts.Leg.{Leg}
use Rattle.fp_model.specs.Problem.{Problem}
use Rattle.fp_timenodes.specs.Floor.{floor_point}
use Rattle.fp_longestarcs.specs.Classes.{class_of}
use Rattle.fp_longestarcs.specs.Networks.{TimedNetwork, class_number, points_in}
use Rattle.fp_tree.specs.declared.sides.Side.{Side}
use Rattle.fp_tree.specs.declared.sides.Side.TheVariants.{Outside}
use Rattle.fp_allowed.specs.Allowed.{exit_of, meets_all}

-- the moments of a class of a point end at a moment: the point is the greatest one that isn't after a moment exactly from itself on up to that one
pub record EndsClass (points : List ℕ) (point end : ℕ) : Type 0 where
  pub later : point < end
  pub in_time : end ≤ LATEST + 1
  pub exact : (moment : ℕ) → moment ≤ LATEST → (floor_point points 1 moment ≡ point) ↔ ((point ≤ moment) × (moment < end))

-- a side that bars a run of departures, which isn't empty, of a shipment and by an arc that exist
abbrev pub IsRun : Problem → Side → Type 0
IsRun p (Outside shipment arc point until) = (shipment < length p.shipments) × (arc < length p.arcs) × (point < until) × (until ≤ LATEST + 1)
IsRun p _ = ⊥

-- sides bar what others do, and for a shipment each departure whose class is barred by its number as well
abbrev pub BarAlso : Problem → TimedNetwork → (shipment : ℕ) → (is_barred : ℕ → Bool) → (old new : List Side) → Type 0
BarAlso p net shipment is_barred old new =
    (k : ℕ) (l : Leg) → l.arc < length p.arcs → l.depart ≤ LATEST →
    meets_all k new (exit_of p l) ≡ (meets_all k old (exit_of p l) && not (nat_eq k shipment && is_barred (class_number net (class_of p (points_in net) 1 l))))
