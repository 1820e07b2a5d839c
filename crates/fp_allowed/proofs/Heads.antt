-- Heads for a shipment are never before those of the classes, so a walk by them is a timed walk.
use Rattle.std.proofs.Common.{◌≡◌, ℕ, ◌+◌, ◌≤◌, true, List, [], ◌∷◌, arith}
use Rattle.std.specs.Prelude.{Bool, Option, Some, None, max}
use Rattle.fp_model.specs.declared.parts.Leg.{Leg}
use Rattle.fp_model.specs.declared.parts.Shipment.{Shipment}
use Rattle.fp_model.specs.Problem.{Problem, arc_at}
use Rattle.fp_model.specs.Routes.{step}
use Rattle.fp_base_lists.specs.Membership.{list_has}
use Rattle.fp_timenodes.proofs.Floors.{IsFloorPoint-floor_point, floor_mono}
use Rattle.fp_flatnet.specs.declared.window_tables.Window.{Window}
use Rattle.fp_longestarcs.specs.Classes.{head_of}
use Rattle.fp_allowed.specs.Heads.{head_within, heads_within}
use Rattle.fp_allowed.specs.Walks.{FollowsHeads, IsTimedWalk, IsWalkBy}

-- the head for a shipment isn't before that of the class
pub head_within-ge : (p : Problem) (points : ℕ → List ℕ) (o : Option Window) (c : Leg) → head_of p points c ≤ head_within p points o c
head_within-ge p points None c = omega arith
head_within-ge p points (Some w) c =
    floor_mono (points (arc_at p c.arc).to) 1 (c.depart + step p c.arc) (max c.depart w.lo + step p c.arc) (omega arith)

-- where 0 is one of the points it is a point of the arc's head
pub head_within-point : (p : Problem) (points : ℕ → List ℕ) (o : Option Window) (c : Leg) → list_has (points (arc_at p c.arc).to) 0 ≡ true →
    list_has (points (arc_at p c.arc).to) (head_within p points o c) ≡ true
head_within-point p points None c zero = (IsFloorPoint-floor_point (points (arc_at p c.arc).to) (c.depart + step p c.arc) zero).0
head_within-point p points (Some w) c zero = (IsFloorPoint-floor_point (points (arc_at p c.arc).to) (max c.depart w.lo + step p c.arc) zero).0

-- what follows heads from some time on follows earlier ones from an earlier time on
pub FollowsHeads-earlier : (heads later : Leg → ℕ) → ((c : Leg) → heads c ≤ later c) → (ready more : ℕ) (walk : List Leg) → ready ≤ more → FollowsHeads later more walk →
    FollowsHeads heads ready walk
FollowsHeads-earlier heads later before ready more [] le follows = tt
FollowsHeads-earlier heads later before ready more (c ∷ walk) le follows =
    (omega (arith, le, follows.0), FollowsHeads-earlier heads later before (heads c) (later c) walk (before c) follows.1)

-- so a walk by heads is one by earlier heads
pub IsWalkBy-earlier : (p : Problem) (heads later : Leg → ℕ) (allowed : Leg → Bool) (s : Shipment) (walk : List Leg) → ((c : Leg) → heads c ≤ later c) →
    IsWalkBy p later allowed s walk → IsWalkBy p heads allowed s walk
IsWalkBy-earlier p heads later allowed s walk before goes = record {
  leads = goes.leads;
  allowed_all = goes.allowed_all;
  follows = FollowsHeads-earlier heads later before 0 0 walk (omega arith) goes.follows;
}

-- and a walk by the heads for a shipment is a timed walk
pub walk-timed : (p : Problem) (windows : ℕ → ℕ → Option Window) (points : ℕ → List ℕ) (k : ℕ) (allowed : Leg → Bool) (s : Shipment) (walk : List Leg) →
    IsWalkBy p (heads_within p windows points k) allowed s walk → IsTimedWalk p points allowed s walk
walk-timed p windows points k allowed s walk =
    IsWalkBy-earlier p (head_of p points) (heads_within p windows points k) allowed s walk (λ c. head_within-ge p points (windows k c.arc) c)
