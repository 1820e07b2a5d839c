-- Plans within windows, route by route.
use Rattle.std.proofs.Common.{◌≡◌, ℕ, ◌+◌, ◌<◌, List, [], length, arith, subst}
use Rattle.fp_model.specs.declared.parts.Leg.{Leg}
use Rattle.fp_model.specs.Numbered.{route_at}
use Rattle.std.specs.Prelude.{Option, IsSomeAnd}
use Rattle.fp_flatnet.specs.declared.window_tables.Window.{Window}
use Rattle.fp_flatnet.specs.Windows.{IsInside, LiesWithin, PlanLiesWithin}
use Rattle.fp_base_lists.proofs.Numbered.{AllFrom-from_get_or}

-- a leg of the shipment with a number has a window and leaves inside it
abbrev pub LegLiesWithin : (ℕ → ℕ → Option Window) → ℕ → Leg → Type 0
LegLiesWithin windows k leg = IsSomeAnd (windows k leg.arc) (IsInside 1 leg.depart)

-- what holds of each route holds of the plan
pub PlanLiesWithin-from_routes : (windows : ℕ → ℕ → Option Window) (routes : List (List Leg)) →
    ((k : ℕ) → k < length routes → LiesWithin windows 1 k (route_at routes k)) → PlanLiesWithin windows 1 routes
PlanLiesWithin-from_routes windows routes each =
    AllFrom-from_get_or (LiesWithin windows 1) routes [] 0 (λ k lt.
    let same : k ≡ 0 + k = omega arith in
    subst (λ (n : ℕ). LiesWithin windows 1 n (route_at routes k)) same (each k lt))
