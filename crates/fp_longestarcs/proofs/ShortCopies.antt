-- An arc's copy that is shorter than it could be.
use Rattle.std.proofs.Common.{◌≡◌, ℕ, ◌+◌, ◌<◌, ◌≤◌, false, length, arith}
use Rattle.std.proofs.lemmas.Bool.{false_from_ne_true}
use Rattle.fp_model.specs.Problem.{Problem, arc_at, no_arc, IsArc, IsValid}
use Rattle.fp_model.specs.Routes.{step}
use Rattle.fp_timenodes.specs.declared.places.TheConstants.{LATEST}
use Rattle.fp_base_lists.specs.Membership.{list_has}
use Rattle.fp_timenodes.proofs.Floors.{floor_greatest}
use Rattle.fp_longestarcs.specs.Networks.{TimedNetwork, points_in, kept_head, IsClass}
use Rattle.fp_longestarcs.specs.Whole.{IsWholeNetwork}
use Rattle.fp_longestarcs.specs.Changes.{refined, restored}
use Rattle.fp_longestarcs.proofs.ClassNumbers.{kept-greatest}
use Rattle.fp_longestarcs.proofs.NewPoints.{lengthened-whole}
use Rattle.fp_longestarcs.proofs.HeadLists.{arc-count}

-- what it could reach is no point yet
pub reach_is_new : (p : Problem) (net : TimedNetwork) (arc point : ℕ) → IsWholeNetwork p net → IsClass net (record { arc = arc; depart = point }) → kept_head net (record { arc = arc; depart = point }) < point + step p arc →
    list_has (points_in net (arc_at p arc).to) (point + step p arc) ≡ false
reach_is_new p net arc point whole is short =
    let end : ℕ = point + step p arc in
    false_from_ne_true (list_has (points_in net (arc_at p arc).to) end)
    (λ there. absurd (omega (arith, floor_greatest (points_in net (arc_at p arc).to) 1 end end there (omega arith), kept-greatest p net (record { arc = arc; depart = point }) whole is, short)))

-- an arc's head is a terminal
pub head-within : (p : Problem) (net : TimedNetwork) (arc : ℕ) → IsValid p → IsWholeNetwork p net → arc < length net.tails → (arc_at p arc).to < length net.points
head-within p net arc valid whole exists =
    let is : IsArc (length p.terminals) (arc_at p arc) = valid.parts.arcs arc no_arc (omega (arith, arc-count p net whole.arcs)) in
    omega (arith, is.to, whole.arcs.terminals)

-- so the network with that point is whole
pub lengthened-arc : (p : Problem) (net : TimedNetwork) (arc point : ℕ) → IsValid p → IsWholeNetwork p net → IsClass net (record { arc = arc; depart = point }) → kept_head net (record { arc = arc; depart = point }) < point + step p arc →
    point + step p arc ≤ LATEST → IsWholeNetwork p (restored p (refined p net (arc_at p arc).to (point + step p arc)) (arc_at p arc).to (point + step p arc))
lengthened-arc p net arc point valid whole is short in_time =
    lengthened-whole p net (arc_at p arc).to (point + step p arc) whole (head-within p net arc valid whole is.0) (reach_is_new p net arc point whole is short) in_time
