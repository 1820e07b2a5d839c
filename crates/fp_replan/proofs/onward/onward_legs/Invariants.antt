use Rattle.std.specs.Prelude.{unwrap_or}
use Rattle.fp_labels.specs.Labels.{cost_to}
use Rattle.fp_replan.proofs.OnwardWalks.{IsUnderway}
use Rattle.fp_replan.proofs.onward.onward_legs.Given as goal

abbrev pub invariant-loop-arc : goal.invariant-loop-arc
invariant-loop-arc l = IsUnderway l.instance l.gone l.shipment l.fn.front.items l.here l.ready l.legs.items

abbrev pub decreases-loop-arc : goal.decreases-loop-arc
decreases-loop-arc l = unwrap_or (cost_to l.labels l.here) 0
