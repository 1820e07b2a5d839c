use Rattle.std.proofs.Common.{◌≡◌, ◌≤◌, ◌^◌, drop}
use Rattle.std.specs.Prelude.{◌↔◌}
use Rattle.fp_model.specs.Routes.{LeavesReady}
use Rattle.fp_replan.specs.Starts.{ready_after}
use Rattle.fp_replan.proofs.onward.ready_after.Given as goal

abbrev pub invariant-loop-leg : goal.invariant-loop-leg
invariant-loop-leg l = record {
  same : LeavesReady l.instance 1 l.ready (drop l.leg-index l.legs) ↔ LeavesReady l.instance 1 l.release l.legs;
  after : ready_after l.instance l.ready (drop l.leg-index l.legs) ≡ ready_after l.instance l.release l.legs;
  small : l.ready ≤ 2 ^ 33;
}
