use Rattle.std.proofs.Common.{◌≡◌, ◌≤◌, ◌^◌, drop}
use Rattle.std.specs.Prelude.{◌↔◌}
use Rattle.fp_replan_present.specs.Days.{AreInOrder, settled_ready}
use Rattle.fp_replan_present.proofs.arrivals.settled_ready.Given as goal

abbrev pub invariant-loop-leg : goal.invariant-loop-leg
invariant-loop-leg l = record {
  same : AreInOrder l.instance l.ready (drop l.leg-index l.legs) ↔ AreInOrder l.instance l.release l.legs;
  after : settled_ready l.instance l.ready (drop l.leg-index l.legs) ≡ settled_ready l.instance l.release l.legs;
  small : l.ready ≤ 2 ^ 34;
}
