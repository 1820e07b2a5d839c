use Rattle.std.proofs.Common.{◌≡◌, ◌≤◌, ◌+◌, [], drop, length}
use Rattle.fp_base_lists.specs.Vectors.{lists_of}
use Rattle.fp_replan.specs.declared.kept.TheConstants.{MOST_KEPT}
use Rattle.fp_replan.specs.Beginnings.{AreBeginnings}
use Rattle.fp_replan.specs.KeptLegs.{AreKept}
use Rattle.fp_replan.specs.Records.{kept_from}
use Rattle.fp_replan.proofs.reading.legs_of.Given as goal

-- the records that are left decide
abbrev pub invariant-loop-place : goal.invariant-loop-place
invariant-loop-place l = record {
  left : kept_from l.instance l.kept.items (l.first + l.place) (drop l.place l.lines) ≡ kept_from l.instance [] l.first l.lines;
  sound : AreKept l.instance l.kept.items;
  few : length l.kept.items ≤ MOST_KEPT;
  beginnings : AreBeginnings l.kept.items (length l.instance.shipments) (lists_of l.beginnings.items);
}
