use Rattle.std.proofs.Common.{◌≡◌, take}
use Rattle.fp_records_fields.specs.Indexes.{arc_ends}
use Rattle.fp_records_fields.proofs.indexes.arc_ends.Given as goal

abbrev pub invariant-loop-arc : goal.invariant-loop-arc
invariant-loop-arc l = l.ends.keys ≡ arc_ends (take l.arc-index l.arcs)
