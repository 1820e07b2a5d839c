-- So many timelines as terminals were gone through.
use Rattle.std.proofs.Common.{◌≡◌}
use Rattle.std.specs.Prelude.{replicate}
use Rattle.fp_timenodes.specs.Timelines.{bare_timeline}
use Rattle.fp_timenodes.proofs.point_table.bare_timelines.Given as goal

abbrev pub invariant-loop-terminal : goal.invariant-loop-terminal
invariant-loop-terminal l = l.timelines.items ≡ replicate l._terminal bare_timeline
