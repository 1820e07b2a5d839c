use Rattle.std.proofs.Common.{take}
use Rattle.std.specs.Prelude.{All}
use Rattle.fp_certificate_lines.specs.Ranges.{IsSpanInRange}
use Rattle.fp_duals_leaves.proofs.span_tests.are_in_range.Given as goal

-- the spans that were passed are so
abbrev pub invariant-loop-span : goal.invariant-loop-span
invariant-loop-span l = All (IsSpanInRange l.instance) (take l.span-index l.spans)
