use Rattle.std.proofs.Common.{◌≡◌, ◌+◌, take}
use Rattle.fp_duals_leaves.specs.PriceLines.{span_lines}
use Rattle.fp_duals_leaves.proofs.prices.lines_within.Given as goal

-- the lines of the spans so far, and those that are left
abbrev pub invariant-loop-span : goal.invariant-loop-span
invariant-loop-span l = l.left + span_lines (take l.span-index l.spans) ≡ l.most
