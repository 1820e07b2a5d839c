use Rattle.std.proofs.Common.{◌≡◌, ◌+◌, take}
use Rattle.fp_duals.specs.PriceLines.{line_count}
use Rattle.fp_duals.proofs.table_tests.has_at_most.Given as goal

-- the lines of the shares so far, and those that are left
abbrev pub invariant-loop-share : goal.invariant-loop-share
invariant-loop-share l = l.left + line_count (take l.share-index l.shares) ≡ l.lines
