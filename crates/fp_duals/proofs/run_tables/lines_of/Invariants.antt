use Rattle.std.proofs.Common.{◌≡◌, take}
use Rattle.fp_duals.specs.PriceLines.{line_count}
use Rattle.fp_duals.proofs.run_tables.lines_of.Given as goal

-- the lines of the shares so far
abbrev pub invariant-loop-share : goal.invariant-loop-share
invariant-loop-share l = l.lines ≡ line_count (take l.share-index l.shares)
