-- The words before the block or the place are done.
use Rattle.std.proofs.Common.{◌*◌}
use Rattle.fp_rows.specs.Words.{without}
use Rattle.fp_rows.proofs.WordPairs.{Combines}
use Rattle.fp_rows.proofs.kernels.and_not_words.Given as goal

abbrev pub invariant-loop-block : goal.invariant-loop-block
invariant-loop-block l = Combines without l.initial.into l.other l.into (8 * l.block)

abbrev pub invariant-loop-place : goal.invariant-loop-place
invariant-loop-place l = Combines without l.fn.into l.other l.into l.place
