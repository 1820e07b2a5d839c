-- The counts before the block or the place are done.
use Rattle.std.proofs.Common.{◌*◌, ◌+◌}
use Rattle.fp_rows.specs.Words.{word_bits}
use Rattle.fp_rows.proofs.WordPairs.{Combines}
use Rattle.fp_rows.proofs.kernels.add_bits.Given as goal

abbrev pub invariant-loop-block : goal.invariant-loop-block
invariant-loop-block l = Combines ◌+◌ l.initial.counts (word_bits l.word) l.counts (8 * l.block)

abbrev pub invariant-loop-place : goal.invariant-loop-place
invariant-loop-place l = Combines ◌+◌ l.fn.counts (word_bits l.word) l.counts l.place
