-- The words before the block or the place are done.
use Rattle.std.proofs.Common.{◌*◌}
use Rattle.std.specs.Prelude.{bit_and}
use Rattle.fp_rows.proofs.WordPairs.{Combines}
use Rattle.fp_rows.proofs.kernels.and_words.Given as goal

abbrev pub invariant-loop-block : goal.invariant-loop-block
invariant-loop-block l = Combines bit_and l.initial.into l.other l.into (8 * l.block)

abbrev pub invariant-loop-place : goal.invariant-loop-place
invariant-loop-place l = Combines bit_and l.fn.into l.other l.into l.place
