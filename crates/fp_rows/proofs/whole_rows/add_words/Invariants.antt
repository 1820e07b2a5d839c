-- The counts of the words so far are done.
use Rattle.std.proofs.Common.{◌+◌, ◌*◌, min, length, map}
use Rattle.fp_rows.specs.Words.{bits}
use Rattle.fp_rows.specs.Bits.{as_one}
use Rattle.fp_rows.proofs.WordPairs.{Combines}
use Rattle.fp_rows.proofs.whole_rows.add_words.Given as goal

abbrev pub invariant-loop-place : goal.invariant-loop-place
invariant-loop-place l = Combines ◌+◌ l.initial.counts (map as_one (bits l.words (length l.initial.counts))) l.counts (min (64 * l.place) (length l.initial.counts))
