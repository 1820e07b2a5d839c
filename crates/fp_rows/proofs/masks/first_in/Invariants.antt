-- No bit of the range is set in the words so far.
use Rattle.std.proofs.Common.{◌≡◌, ℕ, ◌*◌, ◌<◌, ◌≤◌, false}
use Rattle.fp_rows.specs.Words.{bit_in}
use Rattle.fp_rows.proofs.masks.first_in.Given as goal

abbrev pub invariant-loop-word : goal.invariant-loop-word
invariant-loop-word l = (i : ℕ) → l.from ≤ i → i < l.to → i < 64 * l.word → bit_in l.words i ≡ false
