use Rattle.std.proofs.Common.{◌≡◌, ℕ, ◌<◌, ◌≤◌, true, false}
use Rattle.fp_allowed.specs.Bits.{bit_of}
use Rattle.fp_allowed.proofs.choices.last_set.Given as goal

abbrev pub invariant-loop-place : goal.invariant-loop-place
invariant-loop-place l =
    (l.first ≤ l.last) × (l.last < l.place) × (bit_of l.row l.last ≡ true) × ((n : ℕ) → l.last < n → n < l.place → bit_of l.row n ≡ false)
