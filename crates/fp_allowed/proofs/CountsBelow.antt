-- How many bits of a row are true, as a count of the places below its length.
use Rattle.std.proofs.Common.{◌≡◌, Bool, cond, List, [], ◌∷◌, length, refl, arith}
use Rattle.std.proofs.lemmas.List.Sums.{sum_by-cons}
use Rattle.fp_base_lists.proofs.CountsBelow.{count_below-front}
use Rattle.fp_rows.specs.Bits.{count_true}
use Rattle.fp_allowed.specs.Bits.{bit_of}
use Rattle.fp_base_lists.specs.Below.{count_below}

-- the true bits of a row
pub count_true-below : (bits : List Bool) → count_true bits ≡ count_below (length bits) (bit_of bits)
count_true-below [] = refl
count_true-below (b ∷ bits) =
    omega (arith, sum_by-cons (λ x. cond x 1 0) b bits, count_true-below bits, count_below-front (length bits) (bit_of (b ∷ bits)))
