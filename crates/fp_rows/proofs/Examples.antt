-- Five words and a mask of five, and rows of four bits.
use Rattle.std.proofs.Common.{◌≡◌, true, false, [], ◌∷◌, sum_by, refl}
use Rattle.std.specs.Prelude.{Some, None, bit_and}
use Rattle.std.specs.Int.RustNames.{count_ones}
use Rattle.std.specs.Simd.Lanes.{zip2}
use Rattle.fp_rows.specs.Words.{bits, without}
use Rattle.fp_rows.specs.Bits.{with_range, first_true_from, count_true, added_bits, and_not_bits, are_all_false}

masked_words : zip2 bit_and (1 ∷ 2 ∷ 3 ∷ 4 ∷ 5 ∷ []) (1 ∷ 1 ∷ 1 ∷ 1 ∷ 4 ∷ []) ≡ (1 ∷ 0 ∷ 1 ∷ 0 ∷ 4 ∷ [])
masked_words = refl

lost_words : zip2 without (1 ∷ 2 ∷ 3 ∷ 4 ∷ 5 ∷ []) (1 ∷ 1 ∷ 1 ∷ 1 ∷ 4 ∷ []) ≡ (0 ∷ 2 ∷ 2 ∷ 4 ∷ 1 ∷ [])
lost_words = refl

counted_words : sum_by count_ones (1 ∷ 0 ∷ 1 ∷ 0 ∷ 4 ∷ []) ≡ 3
unfolding count_ones
counted_words = refl

lowest_bit_first : bits (6 ∷ []) 4 ≡ (false ∷ true ∷ true ∷ false ∷ [])
lowest_bit_first = refl

filled_up_to_the_end : with_range (false ∷ false ∷ false ∷ false ∷ []) 1 3 true ≡ (false ∷ true ∷ true ∷ false ∷ [])
filled_up_to_the_end = refl

first_at_the_place_itself : first_true_from (false ∷ true ∷ true ∷ false ∷ []) 1 ≡ Some 1
first_at_the_place_itself = refl

first_after_it : first_true_from (false ∷ true ∷ true ∷ false ∷ []) 2 ≡ Some 2
first_after_it = refl

none_is_left : first_true_from (false ∷ true ∷ true ∷ false ∷ []) 3 ≡ None
none_is_left = refl

two_are_true : count_true (false ∷ true ∷ true ∷ false ∷ []) ≡ 2
two_are_true = refl

counts_grow : added_bits (7 ∷ 7 ∷ 7 ∷ 7 ∷ []) (false ∷ true ∷ true ∷ false ∷ []) ≡ (7 ∷ 8 ∷ 8 ∷ 7 ∷ [])
counts_grow = refl

lost_bits : and_not_bits (true ∷ true ∷ false ∷ []) (true ∷ false ∷ true ∷ []) ≡ (false ∷ true ∷ false ∷ [])
lost_bits = refl

nothing_true : are_all_false (false ∷ false ∷ []) ≡ true
nothing_true = refl
