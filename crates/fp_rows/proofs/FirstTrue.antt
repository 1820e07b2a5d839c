-- The first bit of a range, as the first of a list.
use Rattle.std.proofs.Common.{◌≡◌, ℕ, ◌+◌, ◌-◌, ◌<◌, ◌≤◌, Bool, false, cond, List, length, get_or, drop, sym, ap, ◌∙◌, arith}
use Rattle.std.specs.Prelude.{position, option_map, Option, Some, None}
use Rattle.std.specs.List.{position_or_len}
use Rattle.std.proofs.lemmas.Bool.{lt-ltb, le-ltb}
use Rattle.std.proofs.lemmas.List.{length-drop, get_or-drop}
use Rattle.std.proofs.lemmas.List.Sums.{position_or_len_is}
use Rattle.fp_rows.specs.Words.{bit_in, bits, IsFirstWithin}
use Rattle.fp_rows.specs.Bits.{first_true_from}
use Rattle.fp_rows.proofs.BitsIn.{length-bits, get_or-bits}

-- the first bit from a place on that is set is the first of the row that is true
pub first-is : (words : List ℕ) (count at : ℕ) (found : Option ℕ) → at ≤ count → IsFirstWithin (bit_in words) at count found → found ≡ first_true_from (bits words count) at
first-is words count at found within = by-found found
  where
    rest : List Bool
    rest = drop at (bits words count)

    long : length rest ≡ count - at
    long = length-drop at (bits words count) ∙ ap (λ (n : ℕ). n - at) (length-bits words count)

    bit : (k : ℕ) → k < count - at → get_or rest k false ≡ bit_in words (at + k)
    bit k h = get_or-drop at (bits words count) k false ∙ get_or-bits words count (at + k) false (omega arith)

    here : Bool → Bool
    here b = b

    by-found : (o : Option ℕ) → IsFirstWithin (bit_in words) at count o → o ≡ option_map (λ k. at + k) (position here rest)
    by-found None none =
        let place : position_or_len here rest ≡ length rest =
        position_or_len_is here rest (length rest) false (omega arith) (λ k h. bit k (omega (arith, long)) ∙ none (at + k) (omega arith) (omega (arith, long))) (λ h. absurd (omega arith)) in
        sym (ap (option_map (λ k. at + k)) (ap (λ (b : Bool). cond b (Some (position_or_len here rest)) None) (le-ltb (position_or_len here rest) (length rest) (omega (arith, place)))))
    by-found (Some m) w =
        let place : position_or_len here rest ≡ m - at =
        position_or_len_is here rest (m - at) false (omega (arith, w.1, long)) (λ k h. bit k (omega (arith, w.1)) ∙ w.3 (at + k) (omega arith) (omega (arith, w.0)))
        (λ h. let whole : at + (m - at) ≡ m = omega (arith, w.0) in bit (m - at) (omega (arith, long)) ∙ ap (bit_in words) whole ∙ w.2) in
        let whole : at + position_or_len here rest ≡ m = omega (arith, place, w.0) in
        let some = ap (option_map (λ k. at + k)) (ap (λ (b : Bool). cond b (Some (position_or_len here rest)) None) (lt-ltb (position_or_len here rest) (length rest) (omega (arith, place, long, w.0, w.1)))) in
        ap Some (sym whole) ∙ sym some
