-- The bits of a word, as lanes and one by one.
use Rattle.std.proofs.Common.{◌≡◌, ℕ, zero, suc, ◌+◌, ◌/◌, ◌%◌, ◌^◌, ◌<◌, min, List, [], ◌∷◌, get_or, sym, ap, ◌∙◌, arith}
use Rattle.std.specs.Prelude.{bit_and}
use Rattle.std.specs.Int.{bit_at}
use Rattle.std.proofs.Math.Nat.{div-div-eq-div-mul}
use Rattle.std.proofs.lemmas.Nat.{pow-add}
use Rattle.std.proofs.lemmas.Nat.Bits.{shr_and_one, bit_at_and, bit_at_ones, bit_at-lt}
use Rattle.std.proofs.lemmas.List.FromFn.{get_or-map-range_with_len}
use Rattle.fp_rows.specs.Words.{word_bits}

-- a bit of a word
pub get_or-word_bits : (word i : ℕ) → i < 64 → get_or (word_bits word) i 0 ≡ bit_at word i
get_or-word_bits word i h = get_or-map-range_with_len (bit_at word) 0 64 i i 0 h (omega arith)

-- a bit of what is left of a word after its n lowest bits
bit_at-shifted : (word n j : ℕ) → bit_at (word / 2 ^ n) j ≡ bit_at word (n + j)
bit_at-shifted word n j = ap (λ (m : ℕ). m % 2) (div-div-eq-div-mul word (2 ^ n) (2 ^ j) ∙ ap (λ (m : ℕ). word / m) (sym (pow-add 2 n j)))

-- a lane: bit j of the byte from place n on
lane-bit : (word n j : ℕ) → j < 8 → bit_and (bit_and (word / 2 ^ n) 255 / 2 ^ j) 1 ≡ bit_at word (n + j)
lane-bit word n j h =
    let byte : ℕ = word / 2 ^ n in
    let low = bit_at_ones 8 j h in
    let small = bit_at-lt byte j in
    let kept : min (bit_at byte j) (bit_at 255 j) ≡ bit_at byte j = omega (arith, low, small) in
    shr_and_one (bit_and byte 255) j ∙ bit_at_and byte 255 j ∙ kept ∙ bit_at-shifted word n j

-- the bit that a shift by one lane's place leaves, with 2 to that place as d
abbrev pub lane_over : ℕ → ℕ → ℕ → ℕ
lane_over word n d = bit_and (bit_and (word / 2 ^ n) 255 / d) 1

-- the eight lanes from place n on
abbrev pub lanes_at : ℕ → ℕ → List ℕ
lanes_at word n =
    lane_over word n 1 ∷ lane_over word n 2 ∷ lane_over word n 4 ∷ lane_over word n 8 ∷ lane_over word n 16 ∷ lane_over word n 32 ∷ lane_over word n 64 ∷ lane_over word n 128 ∷ []

pub get_or-lanes_at : (word n j : ℕ) → j < 8 → get_or (lanes_at word n) j 0 ≡ bit_at word (n + j)
get_or-lanes_at word n zero h = lane-bit word n 0 h
get_or-lanes_at word n (suc zero) h = lane-bit word n 1 h
get_or-lanes_at word n (suc (suc zero)) h = lane-bit word n 2 h
get_or-lanes_at word n (suc (suc (suc zero))) h = lane-bit word n 3 h
get_or-lanes_at word n (suc (suc (suc (suc zero)))) h = lane-bit word n 4 h
get_or-lanes_at word n (suc (suc (suc (suc (suc zero))))) h = lane-bit word n 5 h
get_or-lanes_at word n (suc (suc (suc (suc (suc (suc zero)))))) h = lane-bit word n 6 h
get_or-lanes_at word n (suc (suc (suc (suc (suc (suc (suc zero))))))) h = lane-bit word n 7 h
get_or-lanes_at word n (suc (suc (suc (suc (suc (suc (suc (suc j)))))))) h = absurd (omega arith)
