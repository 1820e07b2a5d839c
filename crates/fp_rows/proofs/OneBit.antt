-- One bit of a word as a truth value.
use Rattle.std.proofs.Common.{◌≡◌, ℕ, zero, suc, ◌-◌, ◌<◌, ◌^◌, Bool, ◌||◌, ◌&&◌, min, max, refl, ap, ◌∙◌, arith}
use Rattle.std.specs.Prelude.{nat_eq, not, bit_and, bit_or}
use Rattle.std.specs.Int.{bit_at, bit_not, w64}
use Rattle.std.proofs.lemmas.Nat.Bits.{bit_at_and, bit_at_or, bit_at_not, bit_at-lt}

-- a bit, as a truth value
abbrev pub has_bit : ℕ → ℕ → Bool
has_bit word i = nat_eq (bit_at word i) 1

min-one : (a b : ℕ) → a < 2 → b < 2 → nat_eq (min a b) 1 ≡ (nat_eq a 1 && nat_eq b 1)
min-one zero zero h k = refl
min-one zero (suc zero) h k = refl
min-one (suc zero) zero h k = refl
min-one (suc zero) (suc zero) h k = refl
min-one a (suc (suc b)) h k = absurd (omega arith)
min-one (suc (suc a)) b h k = absurd (omega arith)

max-one : (a b : ℕ) → a < 2 → b < 2 → nat_eq (max a b) 1 ≡ (nat_eq a 1 || nat_eq b 1)
max-one zero zero h k = refl
max-one zero (suc zero) h k = refl
max-one (suc zero) zero h k = refl
max-one (suc zero) (suc zero) h k = refl
max-one a (suc (suc b)) h k = absurd (omega arith)
max-one (suc (suc a)) b h k = absurd (omega arith)

minus-one : (a : ℕ) → a < 2 → nat_eq (1 - a) 1 ≡ not (nat_eq a 1)
minus-one zero h = refl
minus-one (suc zero) h = refl
minus-one (suc (suc a)) h = absurd (omega arith)

-- the bits of an and
pub has_bit-and : (a b i : ℕ) → has_bit (bit_and a b) i ≡ (has_bit a i && has_bit b i)
has_bit-and a b i = ap (λ (n : ℕ). nat_eq n 1) (bit_at_and a b i) ∙ min-one (bit_at a i) (bit_at b i) (bit_at-lt a i) (bit_at-lt b i)

-- the bits of an or
pub has_bit-or : (a b i : ℕ) → has_bit (bit_or a b) i ≡ (has_bit a i || has_bit b i)
has_bit-or a b i = ap (λ (n : ℕ). nat_eq n 1) (bit_at_or a b i) ∙ max-one (bit_at a i) (bit_at b i) (bit_at-lt a i) (bit_at-lt b i)

-- the bits of a complement
pub has_bit-not : (a i : ℕ) → a < 2 ^ 64 → i < 64 → has_bit (bit_not w64 a) i ≡ not (has_bit a i)
has_bit-not a i fits h = ap (λ (n : ℕ). nat_eq n 1) (bit_at_not w64 a i fits h) ∙ minus-one (bit_at a i) (bit_at-lt a i)
