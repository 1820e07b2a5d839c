-- Numbers from one up to and without another.
use Rattle.std.proofs.Common.{◌≡◌, ℕ, ◌+◌, ◌<◌, ◌≤◌, Bool, true, false, arith}
use Rattle.std.specs.Prelude.{◌&&◌, nat_le, nat_lt}
use Rattle.std.proofs.lemmas.Bool.{and_from, and_parts, false_from_ne_true, le-leb, leb-true, lt-ltb, ltb-true}
use Rattle.fp_base_lists.proofs.Truth.{Bool-from_both}

-- whether a number is one of them
abbrev pub between : (first end n : ℕ) → Bool
between first end n = nat_le first n && nat_lt n end

pub between-true : (first end n : ℕ) → between first end n ≡ true → (first ≤ n) × (n < end)
between-true first end n h =
    let parts = and_parts (nat_le first n) (nat_lt n end) h in
    (leb-true first n parts.0, ltb-true n end parts.1)

pub between-from : (first end n : ℕ) → first ≤ n → n < end → between first end n ≡ true
between-from first end n low high = and_from (nat_le first n) (nat_lt n end) (le-leb first n low) (lt-ltb n end high)

-- the next one adds itself alone
pub between-other : (first k n : ℕ) → (n ≡ k → ⊥) → between first (k + 1) n ≡ between first k n
between-other first k n other =
    Bool-from_both (between first (k + 1) n) (between first k n)
    (λ h. let parts = between-true first (k + 1) n h in between-from first k n parts.0 (below parts.1))
    (λ h. let parts = between-true first k n h in between-from first (k + 1) n parts.0 (omega (arith, parts.1)))
  where
    below : n < k + 1 → n < k
    below less = omega (arith, less, other)

-- there are none up to the first one, and none is its own end
pub between-none : (first n : ℕ) → between first first n ≡ false
between-none first n = false_from_ne_true (between first first n) (λ h. let parts = between-true first first n h in absurd (omega (arith, parts.0, parts.1)))

pub between-end : (first k : ℕ) → between first k k ≡ false
between-end first k = false_from_ne_true (between first k k) (λ h. let parts = between-true first k k h in absurd (omega (arith, parts.1)))
