-- The order of pairs of numbers.
use Rattle.std.proofs.Common.{◌≡◌, ℕ, ◌<◌, ⊎_elim, inl, inr, arith}
use Rattle.fp_base_lists.specs.Order.{Precedes}

-- the order goes from pair to pair
pub Precedes-trans : (a b c d e f : ℕ) → Precedes a b c d → Precedes c d e f → Precedes a b e f
Precedes-trans a b c d e f first second =
    ⊎_elim
    (λ (less : a < c).
    ⊎_elim
    (λ (more : c < e). inl (omega (arith, less, more)))
    (λ (same : (c ≡ e) × (d < f)). inl (omega (arith, less, same.0)))
    second)
    (λ (same : (a ≡ c) × (b < d)).
    ⊎_elim
    (λ (more : c < e). inl (omega (arith, same.0, more)))
    (λ (also : (c ≡ e) × (d < f)). inr (omega (arith, same.0, also.0), omega (arith, same.1, also.1)))
    second)
    first
