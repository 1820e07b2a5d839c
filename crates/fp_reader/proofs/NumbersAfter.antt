-- Draws after draws.
use Rattle.std.proofs.Common.{◌≡◌, ◌∙◌, ℕ, zero, suc, ◌+◌, sym, ap, arith}
use Rattle.std.specs.Fn.{iterate}
use Rattle.fp_reader.specs.Draws.{next_number}
use Rattle.fp_reader.specs.Generator.{number_after}

iterate-more : {A : Type 0} (h : A → A) (j k : ℕ) (x : A) → iterate h k (iterate h j x) ≡ iterate h (j + k) x
iterate-more h zero k x =
    let e : 0 + k ≡ k = omega arith in
    ap (λ n. iterate h n x) (sym e)
iterate-more h (suc j) k x =
    let e : suc (j + k) ≡ suc j + k = omega arith in
    iterate-more h j k (h x) ∙ ap (λ n. iterate h n x) e

-- so many draws after others
pub number_after-more : (x j k n : ℕ) → j + k ≡ n → number_after (number_after x j) k ≡ number_after x n
number_after-more x j k n e = iterate-more next_number j k x ∙ ap (number_after x) e
