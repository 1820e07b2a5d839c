-- The run with a number.
use Rattle.std.proofs.Common.{◌≡◌, ℕ, zero, suc, ◌+◌, ◌-◌, ◌<◌, ◌≤◌, List, [], ◌∷◌, Option, Some, length, get_or, map, refl, subst, arith}
use Rattle.fp_prices_spans.specs.declared.rules.moment_runs.MomentRun.{MomentRun}
use Rattle.fp_prices_spans.specs.MomentRuns.{runs_from}

-- it begins with the moment with its number, where the first is that from which the runs go on, and ends with the next
pub runs-at : (from : ℕ) (groups : List ℕ) (end : Option ℕ) (n : ℕ) (other : MomentRun) → n ≤ length groups →
    get_or (runs_from from groups end) n other ≡ record { from = get_or (from ∷ groups) n 0; before = get_or (map Some groups) n end }
runs-at from [] end zero other lt = refl
runs-at from [] end (suc n) other lt = absurd (omega (arith, lt))
runs-at from (next ∷ later) end zero other lt = refl
runs-at from (next ∷ later) end (suc n) other lt = runs-at next later end n other (omega (arith, lt))

-- there is one more than groups begin
pub length-runs : (from : ℕ) (groups : List ℕ) (end : Option ℕ) → length (runs_from from groups end) ≡ length groups + 1
length-runs from [] end = refl
length-runs from (next ∷ later) end = omega (arith, length-runs next later end)

pub get_or-later : (x : ℕ) (xs : List ℕ) (n : ℕ) → 0 < n → get_or (x ∷ xs) n 0 ≡ get_or xs (n - 1) 0
get_or-later x xs zero some = absurd (omega (arith, some))
get_or-later x xs (suc n) some =
    let e : n ≡ suc n - 1 = omega arith in subst (λ (m : ℕ). get_or xs n 0 ≡ get_or xs m 0) e refl
