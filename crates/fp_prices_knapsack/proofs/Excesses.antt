-- The greatest excess over one load more.
use Rattle.std.proofs.Common.{◌≡◌, ℕ, ◌+◌, ◌-◌, ◌<◌, ◌≤◌, List, length, take, slice_index, ⊎_elim, sym, ◌∙◌, subst, arith}
use Rattle.std.proofs.lemmas.Bool.{cases_lt}
use Rattle.std.proofs.lemmas.List.{get_or-take, length-take-le}
use Rattle.fp_prices_knapsack.specs.Loads.{IsExcess}

module _ (best : List ℕ) (paid : ℕ → ℕ) (amount load i : ℕ) (inside : i < length best) (is : IsExcess (take i best) paid amount load) where
  short : length (take i best) ≡ i
  short = length-take-le i best (omega arith)

  long : length (take (i + 1) best) ≡ i + 1
  long = length-take-le (i + 1) best (omega arith)

  old : (other : ℕ) → other < i → slice_index (take i best) other ≡ slice_index best other
  old other h = get_or-take i best other 0 h

  new : (other : ℕ) → other < i + 1 → slice_index (take (i + 1) best) other ≡ slice_index best other
  new other h = get_or-take (i + 1) best other 0 h

  -- an amount that is no less, and enough for the load
  all-within : (next : ℕ) → amount ≤ next → slice_index best i ≤ paid i + next → (other : ℕ) → other < length (take (i + 1) best) →
      slice_index (take (i + 1) best) other ≤ paid other + next
  all-within next more enough other h =
      ⊎_elim
      (λ (less : other < i). omega (arith, new other (omega (arith, long)), old other less, is.most other (omega (arith, short)), more))
      (λ (last : i ≤ other).
      let same : i ≡ other = omega (arith, long) in
      omega (arith, new other (omega (arith, long)), subst (λ (l : ℕ). slice_index best l ≤ paid l + next) same enough))
      (cases_lt other i)

  -- the load has no more
  pub IsExcess-kept : slice_index best i - paid i ≤ amount → IsExcess (take (i + 1) best) paid amount load
  IsExcess-kept less = record {
    most = all-within amount (omega arith) (omega (arith, less));
    attained = λ some.
        (let before = is.attained some in
        let inside' : load < i = omega (arith, short, before.0) in
        (omega (arith, long, inside'), new load (omega arith) ∙ sym (old load inside') ∙ before.1));
  }

  -- or more
  pub IsExcess-more : amount < slice_index best i - paid i → IsExcess (take (i + 1) best) paid (slice_index best i - paid i) i
  IsExcess-more more = record {
    most = all-within (slice_index best i - paid i) (omega arith) (omega (arith, more));
    attained = λ some. (omega (arith, long), new i (omega arith) ∙ (let e : slice_index best i ≡ paid i + (slice_index best i - paid i) = omega (arith, more) in e));
  }
