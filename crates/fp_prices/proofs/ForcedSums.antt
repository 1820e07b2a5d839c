-- Sums over the set bits of a row.
use Rattle.std.proofs.Common.{◌≡◌, ℕ, suc, ◌+◌, ◌*◌, ◌-◌, ◌^◌, ◌<◌, ◌≤◌, Bool, false, List, length, sym, ap, ◌∙◌, subst, arith}
use Rattle.std.specs.Prelude.{if◌then◌else◌}
use Rattle.std.proofs.lemmas.Bool.{cond-false, cond-true}
use Rattle.std.proofs.Math.Nat.{mul-le-mul_left}
use Rattle.fp_base_lists.proofs.SumsBelow.{sum_below-more, sum_below-has}
use Rattle.fp_model.specs.Problem.{Problem}
use Rattle.fp_longestarcs.specs.Networks.{TimedNetwork}
use Rattle.fp_allowed.specs.Bits.{bit_of}
use Rattle.fp_prices.specs.Forced.{row_cost, truck_cost_at}
use Rattle.fp_base_lists.specs.Below.{sum_below}
use Rattle.fp_prices.proofs.SetBits.{IsNextSet}

-- what the class with a number adds
abbrev pub set_cost : Problem → TimedNetwork → List ℕ → List Bool → ℕ → ℕ
set_cost p net loads row n = if bit_of row n then truck_cost_at p net loads n else 0

-- one more set bit
pub sum_below-next : (p : Problem) (net : TimedNetwork) (loads : List ℕ) (row : List Bool) (next place : ℕ) → IsNextSet row next place →
    sum_below (place + 1) (set_cost p net loads row) ≡ sum_below next (set_cost p net loads row) + truck_cost_at p net loads place
sum_below-next p net loads row next place is =
    let f : ℕ → ℕ = set_cost p net loads row in
    let here : f place ≡ truck_cost_at p net loads place = cond-true (bit_of row place) (truck_cost_at p net loads place) 0 is.set_it in
    let gap : next + (place - next) ≡ place = omega (arith, is.from) in
    let same : sum_below place f ≡ sum_below next f =
    ap (λ (k : ℕ). sum_below k f) (sym gap) ∙ sum_below-more f next (place - next) (λ i from before. cond-false (bit_of row i) (truck_cost_at p net loads i) 0 (is.between i from (omega (arith, gap)))) in
    let e : place + 1 ≡ suc place = omega arith in
    ap (λ (k : ℕ). sum_below k f) e ∙ (let r : f place + sum_below place f ≡ sum_below next f + truck_cost_at p net loads place = omega (arith, here, same) in r)

-- no more set bits
pub sum_below-rest : (p : Problem) (net : TimedNetwork) (loads : List ℕ) (row : List Bool) (next : ℕ) → next ≤ length row → ((n : ℕ) → next ≤ n → bit_of row n ≡ false) →
    row_cost p net loads row ≡ sum_below next (set_cost p net loads row)
sum_below-rest p net loads row next within none =
    let f : ℕ → ℕ = set_cost p net loads row in
    let gap : next + (length row - next) ≡ length row = omega (arith, within) in
    ap (λ (k : ℕ). sum_below k f) (sym gap) ∙ sum_below-more f next (length row - next) (λ i from before. cond-false (bit_of row i) (truck_cost_at p net loads i) 0 (none i from))

-- what a set bit adds is part of the whole
sum_below-part : (p : Problem) (net : TimedNetwork) (loads : List ℕ) (row : List Bool) (next place : ℕ) → IsNextSet row next place →
    sum_below next (set_cost p net loads row) + truck_cost_at p net loads place ≤ row_cost p net loads row
sum_below-part p net loads row next place is =
    let f : ℕ → ℕ = set_cost p net loads row in
    let more : sum_below (place + 1) f ≡ sum_below next f + truck_cost_at p net loads place = sum_below-next p net loads row next place is in
    let e : suc place + (length row - suc place) ≡ length row = omega (arith, is.within) in
    let e' : place + 1 ≡ suc place = omega arith in
    let again : sum_below (place + 1) f ≡ f place + sum_below place f = ap (λ (k : ℕ). sum_below k f) e' in
    let has : sum_below place f + f place ≤ sum_below (length row) f = subst (λ (k : ℕ). sum_below place f + f place ≤ sum_below k f) e (sum_below-has f place (length row - suc place)) in
    omega (arith, more, again, has)

-- so it fits, scaled or not
pub part-fits : (p : Problem) (net : TimedNetwork) (loads : List ℕ) (row : List Bool) (next place : ℕ) → IsNextSet row next place → 1 ≤ p.scale → p.scale * row_cost p net loads row < 2 ^ 127 →
    (p.scale * sum_below next (set_cost p net loads row) + p.scale * truck_cost_at p net loads place < 2 ^ 127) × (truck_cost_at p net loads place < 2 ^ 127)
part-fits p net loads row next place is some fits =
    let cost : ℕ = truck_cost_at p net loads place in
    let so_far : ℕ = sum_below next (set_cost p net loads row) in
    let part : p.scale * (so_far + cost) ≤ p.scale * row_cost p net loads row = mul-le-mul_left p.scale (sum_below-part p net loads row next place is) in
    let whole : p.scale * (so_far + cost) ≡ p.scale * so_far + p.scale * cost = omega arith in
    let once : cost * 1 ≤ cost * p.scale = mul-le-mul_left cost some in
    (omega (arith, part, whole, fits), omega (arith, part, whole, fits, once))
