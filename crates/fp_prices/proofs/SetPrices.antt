-- In a class the prices of any set of shipments sum to at most what the trucks cost that hold the set.
use Rattle.std.proofs.Common.{◌≡◌, ℕ, ◌+◌, ◌*◌, ◌/◌, ◌<◌, ◌≤◌, Bool, true, false, cond, List, [], ◌∷◌, length, ⊎_elim, arith}
use Rattle.std.specs.Prelude.{sum_by, nat_eq, nat_le}
use Rattle.std.specs.Int.{div_ceil}
use Rattle.std.proofs.Math.Nat.{mul-le-mul_left, mul-le-mul_right, div-mul-le_self}
use Rattle.std.proofs.lemmas.Bool.{cases_Bool, cond-true, cond-false}
use Rattle.std.proofs.lemmas.List.Sums.{sum_by-cons, sum_by-le-sum_by}
use Rattle.fp_base_lists.proofs.DistinctSums.{sum_by-one-le}
use Rattle.fp_model.specs.declared.parts.Arc.{Arc}
use Rattle.fp_model.specs.Problem.{truck_cost}
use Rattle.fp_base_lists.specs.Distinct.{AreDistinct}
use Rattle.fp_base_lists.proofs.Ceilings.{div_ceil-holds, div_ceil-some}
use Rattle.fp_base_lists.proofs.Sums.{sum_by-same, sum_by-both, sum_by-scaled_right, sum_by-const}
use Rattle.fp_prices.specs.declared.tables.Weight.{Weight}
use Rattle.fp_prices.specs.Shares.{ClassShare}
use Rattle.fp_prices.specs.Prices.{weight_in, KeepsRule, linear_price, even_price, share_price}

-- linear prices
pub linear-fits : (scale : ℕ) (arc : Arc) (size : ℕ → ℕ) (set : List ℕ) → 0 < arc.capacity →
    sum_by (λ k. linear_price scale arc (size k)) set ≤ scale * truck_cost arc (sum_by size set)
linear-fits scale arc size set h =
    let most : ℕ = scale * arc.truck in
    let rate : ℕ = most / arc.capacity in
    let all : ℕ = sum_by size set in
    let count : ℕ = div_ceil all arc.capacity in
    let each : sum_by (λ k. size k * rate) set ≡ all * rate = sum_by-scaled_right size rate set in
    let held : all * rate ≤ count * arc.capacity * rate = mul-le-mul_right rate (div_ceil-holds all arc.capacity h) in
    let rated : count * (rate * arc.capacity) ≤ count * most = mul-le-mul_left count (div-mul-le_self most arc.capacity) in
    omega (arith, each, held, rated)

-- even prices, where the set has no more shipments than the truck is shared among
pub even-fits : (scale : ℕ) (arc : Arc) (count all : ℕ) (size : ℕ → ℕ) (set : List ℕ) → 0 < arc.capacity → length set ≤ count → 0 < sum_by size set →
    sum_by (λ k. even_price scale arc count all (size k)) set ≤ scale * truck_cost arc (sum_by size set)
even-fits scale arc count all size set h few some =
    let most : ℕ = scale * arc.truck in
    let needed : ℕ = div_ceil (sum_by size set) arc.capacity in
    let test : Bool = nat_le all arc.capacity in
    ⊎_elim
    (λ (fits : test ≡ true).
    let same : sum_by (λ k. even_price scale arc count all (size k)) set ≡ sum_by (λ (k : ℕ). most / count) set =
    sum_by-same (λ k. even_price scale arc count all (size k)) (λ (k : ℕ). most / count)
    (λ k. cond-true test (most / count) (linear_price scale arc (size k)) fits) set in
    let each : sum_by (λ (k : ℕ). most / count) set ≡ length set * (most / count) = sum_by-const (most / count) set in
    let parts : length set * (most / count) ≤ count * (most / count) = mul-le-mul_right (most / count) few in
    let whole : most / count * count ≤ most = div-mul-le_self most count in
    let once : most * 1 ≤ most * needed = mul-le-mul_left most (div_ceil-some (sum_by size set) arc.capacity h some) in
    omega (arith, same, each, parts, whole, once))
    (λ (over : test ≡ false).
    let same : sum_by (λ k. even_price scale arc count all (size k)) set ≡ sum_by (λ k. linear_price scale arc (size k)) set =
    sum_by-same (λ k. even_price scale arc count all (size k)) (λ k. linear_price scale arc (size k))
    (λ k. cond-false test (most / count) (linear_price scale arc (size k)) over) set in
    omega (arith, same, linear-fits scale arc size set h))
    (cases_Bool test)

-- a weight counts for one number at most
weight-parts : (w : Weight) (weights : List Weight) (k : ℕ) → weight_in (w ∷ weights) k ≤ cond (nat_eq w.shipment k) w.w 0 + weight_in weights k
weight-parts w weights k =
    ⊎_elim
    (λ (same : nat_eq w.shipment k ≡ true).
    omega (arith, cond-true (nat_eq w.shipment k) w.w (weight_in weights k) same, cond-true (nat_eq w.shipment k) w.w 0 same))
    (λ (other : nat_eq w.shipment k ≡ false).
    omega (arith, cond-false (nat_eq w.shipment k) w.w (weight_in weights k) other, cond-false (nat_eq w.shipment k) w.w 0 other))
    (cases_Bool (nat_eq w.shipment k))

-- the weights of different shipments sum to at most all weights
weights-le : (weights : List Weight) (set : List ℕ) → AreDistinct set → sum_by (weight_in weights) set ≤ sum_by (λ (w : Weight). w.w) weights
weights-le [] set apart = omega (arith, sum_by-const 0 set)
weights-le (w ∷ weights) set apart =
    let here : ℕ → ℕ = λ k. cond (nat_eq w.shipment k) w.w 0 in
    let pointwise : sum_by (weight_in (w ∷ weights)) set ≤ sum_by (λ k. here k + weight_in weights k) set =
    sum_by-le-sum_by (weight_in (w ∷ weights)) (λ k. here k + weight_in weights k) set (weight-parts w weights) in
    omega (
      arith,
      pointwise,
      sum_by-both here (weight_in weights) set,
      sum_by-one-le w.shipment w.w set apart,
      weights-le weights set apart,
      sum_by-cons (λ (x : Weight). x.w) w weights,
    )

-- prices by a share that keeps the price rule
pub share-fits : (scale : ℕ) (arc : Arc) (share : ClassShare) (size : ℕ → ℕ) (set : List ℕ) → 0 < arc.capacity → KeepsRule scale arc share → AreDistinct set → 0 < sum_by size set →
    sum_by (λ k. share_price share k (size k)) set ≤ scale * truck_cost arc (sum_by size set)
share-fits scale arc share size set h rule apart some =
    let most : ℕ = scale * arc.truck in
    let all : ℕ = sum_by size set in
    let count : ℕ = div_ceil all arc.capacity in
    let paid : ℕ = sum_by (weight_in share.weights) set in
    let total : ℕ = sum_by (λ (w : Weight). w.w) share.weights in
    let split : sum_by (λ k. share_price share k (size k)) set ≡ paid + sum_by (λ k. size k * share.v) set =
    sum_by-both (weight_in share.weights) (λ k. size k * share.v) set in
    let sized : sum_by (λ k. size k * share.v) set ≡ all * share.v = sum_by-scaled_right size share.v set in
    let weighed : paid ≤ total = weights-le share.weights set apart in
    let once : total * 1 ≤ total * count = mul-le-mul_left total (div_ceil-some all arc.capacity h some) in
    let held : all * share.v ≤ count * arc.capacity * share.v = mul-le-mul_right share.v (div_ceil-holds all arc.capacity h) in
    let ruled : count * (total + arc.capacity * share.v) ≤ count * most = mul-le-mul_left count rule in
    omega (arith, split, sized, weighed, once, held, ruled)
