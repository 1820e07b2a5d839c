-- Sums over sets of items.
use Rattle.std.proofs.Common.{◌≡◌, ℕ, zero, suc, ◌+◌, ◌-◌, ◌*◌, ◌<◌, ◌≤◌, Bool, true, false, cond, List, length, subst, arith}
use Rattle.std.specs.Prelude.{◌/◌, All}
use Rattle.std.proofs.Math.Nat.{div-mul-le_self, mul-zero}
use Rattle.std.proofs.lemmas.Bool.{cond-true}
use Rattle.fp_base_lists.specs.Below.{sum_below}
use Rattle.fp_base_lists.proofs.CountsBelow.{some_below-witness}
use Rattle.fp_base_lists.proofs.SumsBelow.{sum_below-has, sum_below-places}
use Rattle.fp_prices_knapsack.specs.declared.items.Item.{Item}
use Rattle.fp_prices_knapsack.specs.Sets.{no_item, item_at, HasSome, sum_over, weight_of, size_of, grains_of}
use Rattle.fp_prices_knapsack.specs.Charges.{total_weight}

-- what one place adds
cond-le : (b : Bool) (n : ℕ) → cond b n 0 ≤ n
cond-le true n = omega arith
cond-le false n = omega arith

-- larger numbers, for fewer places
pub sum_over-le : (bound : ℕ) (set : ℕ → Bool) (f g : ℕ → ℕ) → ((k : ℕ) → f k ≤ g k) → sum_over bound set f ≤ sum_below bound g
sum_over-le zero set f g le = omega arith
sum_over-le (suc n) set f g le = omega (arith, sum_over-le n set f g le, cond-le (set n) (f n), le n)

-- a set weighs at most what all items weigh
pub weight_of-le : (items : List Item) (set : ℕ → Bool) → weight_of items set ≤ total_weight items
weight_of-le items set =
    omega (
      arith,
      sum_over-le (length items) set (λ k. (item_at items k).weight) (λ k. (item_at items k).weight) (λ k. omega arith),
      sum_below-places (λ (item : Item). item.weight) no_item items,
    )

-- whole grains are no more than the size
cond-grains : (b : Bool) (size grain : ℕ) → grain * cond b (size / grain) 0 ≤ cond b size 0
cond-grains true size grain = omega (arith, div-mul-le_self size grain)
cond-grains false size grain = omega (arith, mul-zero grain)

sum_over-grains : (bound grain : ℕ) (set : ℕ → Bool) (f : ℕ → ℕ) → grain * sum_over bound set (λ k. f k / grain) ≤ sum_over bound set f
sum_over-grains zero grain set f = omega (arith, mul-zero grain)
sum_over-grains (suc n) grain set f = omega (arith, sum_over-grains n grain set f, cond-grains (set n) (f n) grain)

pub grains_of-le : (items : List Item) (grain : ℕ) (set : ℕ → Bool) → grain * grains_of items grain set ≤ size_of items set
grains_of-le items grain set = sum_over-grains (length items) grain set (λ k. (item_at items k).size)

-- the numbers below one, and this one, add no more than all below a bound
pub sum_below-room : (bound k : ℕ) (f : ℕ → ℕ) → k < bound → sum_below k f + f k ≤ sum_below bound f
sum_below-room bound k f inside =
    let whole : suc k + (bound - suc k) ≡ bound = omega arith in
    subst (λ (n : ℕ). sum_below k f + f k ≤ sum_below n f) whole (sum_below-has f k (bound - suc k))

-- a set with an item is as large as this item at least
sum_over-has : (bound k : ℕ) (set : ℕ → Bool) (f : ℕ → ℕ) → k < bound → set k ≡ true → f k ≤ sum_over bound set f
sum_over-has bound k set f inside is =
    let added : ℕ → ℕ = λ place. cond (set place) (f place) 0 in
    let here : added k ≡ f k = cond-true (set k) (f k) 0 is in
    omega (arith, here, sum_below-room bound k added inside)

pub size_of-some : (items : List Item) (set : ℕ → Bool) → All (λ (item : Item). 0 < item.size) items → HasSome items set → 0 < size_of items set
size_of-some items set sizes some =
    let member = some_below-witness (length items) set some in
    omega (arith, sum_over-has (length items) member.0 set (λ k. (item_at items k).size) member.1 member.2, sizes member.0 no_item member.1)
