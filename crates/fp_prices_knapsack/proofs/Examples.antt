-- The definitions at a few items, with trucks of capacity 10 that cost 60 at the scale 1,000,000.
use Rattle.std.proofs.Common.{◌≡◌, ℕ, ◌+◌, ◌*◌, ◌<◌, ◌≤◌, Bool, true, false, cond, List, [], ◌∷◌, refl, lit<, lit≤, arith}
use Rattle.fp_prices_knapsack.specs.declared.items.Item.{Item}
use Rattle.fp_prices_knapsack.specs.Sets.{weight_of, grains_of}
use Rattle.fp_prices_knapsack.specs.Grains.{common_divisor, grain_of}
use Rattle.fp_prices_knapsack.specs.Charges.{trucks_for, trucks_of, Pays, IsLeastCharge}

abbrev item_of : (size weight : ℕ) → Item
item_of size weight = record { size = size; weight = weight }

abbrev truck : ℕ
truck = 60000000

-- the capacity and the sizes are multiples of 5
grain_five : grain_of 10 (5 ∷ 5 ∷ []) ≡ 5
unfolding grain_of common_divisor
grain_five = refl

-- 4,096 grains are few enough, and one more is too many
grain_one : grain_of 10 (4095 ∷ 1 ∷ []) ≡ 1
unfolding grain_of common_divisor
grain_one = refl

grain_two : grain_of 10 (4096 ∷ 1 ∷ []) ≡ 2
unfolding grain_of common_divisor
grain_two = refl

-- sizes without a grain leave the capacity
grain_none : grain_of 10 [] ≡ 10
unfolding grain_of common_divisor
grain_none = refl

-- a size is rounded down to grains, and a set has at least one truck
rounded_down : grains_of (item_of 4096 7 ∷ item_of 1 5 ∷ []) 2 (λ _. true) ≡ 2048
rounded_down = refl

one_truck : trucks_for 10 0 ≡ 1
one_truck = refl

two_trucks : trucks_for 10 11 ≡ 2
two_trucks = refl

-- two items that fill one truck, and each weighs what it costs
abbrev pair : List Item
pair = item_of 5 truck ∷ item_of 5 truck ∷ []

pair_weighs : weight_of pair (λ _. true) ≡ 2 * truck
pair_weighs = refl

pair_trucks : trucks_of pair 10 (λ _. true) ≡ 1
unfolding grain_of common_divisor
pair_trucks = refl

-- a truck's cost is charged
pair_pays : (first second : Bool) →
    cond second truck 0 + (cond first truck 0 + 0) ≤ truck * trucks_for 10 (5 * (cond second 1 0 + (cond first 1 0 + 0))) + truck
pair_pays true true = lit≤ tt
pair_pays true false = lit≤ tt
pair_pays false true = lit≤ tt
pair_pays false false = lit≤ tt

pair_charge : IsLeastCharge pair 10 truck truck
unfolding grain_of common_divisor
pair_charge = record {
  pays = record { small = lit< tt; sets = λ set some. pair_pays (set 0) (set 1) };
  least = λ other pays. let both : 2 * truck ≤ truck + other = pays.sets (λ _. true) refl in omega (arith, both);
}

-- one item that weighs 5 more than a truck costs
abbrev heavy : List Item
heavy = item_of 4 65 ∷ []

heavy_pays : (first : Bool) → cond first 65 0 + 0 ≤ 60 * trucks_for 10 (2 * (cond first 2 0 + 0)) + 5
heavy_pays true = lit≤ tt
heavy_pays false = lit≤ tt

five_pays : Pays heavy 10 60 5
unfolding grain_of common_divisor
five_pays = record { small = lit< tt; sets = λ set some. heavy_pays (set 0) }

four_fails : Pays heavy 10 60 4 → ⊥
unfolding grain_of common_divisor
four_fails pays = let one : 65 ≤ 64 = pays.sets (λ _. true) refl in omega (arith, one)

-- two items that no truck carries together, and each weighs what it costs, need no charge
abbrev apart : List Item
apart = item_of 6 truck ∷ item_of 7 truck ∷ []

apart_pays : (first second : Bool) →
    cond second truck 0 + (cond first truck 0 + 0) ≤ truck * trucks_for 10 (1 * (cond second 7 0 + (cond first 6 0 + 0))) + 0
apart_pays true true = lit≤ tt
apart_pays true false = lit≤ tt
apart_pays false true = lit≤ tt
apart_pays false false = lit≤ tt

nothing_pays : Pays apart 10 truck 0
unfolding grain_of common_divisor
nothing_pays = record { small = lit< tt; sets = λ set some. apart_pays (set 0) (set 1) }

-- three items of which each two weigh what a truck costs, and all three weigh more
three_fail : Pays (item_of 3 30 ∷ item_of 3 30 ∷ item_of 3 30 ∷ []) 10 60 29 → ⊥
unfolding grain_of common_divisor
three_fail pays = let all : 90 ≤ 89 = pays.sets (λ _. true) refl in omega (arith, all)

-- without items nothing is charged
none_pays : Pays [] 10 60 0
none_pays = record { small = lit< tt; sets = λ set some. omega arith }

-- weights that together are past 128 bits are paid by no charge
past_fails : (charge : ℕ) → Pays (item_of 1 340282366920938463463374607431768211455 ∷ item_of 1 1 ∷ []) 10 60 charge → ⊥
past_fails charge pays = let small : 340282366920938463463374607431768211456 < 340282366920938463463374607431768211456 = pays.small in omega (arith, small)
