-- The least charge, by the greatest weights of sets.
use Rattle.std.proofs.Common.{◌≡◌, ℕ, zero, suc, ◌+◌, ◌*◌, ◌^◌, ◌<◌, ◌≤◌, Bool, true, false, cond, List, length, sum, ⊎_elim, ap, arith}
use Rattle.std.specs.Prelude.{◌/◌}
use Rattle.std.proofs.Math.Nat.{mul-le-mul_left}
use Rattle.std.proofs.lemmas.Nat.{le-div}
use Rattle.std.proofs.lemmas.Bool.{cases_Bool, cases_lt, or_left, or_right}
use Rattle.std.proofs.lemmas.List.Sums.{sum-map}
use Rattle.fp_base_lists.specs.Below.{some_below}
use Rattle.fp_base_lists.specs.Membership.{list_has}
use Rattle.fp_base_lists.proofs.Ceilings.{div_ceil_mono}
use Rattle.fp_prices_knapsack.specs.declared.items.Item.{Item}
use Rattle.fp_prices_knapsack.specs.Sets.{no_item, item_at, sizes_of, HasSome, sum_over, weight_of, size_of, grains_of}
use Rattle.fp_prices_knapsack.specs.Grains.{grain_of}
use Rattle.fp_prices_knapsack.specs.Charges.{trucks_for, trucks_of, total_weight, Pays, IsLeastCharge, IsDearest}
use Rattle.fp_prices_knapsack.specs.Loads.{best_places, AreBest, IsExcess}
use Rattle.fp_prices_knapsack.proofs.SetSums.{sum_over-le, weight_of-le, grains_of-le}
use Rattle.fp_prices_knapsack.proofs.BestWeights.{best_weight-most, IsBest, best_places-best}
use Rattle.fp_base_lists.proofs.SumsBelow.{sum_below-places}

-- a charge that pays pays if it is raised
pub Pays_mono : (items : List Item) (capacity money charge more : ℕ) → charge ≤ more → Pays items capacity money charge → Pays items capacity money more
Pays_mono items capacity money charge more le pays = record { small = pays.small; sets = λ set some. omega (arith, pays.sets set some) }

-- one truck's money is within the money of at least one
one_truck-le : (capacity size money : ℕ) → money ≤ money * trucks_for capacity size
one_truck-le capacity size money =
    let some : 1 ≤ trucks_for capacity size = omega arith in
    omega (arith, mul-le-mul_left money some)

-- items that weigh no more than the money of one truck need no charge
pub IsLeastCharge-none : (items : List Item) (capacity money : ℕ) → total_weight items < 2 ^ 128 → total_weight items ≤ money → IsLeastCharge items capacity money 0
IsLeastCharge-none items capacity money small light = record {
  pays = record {
    small = small;
    sets = λ set some. omega (arith, weight_of-le items set, light, one_truck-le capacity (grain_of capacity (sizes_of items) * grains_of items (grain_of capacity (sizes_of items)) set) money);
  };
  least = λ other pays. omega arith;
}

-- a set that weighs something has an item
sum_over-some : (n : ℕ) (set : ℕ → Bool) (f : ℕ → ℕ) → 0 < sum_over n set f → some_below n set ≡ true
sum_over-some zero set f some = absurd (omega (arith, some))
sum_over-some (suc n) set f some =
    ⊎_elim
    (λ (is : set n ≡ true). or_left (set n) (some_below n set) is)
    (λ (is : set n ≡ false).
    let none : cond (set n) (f n) 0 ≡ 0 = ap (λ (b : Bool). cond b (f n) 0) is in
    or_right (set n) (some_below n set) (sum_over-some n set f (omega (arith, some, none))))
    (cases_Bool (set n))

-- a set is no larger than all items
size_of-le : (items : List Item) (set : ℕ → Bool) → size_of items set ≤ sum (sizes_of items)
size_of-le items set =
    omega (
      arith,
      sum_over-le (length items) set (λ k. (item_at items k).size) (λ k. (item_at items k).size) (λ k. omega arith),
      sum_below-places (λ (item : Item). item.size) no_item items,
      sum-map (λ (item : Item). item.size) items,
    )

-- the grains of a set are among the loads
grains_of-within : (items : List Item) (grain : ℕ) (set : ℕ → Bool) → 0 < grain → grains_of items grain set ≤ sum (sizes_of items) / grain
grains_of-within items grain set some = le-div (grains_of items grain set) (sum (sizes_of items)) grain some (omega (arith, grains_of-le items grain set, size_of-le items set))

-- a larger load needs no fewer trucks
trucks_for_mono : (capacity grain load more : ℕ) → load ≤ more → trucks_for capacity (grain * load) ≤ trucks_for capacity (grain * more)
trucks_for_mono capacity grain load more le = omega (arith, div_ceil_mono (grain * load) (grain * more) capacity (mul-le-mul_left grain le))

-- the best weights of all items in a grain, and their greatest excess over the money
module _ (items : List Item) (capacity money : ℕ) (best : List ℕ) (amount load : ℕ) (some : 0 < grain_of capacity (sizes_of items)) (small : total_weight items < 2 ^ 128)
    (are : AreBest items (grain_of capacity (sizes_of items)) (length items) best)
    (is : IsExcess best (λ load. money * trucks_for capacity (grain_of capacity (sizes_of items) * load)) amount load) where
  abbrev grain : ℕ
  grain = grain_of capacity (sizes_of items)

  -- it pays for each set
  excess-pays : Pays items capacity money amount
  excess-pays = record {
    small = small;
    sets = λ set member.
        (let own : ℕ = grains_of items grain set in
        let within : own < length best = omega (arith, are.len, grains_of-within items grain set some) in
        omega (arith, best_weight-most items grain (length items) set own (omega arith), are.are own within, is.most own within));
  }

  -- the best set of its load
  abbrev places : List ℕ
  places = best_places items grain (length items) load

  places-best : IsBest items grain (length items) load places
  places-best = best_places-best items grain (length items) load

  -- weighs the money for no more trucks, and the amount
  places-weigh : 0 < amount → money * trucks_of items capacity (list_has places) + amount ≤ weight_of items (list_has places)
  places-weigh positive =
      let reached = is.attained positive in
      let fewer : money * trucks_of items capacity (list_has places) ≤ money * trucks_for capacity (grain * load) =
      mul-le-mul_left money (trucks_for_mono capacity grain (grains_of items grain (list_has places)) load places-best.fits) in
      omega (arith, places-best.weighs, are.are load reached.0, reached.1, fewer)

  places-some : 0 < amount → HasSome items (list_has places)
  places-some positive = sum_over-some (length items) (list_has places) (λ k. (item_at items k).weight) (omega (arith, places-weigh positive))

  -- so it is the least charge
  pub IsLeastCharge-excess : IsLeastCharge items capacity money amount
  IsLeastCharge-excess = record {
    pays = excess-pays;
    least = λ other pays.
        ⊎_elim
        (λ (positive : 0 < amount). omega (arith, places-weigh positive, pays.sets (list_has places) (places-some positive)))
        (λ (none : amount ≤ 0). omega (arith, none))
        (cases_lt 0 amount);
  }

  -- and the set needs it
  pub IsDearest-places : 0 < amount → IsDearest items capacity money amount places
  IsDearest-places positive = record {
    ascend = places-best.ascend;
    inside = places-best.inside;
    weighs = omega (arith, places-weigh positive, excess-pays.sets (list_has places) (places-some positive));
  }
