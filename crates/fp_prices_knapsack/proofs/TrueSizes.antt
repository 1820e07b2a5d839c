-- A charge that pays for sizes in grains pays for true sizes.
use Rattle.std.proofs.Common.{ℕ, ◌*◌, ◌<◌, ◌≤◌, Bool, List, arith}
use Rattle.std.specs.Prelude.{All}
use Rattle.std.specs.Int.{div_ceil}
use Rattle.std.proofs.Math.Nat.{mul-le-mul_left}
use Rattle.fp_base_lists.proofs.Ceilings.{div_ceil_mono, div_ceil-some}
use Rattle.fp_prices_knapsack.specs.declared.items.Item.{Item}
use Rattle.fp_prices_knapsack.specs.Sets.{sizes_of, HasSome, size_of, grains_of}
use Rattle.fp_prices_knapsack.specs.Grains.{grain_of}
use Rattle.fp_prices_knapsack.specs.Charges.{trucks_of, TrueSizesArePaid}
use Rattle.fp_prices_knapsack.proofs.SetSums.{grains_of-le, size_of-some}

-- the trucks of a set by grains are no more than those of its size
trucks_of-le : (items : List Item) (capacity : ℕ) (set : ℕ → Bool) → 0 < capacity → All (λ (item : Item). 0 < item.size) items → HasSome items set →
    trucks_of items capacity set ≤ div_ceil (size_of items set) capacity
trucks_of-le items capacity set positive sizes some =
    let grain : ℕ = grain_of capacity (sizes_of items) in
    omega (
      arith,
      div_ceil_mono (grain * grains_of items grain set) (size_of items set) capacity (grains_of-le items grain set),
      div_ceil-some (size_of items set) capacity positive (size_of-some items set sizes some),
    )

pub true_sizes-paid : TrueSizesArePaid
true_sizes-paid items capacity money charge positive pays sizes set some =
    omega (arith, pays.sets set some, mul-le-mul_left money (trucks_of-le items capacity set positive sizes some))
