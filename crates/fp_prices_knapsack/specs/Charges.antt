-- What each set of items may weigh: the money for its trucks, and a charge.
use Rattle.std.specs.Prelude.{ℕ, ◌≡◌, ◌+◌, ◌*◌, ◌^◌, ◌<◌, ◌≤◌, Bool, List, [], All, AllPairs, length, max, sum_by}
use Rattle.std.specs.Int.{div_ceil}
use Rattle.fp_base_lists.specs.Membership.{list_has}
use Rattle.fp_prices_knapsack.specs.declared.items.Item.{Item}
use Rattle.fp_prices_knapsack.specs.Sets.{sizes_of, HasSome, weight_of, size_of, grains_of}
use Rattle.fp_prices_knapsack.specs.Grains.{grain_of}

-- the trucks that carry a size: as many as hold it, and at least one
abbrev pub trucks_for : ℕ → ℕ → ℕ
trucks_for capacity size = max 1 (div_ceil size capacity)

-- the trucks of a set of items, whose sizes are rounded down to grains
abbrev pub trucks_of : List Item → ℕ → (ℕ → Bool) → ℕ
trucks_of items capacity set =
    let grain = grain_of capacity (sizes_of items) in trucks_for capacity (grain * grains_of items grain set)

-- the weight of all items
abbrev pub total_weight : List Item → ℕ
total_weight items = sum_by (λ (item : Item). item.weight) items

-- the charge pays for the items: all items together weigh less than 2^128, and each set that has some of them weighs
-- at most the money for each of its trucks, and the charge once
pub record Pays (items : List Item) (capacity money charge : ℕ) : Type 0 where
  pub small : total_weight items < 2 ^ 128
  pub sets : (set : ℕ → Bool) → HasSome items set → weight_of items set ≤ money * trucks_of items capacity set + charge

-- the least charge that pays for the items
pub record IsLeastCharge (items : List Item) (capacity money charge : ℕ) : Type 0 where
  pub pays : Pays items capacity money charge
  pub least : (other : ℕ) → Pays items capacity money other → charge ≤ other

-- no charge pays for the items
abbrev pub NoChargePays : List Item → (capacity money : ℕ) → Type 0
NoChargePays items capacity money = (charge : ℕ) → Pays items capacity money charge → ⊥

-- the places of a set that weighs exactly the money for each of its trucks, and the charge once
pub record IsDearest (items : List Item) (capacity money charge : ℕ) (places : List ℕ) : Type 0 where
  pub ascend : AllPairs (λ earlier later. earlier < later) places
  pub inside : All (λ place. place < length items) places
  pub weighs : weight_of items (list_has places) ≡ money * trucks_of items capacity (list_has places) + charge

-- the least charge, and where it isn't 0 the places of a set that needs it
pub record IsLeastWithSet (items : List Item) (capacity money charge : ℕ) (places : List ℕ) : Type 0 where
  pub least : IsLeastCharge items capacity money charge
  pub free : charge ≡ 0 → places ≡ []
  pub dearest : 0 < charge → IsDearest items capacity money charge places

-- a charge that pays for the items pays for each of their sets by its true size, where no item has the size 0
abbrev pub TrueSizesArePaid : Type 0
TrueSizesArePaid =
    (items : List Item) (capacity money charge : ℕ) → 0 < capacity → Pays items capacity money charge → All (λ (item : Item). 0 < item.size) items →
    (set : ℕ → Bool) → HasSome items set → weight_of items set ≤ money * div_ceil (size_of items set) capacity + charge
