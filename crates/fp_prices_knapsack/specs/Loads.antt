-- The greatest weights of sets by their loads, in grains, and the sets that have them.
use Rattle.std.specs.Prelude.{ℕ, zero, suc, ◌≡◌, ◌<◌, ◌≤◌, ◌+◌, ◌-◌, ◌*◌, ◌/◌, Bool, false, List, [], ◌∷◌, ◌++◌, length, sum, slice_index, slice_index_or, nat_lt, if◌then◌else◌}
use Rattle.fp_prices_knapsack.specs.declared.items.Item.{Item}
use Rattle.fp_prices_knapsack.specs.Sets.{sizes_of, item_at}
use Rattle.fp_prices_knapsack.specs.Grains.{grain_of}
use Rattle.fp_prices_knapsack.specs.Charges.{IsDearest}

-- whether a load takes an item: it has room for the item's grains, and the best of what is left and the item weigh more
-- than the best without the item
abbrev pub takes : (best : ℕ → ℕ) (grains weight load : ℕ) → Bool
takes best grains weight load = if nat_lt load grains then false else nat_lt (best load) (best (load - grains) + weight)

-- the best with one item more
abbrev pub best_with : (best : ℕ → ℕ) (grains weight load : ℕ) → ℕ
best_with best grains weight load = if takes best grains weight load then best (load - grains) + weight else best load

-- the greatest weight of a set of the first so many items that has at most so many grains
abbrev pub best_weight : List Item → (grain count load : ℕ) → ℕ
best_weight items grain zero load = 0
best_weight items grain (suc n) load =
    best_with (best_weight items grain n) ((item_at items n).size / grain) (item_at items n).weight load

-- whether the item at a place is taken by a load, of the items until this one
abbrev pub takes_place : List Item → (grain place load : ℕ) → Bool
takes_place items grain place load =
    takes (best_weight items grain place) ((item_at items place).size / grain) (item_at items place).weight load

-- the places of a set with that weight
abbrev pub best_places : List Item → (grain count load : ℕ) → List ℕ
best_places items grain zero load = []
best_places items grain (suc n) load =
    if takes_place items grain n load
    then best_places items grain n (load - (item_at items n).size / grain) ++ n ∷ []
    else best_places items grain n load

-- the greatest weight of a set of the first items for each load, from 0 to all grains
pub record AreBest (items : List Item) (grain count : ℕ) (best : List ℕ) : Type 0 where
  pub len : length best ≡ sum (sizes_of items) / grain + 1
  pub are : (load : ℕ) → load < length best → slice_index best load ≡ best_weight items grain count load

-- for each of the first items a row that tells by which loads it is taken
pub record AreTaken (items : List Item) (grain count loads : ℕ) (taken : List Bool) : Type 0 where
  pub len : length taken ≡ count * loads
  pub are : (place load : ℕ) → place < count → load < loads →
      slice_index_or taken (place * loads + load) false ≡ takes_place items grain place load

-- no weight is above what is paid for its load by more, and that of this load is by so much where this isn't 0
pub record IsExcess (best : List ℕ) (paid : ℕ → ℕ) (amount load : ℕ) : Type 0 where
  pub most : (other : ℕ) → other < length best → slice_index best other ≤ paid other + amount
  pub attained : 0 < amount → (load < length best) × (slice_index best load ≡ paid load + amount)

-- the rows of `taken` and a load tell a set that needs a charge
pub record TellsDearest (items : List Item) (capacity money loads : ℕ) (taken : List Bool) (charge load : ℕ) : Type 0 where
  pub inside : load < loads
  pub are : AreTaken items (grain_of capacity (sizes_of items)) (length items) loads taken
  pub dearest : IsDearest items capacity money charge (best_places items (grain_of capacity (sizes_of items)) (length items) load)
