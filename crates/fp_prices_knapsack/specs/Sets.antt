-- Sets of items, and what the items of a set weigh and how large they are together. A set is a test on the places of
-- the items: it has the items at whose places the test passes.
use Rattle.std.specs.Prelude.{ℕ, Bool, List, ◌/◌, length, map, slice_index_or, IsTrue, if◌then◌else◌}
use Rattle.fp_base_lists.specs.Below.{some_below, sum_below}
use Rattle.fp_prices_knapsack.specs.declared.items.Item.{Item}

-- what stands at a place past the items
abbrev pub no_item : Item
no_item = record { size = 0; weight = 0 }

-- the item at a place
abbrev pub item_at : List Item → ℕ → Item
item_at items place = slice_index_or items place no_item

-- the sizes of the items
abbrev pub sizes_of : List Item → List ℕ
sizes_of items = map (λ (item : Item). item.size) items

-- a set has some of the items
abbrev pub HasSome : List Item → (ℕ → Bool) → Type 0
HasSome items set = IsTrue (some_below (length items) set)

-- what each place of a set below a bound adds, in sum
abbrev pub sum_over : ℕ → (ℕ → Bool) → (ℕ → ℕ) → ℕ
sum_over bound set f = sum_below bound (λ place. if set place then f place else 0)

-- the weight of a set: the sum of its items' weights
abbrev pub weight_of : List Item → (ℕ → Bool) → ℕ
weight_of items set = sum_over (length items) set (λ place. (item_at items place).weight)

-- the size of a set: the sum of its items' sizes
abbrev pub size_of : List Item → (ℕ → Bool) → ℕ
size_of items set = sum_over (length items) set (λ place. (item_at items place).size)

-- the grains of a set: the sum of its items' whole grains
abbrev pub grains_of : List Item → ℕ → (ℕ → Bool) → ℕ
grains_of items grain set = sum_over (length items) set (λ place. (item_at items place).size / grain)
