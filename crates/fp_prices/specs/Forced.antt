-- The forced classes of a leaf, by their numbers.
use Rattle.std.specs.Prelude.{ℕ, ◌*◌, ◌≡◌, ◌<◌, List, length, Bool, slice_index, if◌then◌else◌}
use Rattle.std.specs.Int.{div_ceil}
use Rattle.std.specs.List.{AllByRecursion}
use Rattle.fp_base_lists.specs.Below.{sum_below}
use Rattle.fp_model.specs.declared.parts.Leg.{Leg}
use Rattle.fp_model.specs.Costs.{all_legs, has_leg, load}
use Rattle.fp_base_lists.specs.Numbered.{AllZipFrom}
use Rattle.fp_model.specs.Problem.{Problem, arc_at}
use Rattle.fp_longestarcs.specs.Networks.{TimedNetwork, IsClass, class_count, class_number}
use Rattle.fp_tree.specs.declared.sides.Side.{Side}
use Rattle.fp_allowed.specs.Bits.{IsRowUnder, allowed_in, bit_of}
use Rattle.fp_allowed.specs.Listing.{class_at}
use Rattle.fp_allowed.specs.Settings.{Setting}
use Rattle.fp_prices.specs.declared.classes.bases.ForcedClasses.{ForcedClasses}
use Rattle.fp_prices.specs.Leaves.{IsChain}
use Rattle.fp_prices.specs.Rows.{row_at}

-- the rows are those of the shipments under sides
abbrev pub AreRowsUnder : Setting → List Side → List (List Bool) → Type 0
AreRowsUnder s sides rows = (k : ℕ) → k < length rows → IsRowUnder s sides k (row_at rows k)

-- for each class the load that the chains give it, and whether some chain has it; all classes of the chains are the network's
pub record AreForcedClasses (p : Problem) (net : TimedNetwork) (chains : List (List Leg)) (forced : ForcedClasses) : Type 0 where
  pub loads_long : length forced.loads.items ≡ class_count net
  pub row_long : length forced.row ≡ class_count net
  pub classes : AllByRecursion (IsClass net) (all_legs chains)
  pub loads : (c : Leg) → IsClass net c → slice_index forced.loads.items (class_number net c) ≡ load p.shipments chains c
  pub told : (c : Leg) → IsClass net c → bit_of forced.row (class_number net c) ≡ has_leg c (all_legs chains)

-- the forced classes are those of the chains of all shipments: of the forced chains, or of none where the leaf is plain
pub record AreForcedOf (s : Setting) (rows : List (List Bool)) (forced : Bool) (classes : ForcedClasses) : Type 0 where
  pub chains : List (List Leg)
  pub are_chains : (sides : List Side) → AreRowsUnder s sides rows → AllZipFrom (λ k. IsChain s.problem (allowed_in s sides k) forced) 0 s.problem.shipments chains
  pub are : AreForcedClasses s.problem s.network chains classes

-- what the trucks cost that a load needs in the class with a number
abbrev pub truck_cost_at : Problem → TimedNetwork → List ℕ → ℕ → ℕ
truck_cost_at p net loads n = (arc_at p (class_at net n).arc).truck * div_ceil (slice_index loads n) (arc_at p (class_at net n).arc).capacity

-- what the trucks cost in all classes whose bits are set
abbrev pub row_cost : Problem → TimedNetwork → List ℕ → List Bool → ℕ
row_cost p net loads row = sum_below (length row) (λ n. if bit_of row n then truck_cost_at p net loads n else 0)
