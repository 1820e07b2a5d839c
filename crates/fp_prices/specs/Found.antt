-- What is found of a leaf over a network.
use Rattle.std.specs.Prelude.{ℕ, ◌+◌, ◌*◌, ◌≡◌, ◌<◌, ◌≤◌, List, length, Bool, Option, sum_by, IfSome}
use Rattle.fp_model.specs.declared.parts.Leg.{Leg}
use Rattle.fp_model.specs.declared.parts.Shipment.{Shipment}
use Rattle.fp_model.specs.Numbered.{shipment_at}
use Rattle.fp_base_lists.specs.Numbered.{AllZipFrom}
use Rattle.fp_model.specs.Problem.{Problem, alone_cost}
use Rattle.fp_longestarcs.specs.Networks.{points_in}
use Rattle.fp_allowed.specs.Walks.{IsTimedWalk}
use Rattle.fp_prices.specs.declared.values.bounds.LeafBound.{LeafBound}
use Rattle.fp_prices.specs.declared.values.bounds.LeafBound.TheVariants.{Empty, Value}
use Rattle.fp_prices.specs.declared.classes.class_prices.ClassPricing.{ClassPricing}
use Rattle.fp_prices.specs.declared.leaf_prices.Kind.{Kind}
use Rattle.fp_prices.specs.ClassCosts.{AllowsClasses, IsLeastOver}
use Rattle.fp_prices.specs.Leaves.{IsLeastCost, leaf_price}
use Rattle.fp_prices.specs.Pricings.{IsPricing, RowAllows}
use Rattle.fp_prices.specs.Rows.{AreRowsOf}
use Rattle.fp_prices.specs.Shares.{ClassShare}

-- the prices of a leaf for the shipment with the number k
abbrev pub leaf_prices : Problem → List (List ClassShare) → (ℕ → Leg → Bool) → Kind → List (List Leg) → ℕ → Leg → ℕ
leaf_prices p tables allowed kind chains k = leaf_price p tables allowed kind chains k (shipment_at p k).size

-- the row is that of the shipment with the number k under a pricing
pub record IsPricedRow (pricing : ClassPricing) (k : ℕ) (row : List Bool) : Type 0 where
  pub tables : List (List ClassShare)
  pub allowed : ℕ → Leg → Bool
  pub kind : Kind
  pub chains : List (List Leg)
  pub is : IsPricing tables allowed kind chains pricing
  pub allows : RowAllows pricing.network.now (allowed k) row
  pub classes : AllowsClasses pricing.network.now (allowed k)

-- the rows are those of all shipments under a pricing
pub record IsPricedLeaf (pricing : ClassPricing) (rows : List (List Bool)) : Type 0 where
  pub tables : List (List ClassShare)
  pub allowed : ℕ → Leg → Bool
  pub kind : Kind
  pub chains : List (List Leg)
  pub is : IsPricing tables allowed kind chains pricing
  pub rows_of : AreRowsOf pricing.network.now allowed rows
  pub classes : (k : ℕ) → AllowsClasses pricing.network.now (allowed k)

-- the cost of the shipment with the number k, if it has one, is at most 65,536 times the scaled cost of going over every arc alone
abbrev pub IsSmallCost : Problem → ℕ → Option ℕ → Type 0
IsSmallCost p k o = IfSome o (λ n. n ≤ 65536 * (p.scale * sum_by (alone_cost (shipment_at p k).size) p.arcs))

-- the value is the bases and the least cost of each shipment, each of which is small
pub record IsValueOver (p : Problem) (points : ℕ → List ℕ) (allowed : ℕ → Leg → Bool) (price : (k size : ℕ) → Leg → ℕ) (bases value : ℕ) : Type 0 where
  pub costs : List ℕ
  pub least : AllZipFrom (λ k (s : Shipment) n. IsLeastCost p points (allowed k) s (price k s.size) n) 0 p.shipments costs
  pub small : AllZipFrom (λ k (s : Shipment) n. n ≤ 65536 * (p.scale * sum_by (alone_cost s.size) p.arcs)) 0 p.shipments costs
  pub is : value ≡ bases + sum_by (λ (n : ℕ). n) costs

-- the shipment with the number k is the first without an allowed timed walk
pub record IsFirstWithoutOver (p : Problem) (points : ℕ → List ℕ) (allowed : ℕ → Leg → Bool) (k : ℕ) : Type 0 where
  pub exists : k < length p.shipments
  pub none : (walk : List Leg) → IsTimedWalk p points (allowed k) (shipment_at p k) walk → ⊥
  pub before : (j : ℕ) → j < k → ((walk : List Leg) → IsTimedWalk p points (allowed j) (shipment_at p j) walk → ⊥) → ⊥

-- what is found: the value, or the first shipment without an allowed timed walk
abbrev pub IsFoundOver : Problem → (ℕ → List ℕ) → (ℕ → Leg → Bool) → ((k size : ℕ) → Leg → ℕ) → ℕ → LeafBound → Type 0
IsFoundOver p points allowed price bases (Empty shipment) = IsFirstWithoutOver p points allowed shipment
IsFoundOver p points allowed price bases (Value value) = IsValueOver p points allowed price bases value

-- at each leaf whose pricing this is, and whose row this is, it is the least cost of the shipment with the number k, or it has none
abbrev pub IsLeastAtLeaf : ClassPricing → ℕ → List Bool → Option ℕ → Type 0
IsLeastAtLeaf pricing k row cost =
    (tables : List (List ClassShare)) (allowed : ℕ → Leg → Bool) (kind : Kind) (chains : List (List Leg)) → IsPricing tables allowed kind chains pricing →
    RowAllows pricing.network.now (allowed k) row → AllowsClasses pricing.network.now (allowed k) →
    IsLeastOver pricing.instance.now (points_in pricing.network.now) (allowed k) (shipment_at pricing.instance.now k) (leaf_prices pricing.instance.now tables allowed kind chains k) cost

-- at each leaf whose pricing this is, and whose rows these are, it is found with such bases
abbrev pub IsFoundAtLeaf : ClassPricing → List (List Bool) → ℕ → LeafBound → Type 0
IsFoundAtLeaf pricing rows bases bound =
    (tables : List (List ClassShare)) (allowed : ℕ → Leg → Bool) (kind : Kind) (chains : List (List Leg)) → IsPricing tables allowed kind chains pricing →
    AreRowsOf pricing.network.now allowed rows → ((k : ℕ) → AllowsClasses pricing.network.now (allowed k)) →
    IsFoundOver pricing.instance.now (points_in pricing.network.now) allowed (leaf_price pricing.instance.now tables allowed kind chains) bases bound
