-- What is found of the walks of a leaf over a network.
use Rattle.std.specs.Prelude.{ℕ, ◌<◌, ◌≡◌, List, length, Bool, Option, Some, slice_get}
use Rattle.fp_model.specs.declared.parts.Leg.{Leg}
use Rattle.fp_model.specs.declared.parts.Shipment.{Shipment}
use Rattle.fp_model.specs.Numbered.{shipment_at}
use Rattle.fp_base_lists.specs.Numbered.{AllZipFrom}
use Rattle.fp_model.specs.Problem.{Problem}
use Rattle.fp_longestarcs.specs.Networks.{points_in}
use Rattle.fp_allowed.specs.Walks.{IsTimedWalk}
use Rattle.fp_prices.specs.declared.classes.class_prices.ClassPricing.{ClassPricing}
use Rattle.fp_prices.specs.declared.leaf_prices.Kind.{Kind}
use Rattle.fp_prices.specs.ClassCosts.{AllowsClasses}
use Rattle.fp_prices.specs.Found.{leaf_prices}
use Rattle.fp_prices.specs.LeastWalks.{IsLeastWalk, IsLeastWalkOver}
use Rattle.fp_prices.specs.Leaves.{leaf_price}
use Rattle.fp_prices.specs.Pricings.{IsPricing, RowAllows}
use Rattle.fp_prices.specs.Rows.{AreRowsOf}
use Rattle.fp_prices.specs.Shares.{ClassShare}

-- some shipment has no allowed timed walk
pub record IsEmptyOver (p : Problem) (points : ℕ → List ℕ) (allowed : ℕ → Leg → Bool) : Type 0 where
  pub shipment : ℕ
  pub exists : shipment < length p.shipments
  pub none : (walk : List Leg) → IsTimedWalk p points (allowed shipment) (shipment_at p shipment) walk → ⊥

-- each is a walk of least cost of its shipment, where these are the shipments from a number on
abbrev pub AreLeastOver : Problem → (ℕ → List ℕ) → (ℕ → Leg → Bool) → ((k size : ℕ) → Leg → ℕ) → ℕ → List Shipment → List (List Leg) → Type 0
AreLeastOver p points allowed price i shipments walks = AllZipFrom (λ k (s : Shipment) walk. IsLeastWalk p points (allowed k) s (price k s.size) walk) i shipments walks

-- at each leaf whose pricing this is, and whose row this is, it is a walk of least cost of the shipment with the number k, or it has none
abbrev pub IsWalkAtLeaf : ClassPricing → ℕ → List Bool → Option (List Leg) → Type 0
IsWalkAtLeaf pricing k row walk =
    (tables : List (List ClassShare)) (allowed : ℕ → Leg → Bool) (kind : Kind) (chains : List (List Leg)) → IsPricing tables allowed kind chains pricing →
    RowAllows pricing.network.now (allowed k) row → AllowsClasses pricing.network.now (allowed k) →
    IsLeastWalkOver pricing.instance.now (points_in pricing.network.now) (allowed k) (shipment_at pricing.instance.now k) (leaf_prices pricing.instance.now tables allowed kind chains k) walk

-- at each such leaf, a walk that is preferred and is of least cost is the one found
abbrev pub PrefersAtLeaf : ClassPricing → ℕ → List Bool → List Leg → Option (List Leg) → Type 0
PrefersAtLeaf pricing k row preferred walk =
    (tables : List (List ClassShare)) (allowed : ℕ → Leg → Bool) (kind : Kind) (chains : List (List Leg)) → IsPricing tables allowed kind chains pricing →
    RowAllows pricing.network.now (allowed k) row → AllowsClasses pricing.network.now (allowed k) →
    IsLeastWalk pricing.instance.now (points_in pricing.network.now) (allowed k) (shipment_at pricing.instance.now k) (leaf_prices pricing.instance.now tables allowed kind chains k) preferred →
    walk ≡ Some preferred

-- at each leaf whose pricing this is, and whose rows these are, some shipment has no allowed timed walk
abbrev pub IsEmptyAtLeaf : ClassPricing → List (List Bool) → Type 0
IsEmptyAtLeaf pricing rows =
    (tables : List (List ClassShare)) (allowed : ℕ → Leg → Bool) (kind : Kind) (chains : List (List Leg)) → IsPricing tables allowed kind chains pricing →
    AreRowsOf pricing.network.now allowed rows → ((k : ℕ) → AllowsClasses pricing.network.now (allowed k)) →
    IsEmptyOver pricing.instance.now (points_in pricing.network.now) allowed

-- at each such leaf they are walks of least cost of all shipments
abbrev pub AreWalksAtLeaf : ClassPricing → List (List Bool) → List (List Leg) → Type 0
AreWalksAtLeaf pricing rows walks =
    (tables : List (List ClassShare)) (allowed : ℕ → Leg → Bool) (kind : Kind) (chains : List (List Leg)) → IsPricing tables allowed kind chains pricing →
    AreRowsOf pricing.network.now allowed rows → ((k : ℕ) → AllowsClasses pricing.network.now (allowed k)) →
    AreLeastOver pricing.instance.now (points_in pricing.network.now) allowed (leaf_price pricing.instance.now tables allowed kind chains) 0 pricing.instance.now.shipments walks

-- and each preferred walk of a shipment that is of least cost there is among them
abbrev pub HasPreferredAtLeaf : ClassPricing → List (List Bool) → (preferred walks : List (List Leg)) → Type 0
HasPreferredAtLeaf pricing rows preferred walks =
    (tables : List (List ClassShare)) (allowed : ℕ → Leg → Bool) (kind : Kind) (chains : List (List Leg)) → IsPricing tables allowed kind chains pricing →
    AreRowsOf pricing.network.now allowed rows → ((k : ℕ) → AllowsClasses pricing.network.now (allowed k)) →
    (k : ℕ) (walk : List Leg) → k < length pricing.instance.now.shipments → slice_get preferred k ≡ Some walk →
    IsLeastWalk pricing.instance.now (points_in pricing.network.now) (allowed k) (shipment_at pricing.instance.now k) (leaf_prices pricing.instance.now tables allowed kind chains k) walk →
    slice_get walks k ≡ Some walk
