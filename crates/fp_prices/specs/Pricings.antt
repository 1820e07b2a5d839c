-- What a pricing of a leaf keeps, and what it tells.
use Rattle.std.specs.Prelude.{ℕ, ◌+◌, ◌*◌, ◌≡◌, List, length, map, Bool, true, Option}
use Rattle.fp_model.specs.declared.parts.Leg.{Leg}
use Rattle.fp_model.specs.Costs.{all_legs, has_leg}
use Rattle.fp_model.specs.Numbered.{shipment_at}
use Rattle.fp_model.specs.Problem.{Problem, IsValid, arc_at}
use Rattle.fp_longestarcs.specs.Networks.{TimedNetwork, IsClass, class_count, class_number}
use Rattle.fp_longestarcs.specs.Whole.{IsWholeNetwork}
use Rattle.fp_allowed.specs.Bits.{bit_of}
use Rattle.fp_allowed.specs.Listing.{class_at}
use Rattle.fp_prices.specs.declared.leaf_prices.Kind.{Kind}
use Rattle.fp_prices.specs.declared.leaf_prices.Kind.TheVariants.{Linear, Even, Table}
use Rattle.fp_prices.specs.declared.classes.class_prices.ClassPricing.{ClassPricing}
use Rattle.fp_prices.specs.declared.classes.class_prices.Rule.{Rule}
use Rattle.fp_prices.specs.declared.classes.class_prices.Rule.TheVariants.{BySize, InParts, ByShares}
use Rattle.fp_prices.specs.ClassCosts.{HoldsClassCosts}
use Rattle.fp_prices.specs.Leaves.{leaf_price}
use Rattle.fp_prices.specs.Prices.{AllKeepRule, table_at, truck_price}
use Rattle.fp_prices.specs.Rates.{rate_of}
use Rattle.fp_prices.specs.Rows.{AreUsers}
use Rattle.fp_prices.specs.Shares.{ClassShare}
use Rattle.fp_prices.specs.Tables.{IsAscendingTable}

-- a rule is that of a kind: by size, by the users of each class, or by the shares of a table in order
abbrev pub IsRuleOf : Problem → TimedNetwork → List (List ClassShare) → (ℕ → Leg → Bool) → Kind → Rule → Type 0
IsRuleOf p net tables allowed Linear BySize = Unit {0}
IsRuleOf p net tables allowed Even (InParts users) = AreUsers p net allowed (class_count net) users
IsRuleOf p net tables allowed (Table id) (ByShares shares) = (shares.now ≡ table_at tables id) × IsAscendingTable shares.now
IsRuleOf p net tables allowed kind rule = ⊥

-- a row has one bit per class, set exactly where some chain has the class
pub record TellsForced (net : TimedNetwork) (chains : List (List Leg)) (row : List Bool) : Type 0 where
  pub long : length row ≡ class_count net
  pub exact : (c : Leg) → IsClass net c → bit_of row (class_number net c) ≡ has_leg c (all_legs chains)

-- a pricing is that of a leaf by a kind, where `allowed` tells which classes are allowed for whom, and the chains are those that are forced
pub record IsPricing (tables : List (List ClassShare)) (allowed : ℕ → Leg → Bool) (kind : Kind) (chains : List (List Leg)) (pricing : ClassPricing) : Type 0 where
  pub valid : IsValid pricing.instance.now
  pub whole : IsWholeNetwork pricing.instance.now pricing.network.now
  pub keep : AllKeepRule pricing.instance.now tables
  pub rates : pricing.rates.now ≡ map (rate_of pricing.instance.now.scale) pricing.instance.now.arcs
  pub rule : IsRuleOf pricing.instance.now pricing.network.now tables allowed kind pricing.rule
  pub forced : TellsForced pricing.network.now chains pricing.forced.row

-- the class with a number is priced for the shipment with the number k, for which it is allowed
pub record IsPricedClass (pricing : ClassPricing) (k class : ℕ) : Type 0 where
  pub tables : List (List ClassShare)
  pub allowed : ℕ → Leg → Bool
  pub kind : Kind
  pub chains : List (List Leg)
  pub is : IsPricing tables allowed kind chains pricing
  pub allows : allowed k (class_at pricing.network.now class) ≡ true

-- a row tells which classes are allowed
abbrev pub RowAllows : TimedNetwork → (Leg → Bool) → List Bool → Type 0
RowAllows net allowed row = (c : Leg) → IsClass net c → bit_of row (class_number net c) ≡ allowed c

-- at each leaf whose pricing this is, a number is the truck price of a class for the shipment with the number k and a size
abbrev pub IsTruckPrice : ClassPricing → (k size : ℕ) → Leg → ℕ → Type 0
IsTruckPrice pricing k size c price =
    (tables : List (List ClassShare)) (allowed : ℕ → Leg → Bool) (kind : Kind) (chains : List (List Leg)) → IsPricing tables allowed kind chains pricing →
    price ≡ truck_price pricing.instance.now tables allowed kind c k size

-- at each leaf whose pricing this is, a number is the price of a class for the shipment with the number k and a size
abbrev pub IsClassPrice : ClassPricing → (k size : ℕ) → Leg → ℕ → Type 0
IsClassPrice pricing k size c price =
    (tables : List (List ClassShare)) (allowed : ℕ → Leg → Bool) (kind : Kind) (chains : List (List Leg)) → IsPricing tables allowed kind chains pricing →
    price ≡ leaf_price pricing.instance.now tables allowed kind chains k size c

-- at each leaf whose pricing this is, and where the class is allowed, a number is what it costs the shipment: its price and the flow
abbrev pub IsClassCost : ClassPricing → (k size : ℕ) → Leg → ℕ → Type 0
IsClassCost pricing k size c cost =
    (tables : List (List ClassShare)) (allowed : ℕ → Leg → Bool) (kind : Kind) (chains : List (List Leg)) → IsPricing tables allowed kind chains pricing → allowed k c ≡ true →
    cost ≡ leaf_price pricing.instance.now tables allowed kind chains k size c + pricing.instance.now.scale * (arc_at pricing.instance.now c.arc).freight * size

-- at each leaf whose pricing this is, and where the row tells which classes are allowed for the shipment, the costs are those of the classes
abbrev pub HoldsLeafCosts : ClassPricing → ℕ → List Bool → List (Option ℕ) → Type 0
HoldsLeafCosts pricing k row costs =
    (tables : List (List ClassShare)) (allowed : ℕ → Leg → Bool) (kind : Kind) (chains : List (List Leg)) → IsPricing tables allowed kind chains pricing →
    RowAllows pricing.network.now (allowed k) row →
    HoldsClassCosts pricing.instance.now pricing.network.now (allowed k)
    (leaf_price pricing.instance.now tables allowed kind chains k (shipment_at pricing.instance.now k).size) (shipment_at pricing.instance.now k).size costs
