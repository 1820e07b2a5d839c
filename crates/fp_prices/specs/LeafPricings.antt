-- What the classes cost each shipment at a leaf under prices of a kind, as contracts see it.
use Rattle.std.specs.Prelude.{ℕ, ◌≡◌, List, Bool, false, true, Option, MatchOption}
use Rattle.fp_base_lists.specs.Numbered.{AllZipFrom}
use Rattle.fp_model.specs.declared.parts.Leg.{Leg}
use Rattle.fp_model.specs.Costs.{all_legs, has_leg, load}
use Rattle.fp_model.specs.Numbered.{shipment_at}
use Rattle.fp_allowed.specs.Bits.{allowed_in}
use Rattle.fp_allowed.specs.Settings.{IsSetting}
use Rattle.fp_prices.specs.declared.classes.class_prices.ClassPricing.{ClassPricing}
use Rattle.fp_prices.specs.declared.leaf_prices.Kind.{Kind}
use Rattle.fp_prices.specs.ClassCosts.{HoldsClassCosts}
use Rattle.fp_prices.specs.Forced.{AreForcedClasses}
use Rattle.fp_prices.specs.Found.{leaf_prices}
use Rattle.fp_prices.specs.Leaves.{IsChain}
use Rattle.fp_prices.specs.Pricings.{IsPricing}
use Rattle.fp_prices.specs.Rounds.{LeafModel}
use Rattle.fp_prices.specs.Shares.{ClassShare}

-- a leaf, and the tables, the kind and the mode of its prices
pub record PricingModel : Type 0 where
  pub leaf : LeafModel
  pub tables : List (List ClassShare)
  pub kind : Kind
  pub forced : Bool

-- which classes are allowed for whom at a leaf
abbrev pub allowed_at : LeafModel → ℕ → Leg → Bool
allowed_at l k c = allowed_in l.setting l.sides k c

-- the chains that a leaf counts, of which it has one list: the forced chains, or none where it is plain
abbrev pub AreChainsOf : LeafModel → Bool → List (List Leg) → Type 0
AreChainsOf l forced chains = AllZipFrom (λ k. IsChain l.setting.problem (allowed_at l k) forced) 0 l.setting.problem.shipments chains

-- the pricing of the classes is that of the leaf, and its forced classes are those of the leaf's chains
pub record IsLeafPricing (m : PricingModel) (pricing : ClassPricing) : Type 0 where
  pub setting : IsSetting m.leaf.setting
  pub instance : pricing.instance.now ≡ m.leaf.setting.problem
  pub network : pricing.network.now ≡ m.leaf.setting.network
  pub chains : List (List Leg)
  pub are_chains : AreChainsOf m.leaf m.forced chains
  pub is : IsPricing m.tables (allowed_at m.leaf) m.kind chains pricing
  pub forced : AreForcedClasses m.leaf.setting.problem m.leaf.setting.network chains pricing.forced

-- the prices of the shipment with the number k, where the leaf's chains are these
abbrev pub prices_at : PricingModel → List (List Leg) → ℕ → Leg → ℕ
prices_at m chains k = leaf_prices m.leaf.setting.problem m.tables (allowed_at m.leaf) m.kind chains k

-- the price of a class for the shipment with the number k, or that it isn't allowed
abbrev pub IsPriceOf : PricingModel → ℕ → Leg → Option ℕ → Type 0
IsPriceOf m k c o =
    MatchOption o (allowed_at m.leaf k c ≡ false)
    (λ price. (allowed_at m.leaf k c ≡ true) × ((chains : List (List Leg)) → AreChainsOf m.leaf m.forced chains → price ≡ prices_at m chains k c))

-- the load of a class that some chain of the leaf has, or that none has it
abbrev pub IsForcedLoadOf : PricingModel → Leg → Option ℕ → Type 0
IsForcedLoadOf m c o =
    (chains : List (List Leg)) → AreChainsOf m.leaf m.forced chains →
    MatchOption o (has_leg c (all_legs chains) ≡ false) (λ size. (has_leg c (all_legs chains) ≡ true) × (size ≡ load m.leaf.setting.problem.shipments chains c))

-- what the classes cost the shipment with the number k, by their numbers
abbrev pub AreCostsOf : PricingModel → ℕ → List (Option ℕ) → Type 0
AreCostsOf m k costs =
    (chains : List (List Leg)) → AreChainsOf m.leaf m.forced chains →
    HoldsClassCosts m.leaf.setting.problem m.leaf.setting.network (allowed_at m.leaf k) (prices_at m chains k) (shipment_at m.leaf.setting.problem k).size costs
