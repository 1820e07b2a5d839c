-- Least costs that are known from an earlier leaf, and where they hold.
use Rattle.std.specs.Prelude.{ℕ, ◌≡◌, List, [], Bool, false, Some, length, map, slice_get}
use Rattle.fp_model.specs.Problem.{Problem}
use Rattle.fp_longestarcs.specs.Networks.{TimedNetwork, class_count}
use Rattle.fp_prices.specs.declared.classes.class_prices.ClassPricing.{ClassPricing}
use Rattle.fp_prices.specs.declared.classes.class_prices.Rule.{Rule}
use Rattle.fp_prices.specs.declared.classes.class_prices.Rule.TheVariants.{BySize, ByShares}
use Rattle.fp_prices.specs.declared.values.known_costs.KnownCost.{KnownCost}
use Rattle.fp_prices.specs.declared.leaf_prices.Kind.{Kind}
use Rattle.fp_prices.specs.declared.leaf_prices.Kind.TheVariants.{Linear, Even, Table}
use Rattle.fp_prices.specs.Found.{IsLeastAtLeaf, IsSmallCost}
use Rattle.fp_prices.specs.Prices.{table_at}
use Rattle.fp_prices.specs.Pricings.{TellsForced}
use Rattle.fp_prices.specs.Rates.{rate_of}
use Rattle.fp_prices.specs.Shares.{ClassShare}

-- the cost of the shipment with the number k is known with such a row
abbrev pub IsKnown : List KnownCost → ℕ → List Bool → ℕ → Type 0
IsKnown known k row cost = slice_get known k ≡ Some (record { row = row; cost = cost })

-- a kind whose prices don't depend on who else may use a class
abbrev pub IsSharedKind : Kind → Type 0
IsSharedKind Linear = Unit {0}
IsSharedKind Even = ⊥
IsSharedKind (Table id) = Unit {0}

-- a rule is that of such a kind
abbrev pub IsSharedRule : List (List ClassShare) → Kind → Rule → Type 0
IsSharedRule tables Linear BySize = Unit {0}
IsSharedRule tables (Table id) (ByShares shares) = shares.now ≡ table_at tables id
IsSharedRule tables kind rule = ⊥

-- a pricing is that of plain leaves over a network by such a kind: no class is forced
pub record IsPlainPricing (p : Problem) (net : TimedNetwork) (tables : List (List ClassShare)) (kind : Kind) (pricing : ClassPricing) : Type 0 where
  pub instance : pricing.instance.now ≡ p
  pub network : pricing.network.now ≡ net
  pub rates : pricing.rates.now ≡ map (rate_of p.scale) p.arcs
  pub rule : IsSharedRule tables kind pricing.rule
  pub forced : TellsForced net [] pricing.forced.row

-- the cost is the least of the shipment with the number k at each leaf whose pricing this is, and whose row is the known one
pub record IsKnownUnder (pricing : ClassPricing) (k : ℕ) (known : KnownCost) : Type 0 where
  pub long : length known.row ≡ class_count pricing.network.now
  pub small : IsSmallCost pricing.instance.now k (Some known.cost)
  pub least : IsLeastAtLeaf pricing k known.row (Some known.cost)

-- all known costs hold under a pricing
abbrev pub AreKnownUnder : ClassPricing → List KnownCost → Type 0
AreKnownUnder pricing known = (k : ℕ) (entry : KnownCost) → slice_get known k ≡ Some entry → IsKnownUnder pricing k entry

-- a known cost holds at all plain leaves over a network by such a kind
pub record IsKnownCost (p : Problem) (net : TimedNetwork) (tables : List (List ClassShare)) (kind : Kind) (forced : Bool) (k : ℕ) (known : KnownCost) : Type 0 where
  pub plain : forced ≡ false
  pub shared : IsSharedKind kind
  pub holds : (pricing : ClassPricing) → IsPlainPricing p net tables kind pricing → IsKnownUnder pricing k known

-- so do all known costs
abbrev pub AreKnownCosts : Problem → TimedNetwork → List (List ClassShare) → Kind → Bool → List KnownCost → Type 0
AreKnownCosts p net tables kind forced known = (k : ℕ) (entry : KnownCost) → slice_get known k ≡ Some entry → IsKnownCost p net tables kind forced k entry
