-- What the pricing of a leaf tells of a class by its number.
use Rattle.std.proofs.Common.{◌≡◌, ℕ, ◌<◌, true, false, Bool, List, get_or, sym, ap, ◌∙◌, subst}
use Rattle.std.specs.Prelude.{Option, Some, None}
use Rattle.fp_model.specs.declared.parts.Leg.{Leg}
use Rattle.fp_model.specs.Costs.{all_legs, has_leg, load}
use Rattle.fp_model.specs.Numbered.{shipment_at}
use Rattle.fp_model.specs.Problem.{Problem}
use Rattle.fp_longestarcs.specs.Networks.{TimedNetwork, class_count}
use Rattle.fp_allowed.specs.Bits.{IsRowUnder, bit_of}
use Rattle.fp_allowed.specs.Listing.{class_at}
use Rattle.fp_prices.specs.declared.classes.class_prices.ClassPricing.{ClassPricing}
use Rattle.fp_prices.specs.ClassCosts.{HoldsClassCosts}
use Rattle.fp_prices.specs.LeafPricings.{AreChainsOf, AreCostsOf, IsForcedLoadOf, IsLeafPricing, IsPriceOf, PricingModel, allowed_at, prices_at}
use Rattle.fp_prices.specs.Leaves.{leaf_price}
use Rattle.fp_prices.specs.Pricings.{HoldsLeafCosts, IsClassPrice, IsPricedClass, RowAllows}
use Rattle.fp_prices.proofs.NumberedClasses.{number-class}
use Rattle.fp_prices.proofs.OneValue.{chains-unique}

module _ (m : PricingModel) (pricing : ClassPricing) (is : IsLeafPricing m pricing) where
  abbrev own : Problem
  own = m.leaf.setting.problem

  abbrev net : TimedNetwork
  net = m.leaf.setting.network

  -- the chains of the leaf are those of its pricing
  chains-same : (chains : List (List Leg)) → AreChainsOf m.leaf m.forced chains → is.chains ≡ chains
  chains-same chains are = chains-unique own (allowed_at m.leaf) m.forced 0 own.shipments is.chains chains is.are_chains are

  module _ (class : ℕ) (within : class < class_count net) where
    abbrev here : Leg
    here = class_at net class

    told : has_leg here (all_legs is.chains) ≡ bit_of pricing.forced.row class
    told =
        let number = number-class net class is.setting.whole.valid within in
        sym (is.forced.told here number.0) ∙ ap (bit_of pricing.forced.row) number.1

    -- the load of a forced class
    pub forced-some : (size : ℕ) → bit_of pricing.forced.row class ≡ true → size ≡ get_or pricing.forced.loads.items class 0 → IsForcedLoadOf m here (Some size)
    forced-some size set read chains are =
        let number = number-class net class is.setting.whole.valid within in
        subst (λ (l : List (List Leg)). (has_leg here (all_legs l) ≡ true) × (size ≡ load own.shipments l here)) (chains-same chains are) (
          told ∙ set,
          read ∙ ap (λ (n : ℕ). get_or pricing.forced.loads.items n 0) (sym number.1) ∙ is.forced.loads here number.0,
        )

    -- and of another one
    pub forced-none : bit_of pricing.forced.row class ≡ false → IsForcedLoadOf m here None
    forced-none unset chains are = subst (λ (l : List (List Leg)). has_leg here (all_legs l) ≡ false) (chains-same chains are) (told ∙ unset)

    module _ (k : ℕ) (row : List Bool) (under : IsRowUnder m.leaf.setting m.leaf.sides k row) where
      row-told : bit_of row class ≡ allowed_at m.leaf k here
      row-told =
          let number = number-class net class is.setting.whole.valid within in
          ap (bit_of row) (sym number.1) ∙ under.exact here number.0

      -- a class whose bit is set is priced
      pub class-priced : bit_of row class ≡ true → IsPricedClass pricing k class
      class-priced set = record {
        tables = m.tables;
        allowed = allowed_at m.leaf;
        kind = m.kind;
        chains = is.chains;
        is = is.is;
        allows = subst (λ (n : TimedNetwork). allowed_at m.leaf k (class_at n class) ≡ true) (sym is.network) (sym row-told ∙ set);
      }

      -- at this price
      pub price-some : (price : ℕ) → bit_of row class ≡ true → IsClassPrice pricing k (shipment_at pricing.instance.now k).size (class_at pricing.network.now class) price → IsPriceOf m k here (Some price)
      price-some price set priced = (
        sym row-told ∙ set,
        λ chains are.
            subst (λ (l : List (List Leg)). price ≡ prices_at m l k here) (chains-same chains are)
            (subst (λ (q : Problem). price ≡ leaf_price q m.tables (allowed_at m.leaf) m.kind is.chains k (shipment_at q k).size here) is.instance
            (subst (λ (n : TimedNetwork). price ≡ leaf_price pricing.instance.now m.tables (allowed_at m.leaf) m.kind is.chains k (shipment_at pricing.instance.now k).size (class_at n class)) is.network
            (priced m.tables (allowed_at m.leaf) m.kind is.chains is.is))),
      )

      -- and another one isn't allowed
      pub price-none : bit_of row class ≡ false → IsPriceOf m k here None
      price-none unset = sym row-told ∙ unset

  -- the costs of the classes
  pub costs-are : (k : ℕ) (row : List Bool) (costs : List (Option ℕ)) → IsRowUnder m.leaf.setting m.leaf.sides k row → HoldsLeafCosts pricing k row costs → AreCostsOf m k costs
  costs-are k row costs under holds chains are =
      let allows : RowAllows pricing.network.now (allowed_at m.leaf k) row = subst (λ (n : TimedNetwork). RowAllows n (allowed_at m.leaf k) row) (sym is.network) (λ c class. under.exact c class) in
      let H : Problem → TimedNetwork → List (List Leg) → Type 0 = λ q n l.
      HoldsClassCosts q n (allowed_at m.leaf k) (leaf_price q m.tables (allowed_at m.leaf) m.kind l k (shipment_at q k).size) (shipment_at q k).size costs in
      subst (λ (l : List (List Leg)). H own net l) (chains-same chains are)
      (subst (λ (q : Problem). H q net is.chains) is.instance
      (subst (λ (n : TimedNetwork). H pricing.instance.now n is.chains) is.network (holds m.tables (allowed_at m.leaf) m.kind is.chains is.is allows)))
