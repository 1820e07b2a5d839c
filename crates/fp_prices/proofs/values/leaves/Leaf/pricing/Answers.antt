use Rattle.std.proofs.Common.{◌≡◌, List, length, sym, ap, ◌∙◌, subst}
use Rattle.std.specs.Prelude.{All, Bool, Ok}
use Rattle.fp_longestarcs.specs.Networks.{TimedNetwork, class_count}
use Rattle.fp_allowed.specs.Settings.{Setting}
use Rattle.fp_prices.specs.Forced.{AreForcedOf, AreRowsUnder}
use Rattle.fp_prices.specs.LeafPricings.{IsLeafPricing, PricingModel}
use Rattle.fp_prices.specs.Rounds.{IsLeafOver, LeafModel}
use Rattle.fp_prices.proofs.LeafBounds.{leaf-pricing, rows-long}
use Rattle.fp_prices.proofs.values.leaves.Leaf.pricing.Goals as goal

pub forced_classes-requires-clause-under : goal.forced_classes-requires-clause-under
forced_classes-requires-clause-under c =
    let rows : List (List Bool) = c.self.inside.rows.items in
    let over : IsLeafOver c.args.self.now rows = subst (λ (l : LeafModel). IsLeafOver l rows) c.self.view_is c.self.invariant in (
      c.args.self.now.sides,
      subst (λ (l : List (List Bool)). AreRowsUnder c.allowed.result c.args.self.now.sides l) (sym c.deref.ensures.value)
          (subst (λ (s : Setting). AreRowsUnder s c.args.self.now.sides rows) (sym c.allowed.ensures) over.under),
    )

pub class_pricing-requires-clause-long : goal.class_pricing-requires-clause-long
class_pricing-requires-clause-long c =
    let rows : List (List Bool) = c.self.inside.rows.items in
    let over : IsLeafOver c.args.self.now rows = subst (λ (l : LeafModel). IsLeafOver l rows) c.self.view_is c.self.invariant in
    let network : c.network-network.result.now ≡ c.args.self.now.setting.network = c.network-network.ensures.same ∙ ap (λ (l : LeafModel). l.setting.network) c.self.view_is in
    subst (λ (l : List (List Bool)). All (λ (row : List Bool). length row ≡ class_count c.network-network.result.now) l) (sym c.deref-2.ensures.value)
    (subst (λ (n : TimedNetwork). All (λ (row : List Bool). length row ≡ class_count n) rows) (sym network) (rows-long c.args.self.now.setting c.args.self.now.sides rows over.under))

pub invariant_of-result : goal.invariant_of-result
invariant_of-result c =
    let rows : List (List Bool) = c.self.inside.rows.items in
    let over : IsLeafOver c.args.self.now rows = subst (λ (l : LeafModel). IsLeafOver l rows) c.self.view_is c.self.invariant in
    let m : PricingModel = record { leaf = c.args.self.now; tables = c.args.tables.now; kind = c.args.kind; forced = c.args.forced } in
    let is : IsLeafPricing m c.in_ok-pricing.pricing =
    leaf-pricing m c.instance-instance.result.now c.network-network.result.now rows c.deref-2.result.now c.in_ok-paid.paid (Ok c.in_ok-pricing.pricing) over
    (c.instance-instance.ensures.same ∙ ap (λ (l : LeafModel). l.setting.problem) c.self.view_is) (c.network-network.ensures.same ∙ ap (λ (l : LeafModel). l.setting.network) c.self.view_is) c.deref-2.ensures.value
    (subst (λ (s : Setting). AreForcedOf s rows c.args.forced c.in_ok-paid.paid) c.allowed.ensures
    (subst (λ (l : List (List Bool)). AreForcedOf c.allowed.result l c.args.forced c.in_ok-paid.paid) c.deref.ensures.value c.in_ok-paid.ensures))
    c.in_ok-pricing.ensures.same c.in_ok-pricing.ensures.pricing in
    is

pub returns-clause-chains : goal.returns-clause-chains
returns-clause-chains c =
    let rows : List (List Bool) = c.self.inside.rows.items in
    let over : IsLeafOver c.args.self.now rows = subst (λ (l : LeafModel). IsLeafOver l rows) c.self.view_is c.self.invariant in
    let m : PricingModel = record { leaf = c.args.self.now; tables = c.args.tables.now; kind = c.args.kind; forced = c.args.forced } in
    let is : IsLeafPricing m c.in_ok-pricing.pricing =
    leaf-pricing m c.instance-instance.result.now c.network-network.result.now rows c.deref-2.result.now c.in_ok-paid.paid (Ok c.in_ok-pricing.pricing) over
    (c.instance-instance.ensures.same ∙ ap (λ (l : LeafModel). l.setting.problem) c.self.view_is) (c.network-network.ensures.same ∙ ap (λ (l : LeafModel). l.setting.network) c.self.view_is) c.deref-2.ensures.value
    (subst (λ (s : Setting). AreForcedOf s rows c.args.forced c.in_ok-paid.paid) c.allowed.ensures
    (subst (λ (l : List (List Bool)). AreForcedOf c.allowed.result l c.args.forced c.in_ok-paid.paid) c.deref.ensures.value c.in_ok-paid.ensures))
    c.in_ok-pricing.ensures.same c.in_ok-pricing.ensures.pricing in
    (is.chains, is.are_chains)
