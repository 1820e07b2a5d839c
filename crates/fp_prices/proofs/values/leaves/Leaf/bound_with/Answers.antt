use Rattle.std.proofs.Common.{List, sym, ◌∙◌, subst}
use Rattle.std.specs.Prelude.{Bool, IfOk}
use Rattle.fp_prices.specs.Found.{IsFoundAtLeaf, IsPricedLeaf}
use Rattle.fp_prices.specs.declared.classes.class_prices.ClassPricing.{ClassPricing}
use Rattle.fp_prices.specs.LeafPricings.{IsLeafPricing, PricingModel}
use Rattle.fp_prices.specs.Rounds.{IsLeafOver, LeafModel}
use Rattle.fp_prices.proofs.KnownCosts.{ok-gives}
use Rattle.fp_prices.proofs.LeafBounds.{base-fits, base-small, bound-exact, bound-plans, bound-small, known-after, known-before, leaf-priced}
use Rattle.fp_prices.proofs.values.leaves.Leaf.bound_with.Goals as goal

pub bases-base-requires-clause-fits : goal.bases-base-requires-clause-fits
bases-base-requires-clause-fits c =
    let m : PricingModel = record { leaf = c.args.self.now; tables = c.args.tables.now; kind = c.args.kind; forced = c.args.forced } in
    let pricing : ClassPricing = c.priced.inside.pricing in
    let is : IsLeafPricing m pricing = subst (λ (o : PricingModel). IsLeafPricing o pricing) (c.priced.view_is ∙ c.in_ok-priced.ensures.is) c.priced.invariant in
    base-fits m pricing is

pub value_over-requires-clause-priced : goal.value_over-requires-clause-priced
value_over-requires-clause-priced c =
    let m : PricingModel = record { leaf = c.args.self.now; tables = c.args.tables.now; kind = c.args.kind; forced = c.args.forced } in
    let pricing : ClassPricing = c.priced.inside.pricing in
    let is : IsLeafPricing m pricing = subst (λ (o : PricingModel). IsLeafPricing o pricing) (c.priced.view_is ∙ c.in_ok-priced.ensures.is) c.priced.invariant in
    let rows : List (List Bool) = c.self.inside.rows.items in
    let over : IsLeafOver c.args.self.now rows = subst (λ (l : LeafModel). IsLeafOver l rows) c.self.view_is c.self.invariant in
    subst (IsPricedLeaf pricing) (sym c.deref.ensures.value) (leaf-priced m pricing is rows over.under)

pub value_over-requires-clause-bases : goal.value_over-requires-clause-bases
value_over-requires-clause-bases c =
    let m : PricingModel = record { leaf = c.args.self.now; tables = c.args.tables.now; kind = c.args.kind; forced = c.args.forced } in
    let pricing : ClassPricing = c.priced.inside.pricing in
    let is : IsLeafPricing m pricing = subst (λ (o : PricingModel). IsLeafPricing o pricing) (c.priced.view_is ∙ c.in_ok-priced.ensures.is) c.priced.invariant in
    base-small m pricing is c.bases-base.result c.bases-base.ensures

pub value_over-requires-clause-known : goal.value_over-requires-clause-known
value_over-requires-clause-known c =
    let m : PricingModel = record { leaf = c.args.self.now; tables = c.args.tables.now; kind = c.args.kind; forced = c.args.forced } in
    let pricing : ClassPricing = c.priced.inside.pricing in
    let is : IsLeafPricing m pricing = subst (λ (o : PricingModel). IsLeafPricing o pricing) (c.priced.view_is ∙ c.in_ok-priced.ensures.is) c.priced.invariant in
    known-before m pricing is c.args.known.now.items c.requires.known

pub returns-clause-exact : goal.returns-clause-exact
returns-clause-exact c =
    let m : PricingModel = record { leaf = c.args.self.now; tables = c.args.tables.now; kind = c.args.kind; forced = c.args.forced } in
    let pricing : ClassPricing = c.priced.inside.pricing in
    let is : IsLeafPricing m pricing = subst (λ (o : PricingModel). IsLeafPricing o pricing) (c.priced.view_is ∙ c.in_ok-priced.ensures.is) c.priced.invariant in
    let rows : List (List Bool) = c.self.inside.rows.items in
    let over : IsLeafOver c.args.self.now rows = subst (λ (l : LeafModel). IsLeafOver l rows) c.self.view_is c.self.invariant in
    let found : IfOk c.value_over.result (IsFoundAtLeaf pricing rows c.bases-base.result) =
    subst (λ (l : List (List Bool)). IfOk c.value_over.result (IsFoundAtLeaf pricing l c.bases-base.result)) c.deref.ensures.value c.value_over.ensures.found in
    bound-exact m pricing is rows over.under c.bases-base.result c.value_over.result c.bases-base.ensures found

pub returns-clause-plans : goal.returns-clause-plans
returns-clause-plans c =
    let m : PricingModel = record { leaf = c.args.self.now; tables = c.args.tables.now; kind = c.args.kind; forced = c.args.forced } in
    let pricing : ClassPricing = c.priced.inside.pricing in
    let is : IsLeafPricing m pricing = subst (λ (o : PricingModel). IsLeafPricing o pricing) (c.priced.view_is ∙ c.in_ok-priced.ensures.is) c.priced.invariant in
    let rows : List (List Bool) = c.self.inside.rows.items in
    let over : IsLeafOver c.args.self.now rows = subst (λ (l : LeafModel). IsLeafOver l rows) c.self.view_is c.self.invariant in
    let found : IfOk c.value_over.result (IsFoundAtLeaf pricing rows c.bases-base.result) =
    subst (λ (l : List (List Bool)). IfOk c.value_over.result (IsFoundAtLeaf pricing l c.bases-base.result)) c.deref.ensures.value c.value_over.ensures.found in
    bound-plans m pricing is rows over.under c.bases-base.result c.value_over.result c.bases-base.ensures c.requires.tables.rule found

pub returns-clause-small : goal.returns-clause-small
returns-clause-small c =
    let m : PricingModel = record { leaf = c.args.self.now; tables = c.args.tables.now; kind = c.args.kind; forced = c.args.forced } in
    let pricing : ClassPricing = c.priced.inside.pricing in
    let is : IsLeafPricing m pricing = subst (λ (o : PricingModel). IsLeafPricing o pricing) (c.priced.view_is ∙ c.in_ok-priced.ensures.is) c.priced.invariant in
    let rows : List (List Bool) = c.self.inside.rows.items in
    let over : IsLeafOver c.args.self.now rows = subst (λ (l : LeafModel). IsLeafOver l rows) c.self.view_is c.self.invariant in
    let found : IfOk c.value_over.result (IsFoundAtLeaf pricing rows c.bases-base.result) =
    subst (λ (l : List (List Bool)). IfOk c.value_over.result (IsFoundAtLeaf pricing l c.bases-base.result)) c.deref.ensures.value c.value_over.ensures.found in
    bound-small m pricing is rows over.under c.bases-base.result c.value_over.result c.bases-base.ensures found

pub returns-clause-known : goal.returns-clause-known
returns-clause-known c =
    let m : PricingModel = record { leaf = c.args.self.now; tables = c.args.tables.now; kind = c.args.kind; forced = c.args.forced } in
    let pricing : ClassPricing = c.priced.inside.pricing in
    let is : IsLeafPricing m pricing = subst (λ (o : PricingModel). IsLeafPricing o pricing) (c.priced.view_is ∙ c.in_ok-priced.ensures.is) c.priced.invariant in
    ok-gives (λ b under shared plain. known-after m pricing is c.value_over.new.known.items shared plain under) c.value_over.result c.value_over.ensures.known
