use Rattle.std.proofs.Common.{List, sym, ◌∙◌, subst}
use Rattle.std.specs.Prelude.{Bool, IfNone, IfOk, IfSome, Option, Some, None, Result, Ok, Err}
use Rattle.fp_prices.specs.Found.{IsPricedLeaf}
use Rattle.fp_prices.specs.FoundWalks.{AreWalksAtLeaf, HasPreferredAtLeaf, IsEmptyAtLeaf}
use Rattle.fp_prices.specs.declared.classes.class_prices.ClassPricing.{ClassPricing}
use Rattle.fp_prices.specs.LeafPricings.{IsLeafPricing, PricingModel}
use Rattle.fp_prices.specs.Rounds.{IsLeafOver, LeafModel}
use Rattle.fp_prices.proofs.LeafBounds.{empty-found, leaf-priced, preferred-found, walks-found}
use Rattle.fp_prices.proofs.values.leaves.Leaf.walks_preferring.Goals as goal

-- what is found of an answer that is none, or of its value
none-weaker : {X E A B : Type 0} → (A → B) → (r : Result (Option X) E) → IfOk r (λ found. IfNone found A) → IfOk r (λ found. IfNone found B)
none-weaker on (Err e) h = tt
none-weaker on (Ok None) h = on h
none-weaker on (Ok (Some x)) h = tt

some-weaker : {X E : Type 0} {A B : X → Type 0} → ((x : X) → A x → B x) → (r : Result (Option X) E) → IfOk r (λ found. IfSome found A) → IfOk r (λ found. IfSome found B)
some-weaker on (Err e) h = tt
some-weaker on (Ok None) h = tt
some-weaker on (Ok (Some x)) h = on x h

pub walks_over-requires-clause-priced : goal.walks_over-requires-clause-priced
walks_over-requires-clause-priced c =
    let m : PricingModel = record { leaf = c.args.self.now; tables = c.args.tables.now; kind = c.args.kind; forced = c.args.forced } in
    let pricing : ClassPricing = c.priced.inside.pricing in
    let is : IsLeafPricing m pricing = subst (λ (o : PricingModel). IsLeafPricing o pricing) (c.priced.view_is ∙ c.in_ok-priced.ensures.is) c.priced.invariant in
    let rows : List (List Bool) = c.self.inside.rows.items in
    let over : IsLeafOver c.args.self.now rows = subst (λ (l : LeafModel). IsLeafOver l rows) c.self.view_is c.self.invariant in
    subst (IsPricedLeaf pricing) (sym c.deref.ensures.value) (leaf-priced m pricing is rows over.under)

pub returns-clause-none : goal.returns-clause-none
returns-clause-none c =
    let m : PricingModel = record { leaf = c.args.self.now; tables = c.args.tables.now; kind = c.args.kind; forced = c.args.forced } in
    let pricing : ClassPricing = c.priced.inside.pricing in
    let is : IsLeafPricing m pricing = subst (λ (o : PricingModel). IsLeafPricing o pricing) (c.priced.view_is ∙ c.in_ok-priced.ensures.is) c.priced.invariant in
    let rows : List (List Bool) = c.self.inside.rows.items in
    let over : IsLeafOver c.args.self.now rows = subst (λ (l : LeafModel). IsLeafOver l rows) c.self.view_is c.self.invariant in
    none-weaker (λ (h : IsEmptyAtLeaf pricing c.deref.result.now). empty-found m pricing is rows over.under (subst (IsEmptyAtLeaf pricing) c.deref.ensures.value h)) c.walks_over.result c.walks_over.ensures.none

pub returns-clause-walks : goal.returns-clause-walks
returns-clause-walks c =
    let m : PricingModel = record { leaf = c.args.self.now; tables = c.args.tables.now; kind = c.args.kind; forced = c.args.forced } in
    let pricing : ClassPricing = c.priced.inside.pricing in
    let is : IsLeafPricing m pricing = subst (λ (o : PricingModel). IsLeafPricing o pricing) (c.priced.view_is ∙ c.in_ok-priced.ensures.is) c.priced.invariant in
    let rows : List (List Bool) = c.self.inside.rows.items in
    let over : IsLeafOver c.args.self.now rows = subst (λ (l : LeafModel). IsLeafOver l rows) c.self.view_is c.self.invariant in
    some-weaker (λ walks h. walks-found m pricing is rows over.under walks.items (subst (λ (l : List (List Bool)). AreWalksAtLeaf pricing l walks.items) c.deref.ensures.value h))
    c.walks_over.result c.walks_over.ensures.walks

pub returns-clause-preferred : goal.returns-clause-preferred
returns-clause-preferred c =
    let m : PricingModel = record { leaf = c.args.self.now; tables = c.args.tables.now; kind = c.args.kind; forced = c.args.forced } in
    let pricing : ClassPricing = c.priced.inside.pricing in
    let is : IsLeafPricing m pricing = subst (λ (o : PricingModel). IsLeafPricing o pricing) (c.priced.view_is ∙ c.in_ok-priced.ensures.is) c.priced.invariant in
    let rows : List (List Bool) = c.self.inside.rows.items in
    let over : IsLeafOver c.args.self.now rows = subst (λ (l : LeafModel). IsLeafOver l rows) c.self.view_is c.self.invariant in
    some-weaker (λ walks h. preferred-found m pricing is rows over.under c.args.preferred.now walks.items (subst (λ (l : List (List Bool)). HasPreferredAtLeaf pricing l c.args.preferred.now walks.items) c.deref.ensures.value h))
    c.walks_over.result c.walks_over.ensures.preferred
