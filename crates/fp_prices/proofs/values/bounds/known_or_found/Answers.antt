use Rattle.std.proofs.Common.{◌≡◌, ◌∙◌, arith, List, sym, subst, ⊎_elim}
use Rattle.std.specs.Prelude.{Some, slice_get}
use Rattle.std.proofs.lemmas.Option.{slice_get_within}
use Rattle.fp_prices.specs.declared.values.known_costs.KnownCost.{KnownCost}
use Rattle.fp_prices.specs.Found.{IsLeastAtLeaf, IsSmallCost}
use Rattle.fp_prices.specs.KnownCosts.{IsKnownUnder}
use Rattle.fp_prices.proofs.values.bounds.known_or_found.Goals as goal

pub known_cost-requires-clause-known : goal.known_cost-requires-clause-known
known_cost-requires-clause-known c = λ entry got.
    (c.requires.known c.args.shipment entry (subst (λ (l : List KnownCost). slice_get l c.args.shipment ≡ Some entry) c.deref.ensures.value got)).long ∙ sym c.classes-classes.ensures.count

pub returns-in-Some-clause-small : goal.returns-in-Some-clause-small
returns-in-Some-clause-small c =
    let entry : KnownCost = record { row = c.args.row.now; cost = c.in-Some.cost } in
    let got = subst (λ (l : List KnownCost). slice_get l c.args.shipment ≡ Some entry) c.deref.ensures.value c.in-Some.ensures in
    (c.requires.known c.args.shipment entry got).small

pub returns-in-Some-clause-exact : goal.returns-in-Some-clause-exact
returns-in-Some-clause-exact c =
    let entry : KnownCost = record { row = c.args.row.now; cost = c.in-Some.cost } in
    let got = subst (λ (l : List KnownCost). slice_get l c.args.shipment ≡ Some entry) c.deref.ensures.value c.in-Some.ensures in
    (c.requires.known c.args.shipment entry got).least

pub returns-in-Some-clause-more : goal.returns-in-Some-clause-more
returns-in-Some-clause-more c =
    let entry : KnownCost = record { row = c.args.row.now; cost = c.in-Some.cost } in
    let got = subst (λ (l : List KnownCost). slice_get l c.args.shipment ≡ Some entry) c.deref.ensures.value c.in-Some.ensures in
    omega (arith, slice_get_within c.args.known.now.items c.args.shipment entry got)

pub returns-in_ok-keep_cost-clause-exact : goal.returns-in_ok-keep_cost-clause-exact
returns-in_ok-keep_cost-clause-exact c = subst (IsLeastAtLeaf c.args.over.now.pricing.now c.args.shipment c.args.row.now) c.in-Some-found.is c.in_ok-found.ensures.exact

pub returns-in_ok-keep_cost-clause-known : goal.returns-in_ok-keep_cost-clause-known
returns-in_ok-keep_cost-clause-known c = λ k entry got.
    let under : IsKnownUnder c.args.over.now.pricing.now c.args.shipment (record { row = c.args.row.now; cost = c.in-Some-found.cost }) =
    record {
      long = c.requires.over.long;
      small = subst (IsSmallCost c.args.over.now.pricing.now.instance.now c.args.shipment) c.in-Some-found.is c.in_ok-found.ensures.small;
      least = subst (IsLeastAtLeaf c.args.over.now.pricing.now c.args.shipment c.args.row.now) c.in-Some-found.is c.in_ok-found.ensures.exact;
    } in
    ⊎_elim
    (λ (old : slice_get c.args.known.now.items k ≡ Some entry). c.requires.known k entry old)
    (λ (new : (k ≡ c.args.shipment) × (entry ≡ record { row = c.args.row.now; cost = c.in-Some-found.cost })).
    subst (λ (j : _). IsKnownUnder c.args.over.now.pricing.now j entry) (sym new.0) (subst (IsKnownUnder c.args.over.now.pricing.now c.args.shipment) (sym new.1) under))
    (c.in_ok-keep_cost.ensures.known k entry got)
