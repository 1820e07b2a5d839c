use Rattle.std.proofs.Common.{◌≡◌, ◌∙◌, List, sym, ap, subst}
use Rattle.fp_model.specs.declared.parts.Shipment.{Shipment}
use Rattle.fp_model.specs.Plans.{PlanExists}
use Rattle.fp_model.specs.Problem.{IsValid, Problem}
use Rattle.fp_replan_quotes.specs.LastShipments.{PlansCorrespond, StandsLast, to_last}
use Rattle.fp_replan_quotes.specs.NamedQuotes.{PricesAsLast}
use Rattle.fp_replan_quotes.proofs.LastLists.{StandsLast-to_last}
use Rattle.fp_replan_quotes.proofs.LastPlans.{PlanExists-last, PlansCorrespond-last}
use Rattle.fp_replan_quotes.proofs.LastQuotes.{PricesAsLast-last}
use Rattle.fp_replan_quotes.proofs.LastValidity.{IsValid-last}
use Rattle.fp_replan_quotes.proofs.last_shipments.with_last.Goals as goal

pub with_shipments-requires : goal.with_shipments-requires
with_shipments-requires c =
    let p : Problem = c.args.instance.now in
    let same : c.in_ok-shipments.shipments.items ≡ to_last c.args.number p.shipments = c.in_ok-shipments.ensures ∙ ap (to_last c.args.number) c.shipments.ensures.same in
    subst (λ (ss : List Shipment). IsValid (record p { shipments = ss })) (sym same) (IsValid-last p c.args.number c.shipments.ensures.valid)

pub returns-clause-same : goal.returns-clause-same
returns-clause-same c =
    c.in_ok-moved.ensures
    ∙ ap (λ (ss : List Shipment). record c.args.instance.now { shipments = ss }) (c.in_ok-shipments.ensures ∙ ap (to_last c.args.number) c.shipments.ensures.same)

pub returns-clause-stands : goal.returns-clause-stands
returns-clause-stands c =
    subst (λ (i : Problem). StandsLast c.args.number c.args.instance.now.shipments i.shipments) (sym (returns-clause-same c))
    (StandsLast-to_last c.args.number c.args.instance.now.shipments c.requires)

pub returns-clause-plans : goal.returns-clause-plans
returns-clause-plans c =
    subst (PlansCorrespond c.args.instance.now c.args.number) (sym (returns-clause-same c)) (PlansCorrespond-last c.args.instance.now c.args.number)

pub returns-clause-prices : goal.returns-clause-prices
returns-clause-prices c =
    subst (PricesAsLast c.args.instance.now c.args.number) (sym (returns-clause-same c)) (PricesAsLast-last c.args.instance.now c.args.number c.requires)

pub returns-clause-exists : goal.returns-clause-exists
returns-clause-exists c = λ plan. subst PlanExists (sym (returns-clause-same c)) (PlanExists-last c.args.instance.now c.args.number plan)
