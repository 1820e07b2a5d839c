use Rattle.std.proofs.Common.{◌≡◌, List, sym, ap, ◌∙◌, subst}
use Rattle.std.proofs.lemmas.Result.{err_from_is_err_and}
use Rattle.fp_model.specs.declared.parts.Leg.{Leg}
use Rattle.fp_model.specs.Costs.{cost}
use Rattle.fp_model.specs.Problem.{Problem}
use Rattle.fp_timetable.specs.declared.lines.TruckLine.{TruckLine}
use Rattle.fp_timetable.specs.Lines.{AreTruckLines}
use Rattle.fp_certificate_lines.specs.Statements.{Statement}
use Rattle.fp_certificate_rules.specs.Plans.{routes_of, stated_cost}
use Rattle.fp_timetable.proofs.DepartureLines.{AreTruckLines-unique}
use Rattle.fp_checker.proofs.Results.{Part_injective, false_refutes}
use Rattle.fp_checker.proofs.FirstParts.{plan_unmet, cost_unmet, trucks_unmet}
use Rattle.fp_checker.proofs.checks.tested_plan.Goals as goal

pub returns-in_err-plan-clause-part : goal.returns-in_err-plan-clause-part
returns-in_err-plan-clause-part c =
    let e = err_from_is_err_and c.from_residual.result c.from_residual.ensures.1 in
    rw (e.1, e.2) (λ number same.
    let fails = c.in_err-plan.ensures.part number same in
    plan_unmet c.args.case.now.problem c.args.case.now.windows c.args.case.now.told fails.1 number fails.0)

pub returns-then-stated_cost-plan_cost-clause-part : goal.returns-then-stated_cost-plan_cost-clause-part
returns-then-stated_cost-plan_cost-clause-part c number same =
    let p = c.case.inside.instance.now in
    let holds = rw (← c.case.view_is) at c.in_ok-plan.ensures.holds in
    let plan = rw (← c.case.view_is) at c.in_ok-plan.ensures.plan in
    rw (← c.case.view_is) (cost_unmet p c.case.inside.windows.now c.case.inside.certificate.now holds
    (λ has.
    c.if-stated_cost-plan_cost.true
    (c.stated_cost.ensures ∙ ap (λ (s : Statement). stated_cost s.answer) c.certificate.view_is ∙ has
    ∙ sym (c.plan_cost.ensures ∙ ap (λ (R : List (List Leg)). cost p R) plan)))
    number (Part_injective 2 number same))

-- the lines of a plan that is the certificate's
told-lines : (p : Problem) (plan routes : List (List Leg)) (lines : List TruckLine) → plan ≡ routes → AreTruckLines p plan lines → AreTruckLines p routes lines
told-lines p plan routes lines same = subst (λ (R : List (List Leg)). AreTruckLines p R lines) same

pub returns-then-not-are_same-clause-part : goal.returns-then-not-are_same-clause-part
returns-then-not-are_same-clause-part c number same =
    let p = c.case.inside.instance.now in
    let holds = rw (← c.case.view_is) at c.in_ok-plan.ensures.holds in
    let plan = rw (← c.case.view_is) at c.in_ok-plan.ensures.plan in
    let told : Statement = c.case.inside.certificate.now in
    let found : AreTruckLines p (routes_of p told) c.in_ok-lines.lines.items = told-lines p c.in_ok-plan.plan (routes_of p told) c.in_ok-lines.lines.items plan c.in_ok-lines.ensures.lines in
    let stated : c.stated_cost.result ≡ stated_cost told.answer = c.stated_cost.ensures ∙ ap (λ (s : Statement). stated_cost s.answer) c.certificate.view_is in
    let costs : c.plan_cost.result ≡ cost p (routes_of p told) = c.plan_cost.ensures ∙ ap (λ (R : List (List Leg)). cost p R) plan in
    rw (← c.case.view_is) (trucks_unmet p c.case.inside.windows.now told holds (sym stated ∙ c.if-stated_cost-plan_cost.false ∙ costs)
    (λ has.
    false_refutes c.are_same.result c.if-not-are_same.true c.are_same.ensures.1
    (c.as_slice-2.ensures.value ∙ ap (λ (s : Statement). s.trucks) c.certificate.view_is ∙ AreTruckLines-unique p (routes_of p told) told.trucks c.in_ok-lines.lines.items has found
    ∙ sym c.as_slice-3.ensures.value))
    number (Part_injective 3 number same))

pub returns-clause-holds : goal.returns-clause-holds
returns-clause-holds c =
    let p = c.case.inside.instance.now in
    let holds = rw (← c.case.view_is) at c.in_ok-plan.ensures.holds in
    let plan = rw (← c.case.view_is) at c.in_ok-plan.ensures.plan in
    let told : Statement = c.case.inside.certificate.now in
    let found : AreTruckLines p (routes_of p told) c.in_ok-lines.lines.items = told-lines p c.in_ok-plan.plan (routes_of p told) c.in_ok-lines.lines.items plan c.in_ok-lines.ensures.lines in
    let stated : c.stated_cost.result ≡ stated_cost told.answer = c.stated_cost.ensures ∙ ap (λ (s : Statement). stated_cost s.answer) c.certificate.view_is in
    let costs : c.plan_cost.result ≡ cost p (routes_of p told) = c.plan_cost.ensures ∙ ap (λ (R : List (List Leg)). cost p R) plan in
    let trucks : c.in_ok-lines.lines.items ≡ told.trucks =
    sym c.as_slice-3.ensures.value ∙ sym (c.are_same.ensures.0 c.if-not-are_same.false) ∙ c.as_slice-2.ensures.value ∙ ap (λ (s : Statement). s.trucks) c.certificate.view_is in
    rw (← c.case.view_is) (record {
      plan = holds;
      cost = sym stated ∙ c.if-stated_cost-plan_cost.false ∙ costs;
      trucks = subst (AreTruckLines p (routes_of p told)) trucks found;
    })
