use Rattle.std.proofs.Common.{◌≡◌, List, refl, ap, ◌∙◌, subst}
use Rattle.fp_model.specs.declared.parts.Leg.{Leg}
use Rattle.fp_model.specs.Plans.{IsPlan}
use Rattle.fp_flatnet.specs.Tables.{windows_in}
use Rattle.fp_certificate_lines.specs.Statements.{Statement}
use Rattle.fp_checker.proofs.Results.{Part_injective, false_refutes}
use Rattle.fp_checker.proofs.ToldPlans.{HasPlan-told, told-HasPlan}
use Rattle.fp_checker.proofs.rules.plans.told_plan.Goals as goal
use Rattle.fp_checker.proofs.rules.plans.told_plan.Goals.{then-not-legs_ascend-via-then-not-legs_ascend, then-not-legs_ascend-via-else-not-legs_ascend+then-not-arrive_in_time, then-not-legs_ascend-via-else-not-legs_ascend+else-not-arrive_in_time+then-not-all_leave_inside}

pub returns-then-not-legs_ascend-clause-part : goal.returns-then-not-legs_ascend-clause-part
returns-then-not-legs_ascend-clause-part c number same = (
  Part_injective 1 number same,
  λ holds.
      let has = rw (← c.case.view_is) at holds in
      let legs : c.as_slice-legs.result.now ≡ c.case.inside.certificate.now.legs = c.as_slice-legs.ensures.value ∙ ap (λ (s : Statement). s.legs) c.certificate.view_is in
      let told = told-HasPlan c.case.inside.instance.now (windows_in c.case.inside.windows.now) c.case.inside.certificate.now c.as_slice-legs.result.now legs c.case.invariant.range.legs has in
      elim c.then-not-legs_ascend.branch [
        | then-not-legs_ascend-via-then-not-legs_ascend w ↦ false_refutes c.legs_ascend.result w.if-not-legs_ascend.true c.legs_ascend.ensures.1 told.ascending
        | then-not-legs_ascend-via-else-not-legs_ascend+then-not-arrive_in_time w ↦ false_refutes w.arrive_in_time.result w.if-not-arrive_in_time.true w.arrive_in_time.ensures.1 told.arrivals
        | then-not-legs_ascend-via-else-not-legs_ascend+else-not-arrive_in_time+then-not-all_leave_inside w ↦
            false_refutes w.all_leave_inside.result w.if-not-all_leave_inside.true w.all_leave_inside.ensures.1 told.inside
      ],
)

pub returns-in-Ok-clause-holds : goal.returns-in-Ok-clause-holds
returns-in-Ok-clause-holds c =
    let legs : c.as_slice-legs.result.now ≡ c.case.inside.certificate.now.legs = c.as_slice-legs.ensures.value ∙ ap (λ (s : Statement). s.legs) c.certificate.view_is in
    rw (← c.case.view_is) (HasPlan-told c.case.inside.instance.now (windows_in c.case.inside.windows.now) c.case.inside.certificate.now c.as_slice-legs.result.now legs
    (record {
      ascending = c.legs_ascend.ensures.0 c.if-not-legs_ascend.false;
      arrivals = c.arrive_in_time.ensures.0 c.if-not-arrive_in_time.false;
      inside = c.all_leave_inside.ensures.0 c.if-not-all_leave_inside.false;
      plan = subst (λ (R : List (List Leg)). IsPlan c.case.inside.instance.now 1 R) c.in_ok-plan.ensures (c.in-Ok.ensures.plan.0 refl);
    }))
