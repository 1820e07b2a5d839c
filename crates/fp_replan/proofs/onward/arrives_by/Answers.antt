use Rattle.std.proofs.Common.{◌≡◌, ◌<◌, ◌≤◌, ◌+◌, ◌-◌, ◌∙◌, length, ap, arith, leb-true, le-leb}
use Rattle.std.proofs.lemmas.Grind.{common_steps}
use Rattle.fp_model.specs.declared.parts.Arc.{Arc}
use Rattle.fp_model.specs.declared.parts.Leg.{Leg}
use Rattle.fp_model.specs.Numbered.{leg_at, no_leg}
use Rattle.fp_model.specs.Problem.{arc_at}
use Rattle.fp_model.proofs.LastArrivals.{arrives_at_last}
use Rattle.fp_replan.proofs.onward.arrives_by.Goals as goal

pub returns : goal.returns
returns c =
    let p = c.args.instance.now in
    let legs = c.args.legs.now in
    let last : Leg = leg_at legs (length legs - 1) in
    let some : 0 < length legs = grind (arith, common_steps) in
    let at = arrives_at_last p 1 c.args.due legs no_leg some in
    let time : c.from-2.result ≡ (arc_at p last.arc).time = c.from-2.ensures ∙ ap (λ (a : Arc). a.time) c.arc.ensures.same in (
      (λ within.
          let le : c.from.result + c.from-2.result ≤ c.from-3.result = leb-true _ _ within in
          at.1 (omega (arith, le, time, c.from.ensures, c.from-3.ensures))),
      (λ arrives.
          let due = at.0 arrives in
          let le : c.from.result + c.from-2.result ≤ c.from-3.result = omega (arith, due, time, c.from.ensures, c.from-3.ensures) in
          le-leb _ _ le),
    )
