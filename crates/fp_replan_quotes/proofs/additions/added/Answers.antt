use Rattle.std.proofs.Common.{◌≡◌, ◌∙◌, ℕ, List, ap, ap₂, arith}
use Rattle.std.specs.Prelude.{min}
use Rattle.fp_model.specs.declared.parts.Leg.{Leg}
use Rattle.fp_model.specs.Costs.{cost}
use Rattle.fp_model.specs.Problem.{Problem}
use Rattle.fp_replan.specs.Quotes.{without_last}
use Rattle.fp_replan_quotes.specs.NamedQuotes.{cost_without, front}
use Rattle.fp_replan_quotes.proofs.Fronts.{cost_without-le}
use Rattle.fp_replan_quotes.proofs.additions.added.Goals as goal

-- what the cheaper plan without the shipment costs
lesser : (p q : Problem) (before after part : List (List Leg)) (first second least : ℕ) → q ≡ without_last p → first ≡ cost q before → second ≡ cost q part → part ≡ front p after → least ≡ min first second → least ≡ cost_without p before after
lesser p q before after part first second least same one two is picked =
    picked
    ∙ ap₂ min (one ∙ ap (λ (x : Problem). cost x before) same) (two ∙ ap (λ (x : Problem). cost x part) same ∙ ap (cost (without_last p)) is)

pub overflow_sub-result : goal.overflow_sub-result
overflow_sub-result c =
    let least = lesser c.args.instance.now c.in_ok-earlier.earlier c.args.before.now c.args.after.now c.in_ok-front.field-0 c.in_ok-first.first c.in_ok-second.second c.min.result c.in_ok-earlier.ensures.same c.in_ok-first.ensures c.in_ok-second.ensures c.in_ok-front.ensures.routes c.min.ensures in
    omega (arith, least, c.in_ok-with_it.ensures, cost_without-le c.args.instance.now c.args.before.now c.args.after.now)

pub returns-clause-added : goal.returns-clause-added
returns-clause-added c =
    let least = lesser c.args.instance.now c.in_ok-earlier.earlier c.args.before.now c.args.after.now c.in_ok-front.field-0 c.in_ok-first.first c.in_ok-second.second c.min.result c.in_ok-earlier.ensures.same c.in_ok-first.ensures c.in_ok-second.ensures c.in_ok-front.ensures.routes c.min.ensures in
    omega (arith, least, c.in_ok-with_it.ensures, cost_without-le c.args.instance.now c.args.before.now c.args.after.now)
