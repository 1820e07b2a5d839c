use Rattle.std.proofs.Common.{◌∙◌, ◌++◌, ℕ, List, [], ap, arith}
use Rattle.std.specs.Prelude.{cond}
use Rattle.fp_base_lists.specs.Ascending.{place_in}
use Rattle.fp_base_lists.specs.Membership.{list_has}
use Rattle.fp_base_lists.specs.Vectors.{lists_of}
use Rattle.fp_model.specs.Numbered.{route_at}
use Rattle.fp_replan_present.proofs.WholePlans.{joined-each}
use Rattle.fp_replan_present.proofs.whole_plans.joined.Goals as goal

pub returns : goal.returns
returns c =
    λ p day is.
    let rest = c.args.rest.now in
    let plan = c.args.plan.now in
    joined-each p day rest (lists_of c.in_ok-routes.routes.items) plan is c.in_ok-routes.ensures.long
    (λ k lt.
    c.in_ok-routes.ensures.each k (omega (arith, lt, c.in_ok-routes.ensures.long))
    ∙ ap (λ (ks : List ℕ). route_at rest.settled k ++ cond (list_has ks k) (route_at plan (place_in ks k)) []) c.deref.ensures.value)
