use Rattle.std.proofs.Common.{◌≡◌, ◌∙◌, ℕ, ◌-◌, List, length, take, sym, ap, subst, arith}
use Rattle.std.specs.Vec.{vec_len}
use Rattle.std.specs.declared.alloc.Global.{Global}
use Rattle.std.specs.declared.vec.Vec.{Vec}
use Rattle.std.proofs.lemmas.List.{length-map, take-map}
use Rattle.std.proofs.lemmas.Slice.Zip.{AllZip-long}
use Rattle.fp_base_lists.specs.Vectors.{lists_of}
use Rattle.fp_model.specs.declared.parts.Leg.{Leg}
use Rattle.fp_model.specs.Plans.{IsPlan}
use Rattle.fp_model.specs.Problem.{Problem}
use Rattle.fp_model.specs.Routes.{Carries}
use Rattle.fp_replan.specs.Quotes.{without_last}
use Rattle.fp_replan.proofs.PlansWithout.{IsPlan-front}
use Rattle.fp_replan_quotes.proofs.additions.front.Goals as goal

pub returns-clause-routes : goal.returns-clause-routes
returns-clause-routes c =
    let p : Problem = c.args.instance.now in
    let vectors = c.front.inside.routes.items in
    let view : Vec Leg Global → List Leg = λ v. v.items in
    let whole : lists_of vectors ≡ c.args.plan.now = c.front.view_is ∙ c.in_ok-front.ensures in
    let long : length vectors ≡ length c.args.plan.now = sym (length-map vectors view) ∙ ap (λ (ls : List (List Leg)). length ls) whole in
    let plan : length c.args.plan.now ≡ length p.shipments = AllZip-long (Carries p 1) p.shipments c.args.plan.now c.requires in
    let m : ℕ = vec_len c.front.inside.routes - 1 in
    let n : m ≡ length p.shipments - 1 = omega (arith, long, plan) in
    ap (λ (vs : List (Vec Leg Global)). lists_of vs) c.pop.ensures.rest
    ∙ sym (take-map view m vectors)
    ∙ ap (λ (ls : List (List Leg)). take m ls) whole
    ∙ ap (λ (i : ℕ). take i c.args.plan.now) n

pub returns-clause-plan : goal.returns-clause-plan
returns-clause-plan c =
    subst (IsPlan (without_last c.args.instance.now) 1) (sym (returns-clause-routes c))
    (IsPlan-front c.args.instance.now 1 (length c.args.instance.now.shipments - 1) c.args.plan.now c.requires)
