use Rattle.std.proofs.Common.{◌≡◌, ℕ, Some, None, ◌∙◌, sym, subst, eq-eqb, eqb-true, ◌∷◌}
use Rattle.std.specs.Prelude.{Option, ◌↔◌}
use Rattle.std.proofs.lemmas.Bool.{false≢true}
use Rattle.fp_model.specs.Problem.{arc_at}
use Rattle.fp_model.specs.Times.{IsDistance}
use Rattle.fp_flatnet.specs.Directs.{BeginsLeast}
use Rattle.fp_flatnet.specs.Windows.{time_onward as time_onward_of}
use Rattle.fp_flatnet.proofs.OnwardTimes.{begins-tells}
use Rattle.fp_flatnet.proofs.LeastWalks.{distance-small}
use Rattle.fp_flatnet.proofs.direct_routes.begins_least.Goals as goal

pub time_onward-requires-clause-small : goal.time_onward-requires-clause-small
time_onward-requires-clause-small c =
    let p = c.args.instance.now in
    distance-small p (arc_at p c.args.number).to c.args.there c.args.from_head c.in-Some-Some.after c.arcs-known.ensures.valid c.requires.from_head c.in-Some-Some.is-1

pub returns-in-Some-Some-clause-begins : goal.returns-in-Some-Some-clause-begins
returns-in-Some-Some-clause-begins c =
    let p = c.args.instance.now in
    let a = c.args.number in
    let there = c.args.there in
    let from_tail : IsDistance p (arc_at p a).from there (Some c.in-Some-Some.least) = subst (λ (o : Option ℕ). IsDistance p (arc_at p a).from there o) c.in-Some-Some.is-0 c.requires.from_tail in
    let from_head : IsDistance p (arc_at p a).to there (Some c.in-Some-Some.after) = subst (λ (o : Option ℕ). IsDistance p (arc_at p a).to there o) c.in-Some-Some.is-1 c.requires.from_head in
    let tells : (time_onward_of p there a c.in-Some-Some.after ≡ c.in-Some-Some.least ↔ BeginsLeast p (arc_at p a).from there a) =
    begins-tells p there a c.in-Some-Some.least c.in-Some-Some.after c.arcs-known.ensures.valid c.requires.number from_tail from_head in
    ((λ same. tells.0 (sym c.time_onward.ensures.value ∙ eqb-true _ _ same)), (λ begins. eq-eqb _ _ (c.time_onward.ensures.value ∙ tells.1 begins)))

pub returns-in_default-2-clause-begins : goal.returns-in_default-2-clause-begins
returns-in_default-2-clause-begins c =
    let p = c.args.instance.now in
    let a = c.args.number in
    let none : IsDistance p (arc_at p a).from c.args.there None = subst (λ (o : Option ℕ). IsDistance p (arc_at p a).from c.args.there o) c.in_default.is-0 c.requires.from_tail in
    ((λ same. absurd (false≢true same)), (λ begins. absurd (none (a ∷ begins.rest) begins.leads)))
