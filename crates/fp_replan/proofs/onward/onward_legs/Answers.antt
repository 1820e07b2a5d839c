use Rattle.std.proofs.Common.{◌≡◌, ◌+◌, ℕ, ◌++◌, ◌∷◌, ◌<◌, ◌≤◌, [], List, length, sym, ap, subst, ◌∙◌, arith}
use Rattle.std.specs.Prelude.{IsSomeAnd, unwrap_or}
use Rattle.fp_labels.specs.Labels.{cost_to}
use Rattle.fp_model.specs.declared.parts.Arc.{Arc}
use Rattle.fp_model.specs.declared.parts.Leg.{Leg}
use Rattle.fp_model.specs.Problem.{arc_at, hold_at}
use Rattle.fp_model.specs.Routes.{ArcsExist, step as step_of}
use Rattle.fp_model.proofs.Validity.{IsArc-valid}
use Rattle.fp_replan.specs.KeptLegs.{place_after}
use Rattle.fp_replan.specs.Starts.{ready_after}
use Rattle.fp_replan.proofs.KeptBeginnings.{arcs-exist}
use Rattle.fp_replan.proofs.OnwardWalks.{IsUnderway, label-falls, label-past, place-inside, underway-end, underway-more, underway-small, underway-start}
use Rattle.fp_replan.proofs.onward.onward_legs.Goals as goal

pub place_after-here-requires : goal.place_after-here-requires
place_after-here-requires c =
    subst (ArcsExist c.args.instance.now) (sym c.deref.ensures.value) (arcs-exist c.args.instance.now c.args.shipment.now c.args.front.items c.requires.begins)

pub loop-arc-init : goal.loop-arc-init
loop-arc-init c =
    let p = c.args.instance.now in
    let s = c.args.shipment.now in
    let gone = c.args.gone.now in
    let front : List Leg = c.args.front.items in
    let here : ℕ = place_after p s.from front in
    let inside : here < length p.terminals = place-inside p s.from front here c.arcs-known.ensures.valid c.requires.shipment.from c.requires.begins.leads in
    let start : IsUnderway p gone s front here (ready_after p s.release front) front =
    underway-start p gone s front (cost_to c.args.labels.now here) inside (label-past p gone s.to c.args.labels.now c.requires.labels here inside)
    (subst (λ n. IsSomeAnd (cost_to c.args.labels.now here) (λ m. n + m ≤ s.due + hold_at p s.to)) c.requires.ready c.requires.in_time) in
    subst (λ n. IsUnderway p gone s front c.place_after-here.result n front) (sym c.requires.ready)
    (subst (λ h. IsUnderway p gone s front h (ready_after p s.release front) front) (sym (c.place_after-here.ensures ∙ ap (place_after p s.from) c.deref.ensures.value)) start)

pub overflow_add-ready : goal.overflow_add-ready
overflow_add-ready c =
    let p = c.args.instance.now in
    let s = c.args.shipment.now in
    omega (
      arith,
      c.step-ready.ensures.same,
      underway-small p c.args.gone.now s c.args.front.items c.loop-arc.here c.loop-arc.ready c.in-Some.arc c.loop-arc.legs.items c.arcs-known.ensures.valid c.requires.shipment c.loop-arc.invariant c.in-Some.ensures,
    )

pub loop-arc-preserved : goal.loop-arc-preserved
loop-arc-preserved c =
    let p = c.args.instance.now in
    let s = c.args.shipment.now in
    let gone = c.args.gone.now in
    let front : List Leg = c.args.front.items in
    let a = c.in-Some.arc in
    let ready = c.loop-arc.ready in
    let legs : List Leg = c.loop-arc.legs.items in
    let leg : Leg = record { arc = a; depart = ready } in
    let more : IsUnderway p gone s front (arc_at p a).to (ready + step_of p a) (legs ++ (leg ∷ [])) =
    underway-more p gone s front c.loop-arc.here ready a legs c.arcs-known.ensures.valid c.loop-arc.invariant c.in-Some.ensures in
    let head : (arc_at p a).to ≡ c.arc-here.result.to = ap (λ (x : Arc). x.to) (sym c.arc-here.ensures.same) in
    subst (λ (ls : List Leg). IsUnderway p gone s front c.arc-here.result.to (ready + c.step-ready.result) ls) (sym c.in_ok-push.ensures.items)
    (subst (λ (n : ℕ). IsUnderway p gone s front c.arc-here.result.to (ready + n) (legs ++ (leg ∷ []))) (sym c.step-ready.ensures.same)
    (subst (λ (h : ℕ). IsUnderway p gone s front h (ready + step_of p a) (legs ++ (leg ∷ []))) head more))

pub loop-arc-smaller : goal.loop-arc-smaller
loop-arc-smaller c =
    let p = c.args.instance.now in
    let s = c.args.shipment.now in
    let gone = c.args.gone.now in
    let a = c.in-Some.arc in
    let here = c.loop-arc.here in
    let labels = c.args.labels.now in
    let valid = c.arcs-known.ensures.valid in
    let head : (arc_at p a).to ≡ c.arc-here.result.to = ap (λ (x : Arc). x.to) (sym c.arc-here.ensures.same) in
    subst (λ (h : ℕ). unwrap_or (cost_to labels h) 0 < unwrap_or (cost_to labels here) 0) head
    (label-falls p gone here s.to a (cost_to labels here) (cost_to labels (arc_at p a).to) valid
    (label-past p gone s.to labels c.requires.labels here c.loop-arc.invariant.inside)
    (label-past p gone s.to labels c.requires.labels (arc_at p a).to (IsArc-valid p a valid c.in-Some.ensures.begins.leads.0).to) c.in-Some.ensures.begins)

pub returns : goal.returns
returns c =
    underway-end c.args.instance.now c.args.gone.now c.args.shipment.now c.args.front.items c.loop-arc.here c.loop-arc.ready c.loop-arc.legs.items c.arcs-known.ensures.valid c.loop-arc.invariant c.in_default.ensures
