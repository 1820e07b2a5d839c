use Rattle.std.proofs.Common.{◌≡◌, ◌+◌, ℕ, ◌++◌, ◌∷◌, [], List, sym, ap, subst, refl, arith}
use Rattle.std.specs.Prelude.{Option, None, length, slice_index_or, unwrap_or, ◌<◌}
use Rattle.fp_model.specs.declared.parts.Arc.{Arc}
use Rattle.fp_model.specs.declared.parts.Leg.{Leg}
use Rattle.fp_model.specs.Problem.{arc_at}
use Rattle.fp_model.specs.Routes.{step as step_of}
use Rattle.fp_flatnet.specs.Directs.{BeginsFirst, IsFirstBelow}
use Rattle.fp_flatnet.specs.Distances.{time_at}
use Rattle.fp_flatnet.proofs.PartialRoutes.{IsUnderway, underway-more, underway-end, ready-small, none-begins, time-falls}
use Rattle.fp_flatnet.proofs.direct_routes.direct_route.Goals as goal

pub overflow_add-ready : goal.overflow_add-ready
overflow_add-ready c =
    let p = c.args.instance.now in
    let s = c.args.shipment.now in
    let first : BeginsFirst p c.loop-here.here s.to c.in-Some.arc =
    subst (λ (o : Option ℕ). IsFirstBelow p s.to (length p.arcs) c.loop-here.here o) c.in-Some.is (c.requires.onward.exact c.loop-here.here c.loop-here.invariant.inside) in
    omega (
      arith,
      c.step-ready.ensures.same,
      ready-small p s c.loop-here.here c.loop-here.ready c.in-Some.arc c.loop-here.legs.items c.arcs-known.ensures.valid c.requires.shipment c.loop-here.invariant first,
    )

pub loop-here-preserved : goal.loop-here-preserved
loop-here-preserved c =
    let p = c.args.instance.now in
    let s = c.args.shipment.now in
    let a = c.in-Some.arc in
    let here = c.loop-here.here in
    let ready = c.loop-here.ready in
    let legs : List Leg = c.loop-here.legs.items in
    let leg : Leg = record { arc = a; depart = ready } in
    let first : BeginsFirst p here s.to a =
    subst (λ (o : Option ℕ). IsFirstBelow p s.to (length p.arcs) here o) c.in-Some.is (c.requires.onward.exact here c.loop-here.invariant.inside) in
    let more : IsUnderway p s (arc_at p a).to (ready + step_of p a) (legs ++ (leg ∷ [])) =
    underway-more p s here ready a legs leg c.arcs-known.ensures.valid c.loop-here.invariant first refl in
    let head : (arc_at p a).to ≡ c.arc-here.result.to = ap (λ (x : Arc). x.to) (sym c.arc-here.ensures.same) in
    subst (λ (ls : List Leg). IsUnderway p s c.arc-here.result.to (ready + c.step-ready.result) ls) (sym c.in_ok-push.ensures.items)
    (subst (λ (n : ℕ). IsUnderway p s c.arc-here.result.to (ready + n) (legs ++ (leg ∷ []))) (sym c.step-ready.ensures.same)
    (subst (λ (h : ℕ). IsUnderway p s h (ready + step_of p a) (legs ++ (leg ∷ []))) head more))

pub returns : goal.returns
returns c =
    let p = c.args.instance.now in
    let s = c.args.shipment.now in
    let here = c.loop-here.here in
    underway-end p s here c.loop-here.ready c.loop-here.legs.items c.loop-here.invariant
    (none-begins p s.to (length p.arcs) here (slice_index_or c.args.onward.now here None) c.in_default.not-Some (c.requires.onward.exact here c.loop-here.invariant.inside))

pub loop-here-smaller : goal.loop-here-smaller
loop-here-smaller c =
    let p = c.args.instance.now in
    let s = c.args.shipment.now in
    let here = c.loop-here.here in
    let first : BeginsFirst p here s.to c.in-Some.arc =
    subst (λ (o : Option ℕ). IsFirstBelow p s.to (length p.arcs) here o) c.in-Some.is (c.requires.onward.exact here c.loop-here.invariant.inside) in
    let head : (arc_at p c.in-Some.arc).to ≡ c.arc-here.result.to = ap (λ (x : Arc). x.to) (sym c.arc-here.ensures.same) in
    subst (λ (h : ℕ). unwrap_or (time_at c.args.times.now h) 0 < unwrap_or (time_at c.args.times.now here) 0) head
    (time-falls p s here c.loop-here.ready c.in-Some.arc c.loop-here.legs.items c.args.times.now c.arcs-known.ensures.valid c.requires.times c.loop-here.invariant first)
