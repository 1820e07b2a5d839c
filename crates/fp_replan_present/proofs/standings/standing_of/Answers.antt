use Rattle.std.proofs.Common.{◌≡◌, ◌≢◌, ◌<◌, ◌≤◌, ◌∙◌, sym, ap, subst, arith}
use Rattle.fp_model.specs.declared.parts.Shipment.{Shipment}
use Rattle.fp_model.specs.Numbered.{shipment_at}
use Rattle.fp_model.specs.Routes.{ArcsExist}
use Rattle.fp_replan_present.specs.Arrivals.{AllExist}
use Rattle.fp_replan_present.specs.Days.{Day, from_now, last_arrival, settled_ready}
use Rattle.fp_replan_present.specs.Plans.{place_of, ready_of, settled_of}
use Rattle.fp_replan_present.proofs.ShipmentWays.{delivered-from_there, left-from_away, place-is, settled-exist, settled_legs-exist, stuck-after, stuck-late}
use Rattle.fp_replan_present.proofs.standings.standing_of.Goals as goal

pub settled_ready-requires : goal.settled_ready-requires
settled_ready-requires c =
    subst (AllExist c.args.instance.now) (sym (c.deref.ensures.value ∙ c.requires.own.settled))
    (settled-exist c.args.instance.now c.args.present.now c.args.number c.requires.tracked)

pub place_after-requires : goal.place_after-requires
place_after-requires c =
    subst (ArcsExist c.args.instance.now) (sym (c.deref-2.ensures.value ∙ c.requires.own.legs))
    (settled_legs-exist c.args.instance.now c.args.present.now c.args.number c.requires.tracked)

pub last_arrival-requires : goal.last_arrival-requires
last_arrival-requires c =
    subst (AllExist c.args.instance.now) (sym (c.deref-then-place_after-shipment.ensures.value ∙ c.requires.own.settled))
    (settled-exist c.args.instance.now c.args.present.now c.args.number c.requires.tracked)

pub returns-then-place_after-shipment : goal.returns-then-place_after-shipment
returns-then-place_after-shipment c =
    let p = c.args.instance.now in
    let day = c.args.present.now in
    let k = c.args.number in
    let same = c.shipment-shipment.ensures.same in
    let place : c.place_after.result ≡ place_of p day k =
    place-is p day k c.shipment-shipment.result.now c.place_after.result c.deref-2.result.now same (c.deref-2.ensures.value ∙ c.requires.own.legs) c.place_after.ensures in
    let there : place_of p day k ≡ (shipment_at p k).to = sym place ∙ c.if-place_after-shipment.true ∙ ap (λ (s : Shipment). s.to) same in
    let last : c.last_arrival.result ≡ last_arrival p 0 (settled_of day k) =
    c.last_arrival.ensures ∙ ap (last_arrival p 0) (c.deref-then-place_after-shipment.ensures.value ∙ c.requires.own.settled) in
    stuck-late p day k (delivered-from_there p day k there)
    (λ (in_time : last_arrival p 0 (settled_of day k) ≤ (shipment_at p k).due). omega (arith, in_time, c.if-last_arrival-from.false, c.from.ensures, last, ap (λ (s : Shipment). s.due) same))

pub returns-then-ready-from : goal.returns-then-ready-from
returns-then-ready-from c =
    let p = c.args.instance.now in
    let day = c.args.present.now in
    let k = c.args.number in
    let same = c.shipment-shipment.ensures.same in
    let place : c.place_after.result ≡ place_of p day k =
    place-is p day k c.shipment-shipment.result.now c.place_after.result c.deref-2.result.now same (c.deref-2.ensures.value ∙ c.requires.own.legs) c.place_after.ensures in
    let away : place_of p day k ≢ (shipment_at p k).to = λ there. c.if-place_after-shipment.false (place ∙ there ∙ sym (ap (λ (s : Shipment). s.to) same)) in
    let settled : c.in-Some.settled ≡ settled_ready p (shipment_at p k).release (settled_of day k) =
    c.in-Some.ensures.ready.1
    ∙ ap (settled_ready p c.shipment-shipment.result.now.release) (c.deref.ensures.value ∙ c.requires.own.settled)
    ∙ ap (λ (s : Shipment). settled_ready p s.release (settled_of day k)) same in
    let ready : c.from_now-ready.result ≡ ready_of p day k =
    c.from_now-ready.ensures ∙ ap (λ t. from_now t c.in-Some.settled) (ap (λ (d : Day). d.time) c.present.view_is) ∙ ap (from_now day.time) settled in
    let after : (shipment_at p k).due < ready_of p day k = omega (arith, c.if-ready-from.true, c.from-2.ensures, ready, ap (λ (s : Shipment). s.due) same) in
    stuck-after p day k (left-from_away p day k away) after
