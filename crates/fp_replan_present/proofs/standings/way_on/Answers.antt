use Rattle.std.proofs.Common.{◌≡◌, ◌∙◌, List, length, sym, ap, subst}
use Rattle.fp_model.specs.declared.parts.Leg.{Leg}
use Rattle.fp_model.specs.declared.parts.Shipment.{Shipment}
use Rattle.fp_model.specs.Problem.{IsShipment}
use Rattle.fp_model.specs.Routes.{ArcsExist}
use Rattle.fp_replan.specs.Beginnings.{IsBeginning}
use Rattle.fp_replan.specs.KeptLegs.{places_seen}
use Rattle.fp_replan_present.specs.Plans.{gone_of, settled_legs}
use Rattle.fp_replan_present.specs.Rests.{moved}
use Rattle.fp_replan_present.proofs.ShipmentWays.{HasLegsPast-same, IsRead, begin-promised, moved-is, moved-ready, settled_legs-exist, stuck-past, way-read}
use Rattle.fp_replan_present.proofs.standings.way_on.Goals as goal

pub place_after-here-requires : goal.place_after-here-requires
place_after-here-requires c =
    let p = c.args.instance.now in
    subst (ArcsExist p) (sym (c.deref.ensures.value ∙ c.requires.own.legs)) (settled_legs-exist p c.args.present.now c.args.number c.requires.tracked)

pub terminals_with-requires : goal.terminals_with-requires
terminals_with-requires c =
    let p = c.args.instance.now in
    subst (ArcsExist p) (sym (c.deref-2.ensures.value ∙ c.requires.own.legs)) (settled_legs-exist p c.args.present.now c.args.number c.requires.tracked)

pub begun_route-requires-clause-shipment : goal.begun_route-requires-clause-shipment
begun_route-requires-clause-shipment c =
    let p = c.args.instance.now in
    let day = c.args.present.now in
    let is : c.in_ok-left.left ≡ moved p day c.args.number =
    moved-is p day c.args.number c.shipment-shipment.result.now c.in_ok-left.left c.place_after-here.result c.args.ready c.deref.result.now c.shipment-shipment.ensures.same
    (c.deref.ensures.value ∙ c.requires.own.legs) c.place_after-here.ensures c.requires.ready c.in_ok-left.ensures in
    subst (IsShipment (length p.terminals)) (sym is)
    (moved-ready p day c.args.number c.args.ready c.arcs-known.ensures.valid c.requires.tracked c.requires.number c.requires.left c.requires.ready c.requires.in_time)

pub begun_route-requires-clause-begins : goal.begun_route-requires-clause-begins
begun_route-requires-clause-begins c =
    let p = c.args.instance.now in
    let day = c.args.present.now in
    let is : c.in_ok-left.left ≡ moved p day c.args.number =
    moved-is p day c.args.number c.shipment-shipment.result.now c.in_ok-left.left c.place_after-here.result c.args.ready c.deref.result.now c.shipment-shipment.ensures.same
    (c.deref.ensures.value ∙ c.requires.own.legs) c.place_after-here.ensures c.requires.ready c.in_ok-left.ensures in
    subst (λ (s : Shipment). IsBeginning p s c.deref-3.result.now) (sym is)
    (subst (IsBeginning p (moved p day c.args.number)) (sym (c.deref-3.ensures.value ∙ c.requires.own.promised)) (begin-promised p day c.args.number c.requires.tracked))

pub returns-in-Some : goal.returns-in-Some
returns-in-Some c =
    let p = c.args.instance.now in
    let day = c.args.present.now in
    let k = c.args.number in
    let told = rw c.in-Some.is at c.in_ok-route.ensures in
    let is : c.in_ok-left.left ≡ moved p day k =
    moved-is p day k c.shipment-shipment.result.now c.in_ok-left.left c.place_after-here.result c.args.ready c.deref.result.now c.shipment-shipment.ensures.same
    (c.deref.ensures.value ∙ c.requires.own.legs) c.place_after-here.ensures c.requires.ready c.in_ok-left.ensures in
    let gone : c.in_ok-gone.gone.items ≡ gone_of p day k =
    c.in_ok-gone.ensures
    ∙ ap (λ (ls : List Leg). places_seen p c.shipment-shipment.result.now.from ls) (c.deref-2.ensures.value ∙ c.requires.own.legs)
    ∙ ap (λ (s : Shipment). places_seen p s.from (settled_legs day k)) c.shipment-shipment.ensures.same in
    let read : IsRead p day k c.in_ok-left.left c.deref-3.result.now c.deref-4.result.now = record {
      same = is;
      later = c.deref-3.ensures.value ∙ c.requires.own.promised;
      seen = c.deref-4.ensures.value ∙ gone;
    } in
    record {
      shipment = is;
      within = moved-ready p day k c.args.ready c.arcs-known.ensures.valid c.requires.tracked c.requires.number c.requires.left c.requires.ready c.requires.in_time;
      gone = gone;
      route = way-read p day k c.in_ok-left.left c.deref-3.result.now c.deref-4.result.now c.in-Some.route.items c.arcs-known.ensures.valid c.requires.tracked read told.0 told.1;
    }

pub returns-in-None : goal.returns-in-None
returns-in-None c =
    let p = c.args.instance.now in
    let day = c.args.present.now in
    let k = c.args.number in
    let told = rw c.in-None.is at c.in_ok-route.ensures in
    let is : c.in_ok-left.left ≡ moved p day k =
    moved-is p day k c.shipment-shipment.result.now c.in_ok-left.left c.place_after-here.result c.args.ready c.deref.result.now c.shipment-shipment.ensures.same
    (c.deref.ensures.value ∙ c.requires.own.legs) c.place_after-here.ensures c.requires.ready c.in_ok-left.ensures in
    let gone : c.in_ok-gone.gone.items ≡ gone_of p day k =
    c.in_ok-gone.ensures
    ∙ ap (λ (ls : List Leg). places_seen p c.shipment-shipment.result.now.from ls) (c.deref-2.ensures.value ∙ c.requires.own.legs)
    ∙ ap (λ (s : Shipment). places_seen p s.from (settled_legs day k)) c.shipment-shipment.ensures.same in
    let read : IsRead p day k c.in_ok-left.left c.deref-3.result.now c.deref-4.result.now = record {
      same = is;
      later = c.deref-3.ensures.value ∙ c.requires.own.promised;
      seen = c.deref-4.ensures.value ∙ gone;
    } in
    stuck-past p day k c.requires.left (λ has. told (HasLegsPast-same p day k c.in_ok-left.left c.deref-3.result.now c.deref-4.result.now read has))
