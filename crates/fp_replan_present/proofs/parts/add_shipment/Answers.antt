use Rattle.std.proofs.Common.{refl, subst}
use Rattle.fp_replan_present.specs.Standings.{IsWay}
use Rattle.fp_replan_present.proofs.ShipmentParts.{AreParts-delivered, AreParts-left}
use Rattle.fp_replan_present.proofs.parts.add_shipment.Goals as goal

pub returns-in_ok-push-in-Some-4 : goal.returns-in_ok-push-in-Some-4
returns-in_ok-push-in-Some-4 c =
    λ p day valid tracked lt are own settled way.
    let on = subst (IsWay p day c.args.number) c.in-Some.is way in
    AreParts-left p day c.args.number c.args.parts.now _ c.args.legs c.in-Some.going tracked are own settled on.0 on.1 c.in_ok-push-in-Some.ensures.items c.in_ok-push-in-Some-2.ensures.items
    c.in_ok-push-in-Some-3.ensures.items c.in_ok-push-in-Some-4.ensures.items c.in_ok-push.ensures.items

pub returns-in-None : goal.returns-in-None
returns-in-None c =
    λ p day valid tracked lt are own settled way.
    let delivered = subst (IsWay p day c.args.number) c.in-None.is way in
    AreParts-delivered p day c.args.number c.args.parts.now _ c.args.legs valid tracked lt are own settled delivered refl refl refl refl c.in_ok-push.ensures.items
