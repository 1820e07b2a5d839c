use Rattle.std.proofs.Common.{◌<◌, List, length, ap, arith}
use Rattle.fp_model.specs.declared.parts.Shipment.{Shipment}
use Rattle.fp_replan_present.specs.Plans.{HasLegsUnderway, IsStuckUnderway}
use Rattle.fp_replan_present.proofs.ShipmentParts.{none-underway}
use Rattle.fp_replan_present.proofs.parts.parts_of.Goals as goal

pub loop-number-init : goal.loop-number-init
loop-number-init c = c.no_parts-parts.ensures c.args.instance.now c.args.present.now

pub loop-number-preserved : goal.loop-number-preserved
loop-number-preserved c =
    let p = c.args.instance.now in
    let day = c.args.present.now in
    let n = c.loop-number.number in
    let told = rw c.in-Settled.is at c.in_ok-going.ensures in
    let within : n < length p.shipments = omega (arith, c.loop-number-test.true, ap (λ (ss : List Shipment). length ss) c.shipments.ensures.same) in
    c.in_ok-add_shipment-in-Settled.ensures p day c.shipments.ensures.valid c.requires within c.loop-number.invariant c.in_ok-own.ensures.legs told.0 told.1

pub returns-in-Stuck : goal.returns-in-Stuck
returns-in-Stuck c =
    let p = c.args.instance.now in
    let day = c.args.present.now in
    let n = c.loop-number.number in
    let told : HasLegsUnderway p day n → ⊥ = rw c.in-Stuck.is at c.in_ok-going.ensures in
    let stuck : IsStuckUnderway p day n = record {
      exists = omega (arith, c.loop-number-test.true, ap (λ (ss : List Shipment). length ss) c.shipments.ensures.same);
      earlier = c.loop-number.invariant.under;
      none = told;
    } in
    (stuck, none-underway p day n stuck)
