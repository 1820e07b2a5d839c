use Rattle.std.proofs.Common.{arith, ap, length, refl}
use Rattle.fp_base_lists.specs.Vectors.{lists_of}
use Rattle.fp_model.proofs.Bounds.{length-lists_of}
use Rattle.fp_model.proofs.FirstFaults.{first_of_all, faultless_more, plan_after_all}
use Rattle.fp_model.proofs.faults.first_fault.Goals as goal

pub returns-in-Some-clause-fault : goal.returns-in-Some-clause-fault
returns-in-Some-clause-fault c =
    first_of_all c.args.instance.now (lists_of c.args.routes.now) c.in-Some.kind c.loop-shipment.shipment c.in-Some.leg
    (omega (arith, ap length c.shipments-count.ensures.same))
    (omega (arith, length-lists_of c.args.routes.now, ap length c.shipments-count.ensures.same))
    c.loop-shipment.invariant
    c.in-Some.ensures.first

pub loop-shipment-preserved : goal.loop-shipment-preserved
loop-shipment-preserved c =
    faultless_more c.args.instance.now (lists_of c.args.routes.now) c.loop-shipment.shipment
    (omega (arith, length-lists_of c.args.routes.now, ap length c.shipments-count.ensures.same))
    c.loop-shipment.invariant
    (c.in_default.ensures.none refl)

pub returns-clause-none : goal.returns-clause-none
returns-clause-none c = λ none.
    plan_after_all c.args.instance.now (lists_of c.args.routes.now) c.loop-shipment.shipment
    (omega (arith, length-lists_of c.args.routes.now, ap length c.shipments-count.ensures.same))
    (omega (arith, ap length c.shipments-count.ensures.same))
    c.loop-shipment.invariant
