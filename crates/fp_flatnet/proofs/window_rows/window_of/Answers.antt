use Rattle.fp_model.specs.Problem.{arc_at}
use Rattle.fp_flatnet.proofs.LeastWalks.{distance-small}
use Rattle.fp_flatnet.proofs.window_rows.window_of.Goals as goal

pub time_before-requires-clause-small : goal.time_before-requires-clause-small
time_before-requires-clause-small c =
    let p = c.args.instance.now in
    let a = c.args.number in
    distance-small p c.args.shipment.now.from (arc_at p a).from c.args.to_tail c.in_ok-to_tail.field-0 c.arc-arc.ensures.valid c.requires.to_tail c.in_ok-to_tail.was

pub time_onward-after-requires-clause-small : goal.time_onward-after-requires-clause-small
time_onward-after-requires-clause-small c =
    let p = c.args.instance.now in
    let a = c.args.number in
    distance-small p (arc_at p a).to c.args.shipment.now.to c.args.from_head c.in_ok-from_head.field-0 c.arc-arc.ensures.valid c.requires.from_head c.in_ok-from_head.was
