use Rattle.std.proofs.Common.{◌≤◌, List, length, take_all, ap, subst, arith}
use Rattle.fp_base_lists.specs.Vectors.{lists_of}
use Rattle.fp_fleet.specs.declared.fleets.Turn.{Turn}
use Rattle.fp_fleet.specs.Fleets.{Assignment}
use Rattle.fp_fleet.specs.Queues.{AreQueued}
use Rattle.fp_fleet.proofs.GivenTrucks.{AreTruckDays-queued}
use Rattle.fp_fleet.proofs.single_trucks.days_of.Goals as goal

pub returns : goal.returns
returns c =
    let q = c.loop-place-2.queues in
    let fleet : Assignment = c.args.fleet.now in
    let long : length fleet.turns ≤ c.loop-place-2.place = omega (arith, ap (λ (f : Assignment). length f.turns) c.fleet.view_is) in
    AreTruckDays-queued c.args.instance.now c.args.lines.now fleet (lists_of q.days.items) (lists_of q.queues.items) q.heads.items c.requires
    (subst (λ (ts : List Turn). AreQueued c.args.instance.now c.args.lines.now fleet.begins ts (lists_of q.days.items) (lists_of q.queues.items) q.heads.items)
    (take_all c.loop-place-2.place fleet.turns long) c.loop-place-2.invariant)
