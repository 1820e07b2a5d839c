use Rattle.std.proofs.Common.{refl, rules}
use Rattle.fp_app.specs.Plans.{IsToldPlan}
use Rattle.fp_app.proofs.SmallestFleets.{AreTruckLines-told, IsSmallestFleet-told}
use Rattle.fp_app.proofs.commands.fleets.plan_fleet.Goals as goal

pub truck_days-requires-clause-accepted : goal.truck_days-requires-clause-accepted
truck_days-requires-clause-accepted c = λ lines are. (c.in_ok-fleet-in-Ok.ensures.fewest lines are).accepted

pub returns-then-not-trucks-clause-shown : goal.returns-then-not-trucks-clause-shown
returns-then-not-trucks-clause-shown c = λ wanted windows.
    let told : IsToldPlan c.args.instance wanted c.args.certificate.now c.in-Ok.plan = rw c.in-Ok.is at (c.plan_within.ensures.told wanted windows) in (
      c.if-not-trucks.true,
      refl,
      told,
      IsSmallestFleet-told c.args.instance wanted c.args.certificate.now c.in-Ok.plan c.in_ok-fleet-in-Ok.fleet told c.in_ok-fleet-in-Ok.ensures.fewest,
    )

pub returns-in-Ok-clause-shown : goal.returns-in-Ok-clause-shown
returns-in-Ok-clause-shown c = λ wanted windows.
    let told : IsToldPlan c.args.instance wanted c.args.certificate.now c.in-Ok.plan = rw c.in-Ok.is at (c.plan_within.ensures.told wanted windows) in (
      c.if-not-trucks.false,
      refl,
      told,
      IsSmallestFleet-told c.args.instance wanted c.args.certificate.now c.in-Ok.plan c.in_ok-fleet-in-Ok.fleet told c.in_ok-fleet-in-Ok.ensures.fewest,
      c.in_ok-told-in-Ok.ensures.told c.args.certificate.now.trucks (AreTruckLines-told c.args.instance wanted c.args.certificate.now c.in-Ok.plan told),
    )

pub returns-in-Err-Part-clause-shown : goal.returns-in-Err-Part-clause-shown
returns-in-Err-Part-clause-shown c = λ wanted windows. c.in-Err-Part.ensures.part wanted _ windows (search rules)
