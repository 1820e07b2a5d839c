use Rattle.std.proofs.Common.{◌≡◌, ◌<◌, ◌≤◌, length, sym, ◌∙◌, below_more}
use Rattle.std.proofs.lemmas.Bool.{false≢true}
use Rattle.fp_model.specs.Numbered.{shipment_at}
use Rattle.fp_flatnet.specs.Verdicts.{IsInTime, IsBlocked}
use Rattle.fp_flatnet.proofs.PlanExistence.{PlanExists-from_in_time, no_plan-blocked}
use Rattle.fp_flatnet.proofs.FastestTimes.{AllInTime-from_each}
use Rattle.fp_flatnet.proofs.FastestTimes.{IsBlocked-late, IsInTime-arrives, shipment_read}
use Rattle.fp_flatnet.proofs.verdicts.feasible.Goals as goal

pub returns-then-not-is_in_time-clause-no_plan : goal.returns-then-not-is_in_time-clause-no_plan
returns-then-not-is_in_time-clause-no_plan c =
    let p = c.args.instance.now in
    let k = c.loop-number.number in
    let same : c.shipment-item.result ≡ shipment_at p k =
    shipment_read p c.shipments-shipment-items.result.now k c.shipment-item.result c.shipments-shipment-items.ensures.same c.shipment-item.is c.loop-number-test.true in
    let exists : k < length p.shipments = rw (← c.shipments-shipment-items.ensures.same) c.loop-number-test.true in
    let blocked : IsBlocked p k c.in_ok-distance.distance =
    IsBlocked-late p k c.shipment-item.result c.in_ok-distance.distance exists same c.loop-number.invariant c.in_ok-distance.ensures
    (λ arrives. false≢true (sym c.if-not-is_in_time.true ∙ c.is_in_time.ensures.1 arrives)) in
    λ other plan. no_plan-blocked p k c.in_ok-distance.distance blocked plan

pub loop-number-preserved : goal.loop-number-preserved
loop-number-preserved c =
    let p = c.args.instance.now in
    let k = c.loop-number.number in
    let same : c.shipment-item.result ≡ shipment_at p k =
    shipment_read p c.shipments-shipment-items.result.now k c.shipment-item.result c.shipments-shipment-items.ensures.same c.shipment-item.is c.loop-number-test.true in
    below_more (λ i. IsInTime p (shipment_at p i)) k c.loop-number.invariant
    (IsInTime-arrives p k c.shipment-item.result c.in_ok-distance.distance same c.in_ok-distance.ensures (c.is_in_time.ensures.0 c.if-not-is_in_time.false))

pub returns-clause-verdict : goal.returns-clause-verdict
returns-clause-verdict c =
    let p = c.args.instance.now in
    let all : length p.shipments ≤ c.loop-number.number = rw (← c.shipments-shipment-items.ensures.same) c.loop-number-test.false in
    AllInTime-from_each p c.loop-number.number all c.loop-number.invariant

pub returns-clause-some_plan : goal.returns-clause-some_plan
returns-clause-some_plan c =
    let p = c.args.instance.now in
    let all : length p.shipments ≤ c.loop-number.number = rw (← c.shipments-shipment-items.ensures.same) c.loop-number-test.false in
    λ same. PlanExists-from_in_time p c.shipments-shipment-items.ensures.valid (AllInTime-from_each p c.loop-number.number all c.loop-number.invariant)
