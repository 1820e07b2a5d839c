use Rattle.std.proofs.Common.{◌≡◌, ◌≤◌, ◌<◌, [], length, sym, subst, arith}
use Rattle.std.specs.declared.alloc.Global.{Global}
use Rattle.std.specs.declared.vec.Vec.{Vec}
use Rattle.fp_model.specs.declared.parts.Leg.{Leg}
use Rattle.fp_model.specs.declared.parts.Shipment.{Shipment}
use Rattle.fp_base_lists.specs.Vectors.{lists_of}
use Rattle.fp_model.specs.Numbered.{no_shipment, shipment_at}
use Rattle.fp_base_lists.proofs.Numbered.{AllZip-from_get_or}
use Rattle.fp_flatnet.specs.Directs.{IsDirect, IsDirectPlan}
use Rattle.fp_flatnet.specs.Verdicts.{IsInTime}
use Rattle.fp_flatnet.proofs.DirectRoutes.{IsPlan-from_direct}
use Rattle.fp_flatnet.proofs.OneMoreElement.{each_push_map}
use Rattle.fp_flatnet.proofs.FastestTimes.{shipment_read}
use Rattle.fp_flatnet.proofs.direct_routes.direct.Goals as goal

pub direct_route-requires-clause-in_time : goal.direct_route-requires-clause-in_time
direct_route-requires-clause-in_time c =
    let p = c.args.instance.now in
    let k = c.loop-shipment.shipment-index in
    let same : c.shipment-item.result ≡ shipment_at p k =
    shipment_read p c.shipments-shipment-items.result.now k c.shipment-item.result c.shipments-shipment-items.ensures.same c.shipment-item.is c.loop-shipment-test.true in
    let exists : k < length p.shipments = rw (← c.shipments-shipment-items.ensures.same) c.loop-shipment-test.true in
    subst (λ (s : Shipment). IsInTime p s) (sym same) (c.requires k no_shipment exists)

pub returns-clause-exact : goal.returns-clause-exact
returns-clause-exact c =
    let p = c.args.instance.now in
    let all : length p.shipments ≤ c.loop-shipment.shipment-index = rw (← c.shipments-shipment-items.ensures.same) c.loop-shipment-test.false in
    let few : c.loop-shipment.shipment-index ≤ length p.shipments = rw (← c.shipments-shipment-items.ensures.same) c.loop-shipment.auto.shipment-index-end in
    AllZip-from_get_or (IsDirect p) p.shipments (lists_of c.loop-shipment.routes.items) no_shipment [] (omega (arith, all, few, c.loop-shipment.invariant.0))
    (λ k lt. c.loop-shipment.invariant.1 k (omega (arith, lt, all)))

pub returns-clause-plan : goal.returns-clause-plan
returns-clause-plan c =
    let p = c.args.instance.now in
    let all : length p.shipments ≤ c.loop-shipment.shipment-index = rw (← c.shipments-shipment-items.ensures.same) c.loop-shipment-test.false in
    let few : c.loop-shipment.shipment-index ≤ length p.shipments = rw (← c.shipments-shipment-items.ensures.same) c.loop-shipment.auto.shipment-index-end in
    let exact : IsDirectPlan p (lists_of c.loop-shipment.routes.items) =
    AllZip-from_get_or (IsDirect p) p.shipments (lists_of c.loop-shipment.routes.items) no_shipment [] (omega (arith, all, few, c.loop-shipment.invariant.0))
    (λ k lt. c.loop-shipment.invariant.1 k (omega (arith, lt, all))) in
    IsPlan-from_direct p (lists_of c.loop-shipment.routes.items) c.shipments-shipment-items.ensures.valid c.requires exact

pub loop-shipment-preserved : goal.loop-shipment-preserved
loop-shipment-preserved c =
    let p = c.args.instance.now in
    let n = c.loop-shipment.shipment-index in
    let same : c.shipment-item.result ≡ shipment_at p n =
    shipment_read p c.shipments-shipment-items.result.now n c.shipment-item.result c.shipments-shipment-items.ensures.same c.shipment-item.is c.loop-shipment-test.true in
    let legs = c.in_ok-direct_route.field-0 in
    let last : IsDirect p (shipment_at p n) legs.items = subst (λ (s : Shipment). IsDirect p s legs.items) same c.in_ok-direct_route.ensures in
    each_push_map (λ (r : Vec Leg Global). r.items) (λ k. IsDirect p (shipment_at p k)) c.loop-shipment.routes.items c.push.new.self.items legs [] n
    c.in_ok-push.ensures.items c.loop-shipment.invariant.0 c.loop-shipment.invariant.1 last
