use Rattle.std.proofs.Common.{◌≡◌, ◌≤◌, List, [], length, sym, ap, subst, arith}
use Rattle.std.specs.declared.alloc.Global.{Global}
use Rattle.std.specs.declared.vec.Vec.{Vec}
use Rattle.std.proofs.lemmas.List.{length-map}
use Rattle.fp_base_lists.specs.Vectors.{lists_of}
use Rattle.fp_model.specs.declared.parts.Leg.{Leg}
use Rattle.fp_model.specs.declared.parts.Shipment.{Shipment}
use Rattle.fp_model.specs.Numbered.{shipment_at}
use Rattle.fp_model.specs.Routes.{Carries}
use Rattle.fp_flatnet.proofs.OneMoreElement.{each_push_map}
use Rattle.fp_replan.specs.Beginnings.{IsBeginning}
use Rattle.fp_replan.specs.KeptLegs.{kept_of}
use Rattle.fp_replan.specs.Starts.{GoesOnFrom, HasLegsFrom, IsStuck}
use Rattle.fp_replan.proofs.BegunPlans.{AreBegun, AreBegun-routes, HasLegsFrom-route, IsBegunRoute, front-read, none-kept}
use Rattle.fp_replan.proofs.BegunRoutes.{HasLegsPast-none}
use Rattle.fp_replan.proofs.KeptBeginnings.{IsBeginning-kept}
use Rattle.fp_replan.proofs.starts.start.Goals as goal

pub begun_route-requires-clause-begins : goal.begun_route-requires-clause-begins
begun_route-requires-clause-begins c =
    let p = c.args.instance.now in
    let kept = c.args.kept.now in
    let n = c.loop-number.number in
    let front = front-read kept (length c.shipments.result.now) c.in_ok-beginnings.beginnings.items c.deref-front-items.result.now n c.front-item.result c.deref.result.now
    c.deref-front-items.ensures.value c.in_ok-beginnings.ensures c.loop-number-test.true c.front-item.is c.deref.ensures.value in
    subst (λ (s : Shipment). IsBeginning p s c.deref.result.now) (sym c.shipment-shipment.ensures.same)
    (subst (λ (ls : List Leg). IsBeginning p (shipment_at p n) ls) (sym front.0) (IsBeginning-kept p kept n c.requires))

pub returns-in-None : goal.returns-in-None
returns-in-None c =
    let p = c.args.instance.now in
    let kept = c.args.kept.now in
    let n = c.loop-number.number in
    let front = front-read kept (length c.shipments.result.now) c.in_ok-beginnings.beginnings.items c.deref-front-items.result.now n c.front-item.result c.deref.result.now
    c.deref-front-items.ensures.value c.in_ok-beginnings.ensures c.loop-number-test.true c.front-item.is c.deref.ensures.value in
    let told = rw c.in-None.is at c.in_ok-route.ensures in
    let none : HasLegsFrom p (shipment_at p n) (kept_of kept n) → Unit {0} → HasLegsFrom p c.shipment-shipment.result.now c.deref.result.now =
    λ has u.
    subst (λ (s : Shipment). HasLegsFrom p s c.deref.result.now) (sym c.shipment-shipment.ensures.same)
    (subst (λ (ls : List Leg). HasLegsFrom p (shipment_at p n) ls) (sym front.0) has) in
    let stuck : IsStuck p kept n = record {
      exists = omega (arith, front.1, ap (λ (ss : List Shipment). length ss) c.shipments.ensures.same);
      earlier = λ i lt. HasLegsFrom-route p kept i _ (c.loop-number.invariant.1 i lt);
      none = λ has. told (HasLegsPast-none p c.shipment-shipment.result.now c.deref.result.now (none has tt));
    } in
    (stuck, none-kept p kept n stuck)

pub loop-number-preserved : goal.loop-number-preserved
loop-number-preserved c =
    let p = c.args.instance.now in
    let kept = c.args.kept.now in
    let n = c.loop-number.number in
    let front = front-read kept (length c.shipments.result.now) c.in_ok-beginnings.beginnings.items c.deref-front-items.result.now n c.front-item.result c.deref.result.now
    c.deref-front-items.ensures.value c.in_ok-beginnings.ensures c.loop-number-test.true c.front-item.is c.deref.ensures.value in
    let told = rw c.in-Some.is at c.in_ok-route.ensures in
    let route : List Leg = c.in-Some.route.items in
    let last : IsBegunRoute p kept n route =
    subst (λ (ls : List Leg). Carries p 1 (shipment_at p n) route × GoesOnFrom p (shipment_at p n) ls route) front.0
    (subst (λ (s : Shipment). Carries p 1 s route × GoesOnFrom p s c.deref.result.now route) c.shipment-shipment.ensures.same told) in
    each_push_map (λ (r : Vec Leg Global). r.items) (λ k legs. IsBegunRoute p kept k legs) c.loop-number.routes.items c.add_route.new.routes.items c.in-Some.route [] n
    c.in_ok-add_route-in-Some.ensures c.loop-number.invariant.0 c.loop-number.invariant.1 last

pub returns : goal.returns
returns c =
    let p = c.args.instance.now in
    let kept = c.args.kept.now in
    let n = c.loop-number.number in
    let vectors = c.in_ok-beginnings.beginnings.items in
    let items : length c.deref-front-items.result.now ≡ length vectors = ap (λ (vs : List (Vec Leg Global)). length vs) c.deref-front-items.ensures.value in
    let lists : length (lists_of vectors) ≡ length vectors = length-map vectors (λ (v : Vec Leg Global). v.items) in
    let shipments : length c.shipments.result.now ≡ length p.shipments = ap (λ (ss : List Shipment). length ss) c.shipments.ensures.same in
    let all : length p.shipments ≤ n = omega (arith, c.loop-number-test.false, items, lists, shipments, c.in_ok-beginnings.ensures.one_each) in
    let few : n ≤ length p.shipments = omega (arith, c.loop-number.auto.number-end, items, lists, shipments, c.in_ok-beginnings.ensures.one_each) in
    let made : AreBegun p kept (lists_of c.loop-number.routes.items) =
    AreBegun-routes p kept (lists_of c.loop-number.routes.items) (omega (arith, all, few, c.loop-number.invariant.0)) (λ k lt. c.loop-number.invariant.1 k (omega (arith, lt, all))) in
    (made.plan, made.keeps, made.go_on)
