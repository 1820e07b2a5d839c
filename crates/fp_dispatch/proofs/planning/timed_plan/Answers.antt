use Rattle.std.proofs.Common.{◌≡◌, ◌∙◌, ◌+◌, ◌*◌, ◌<◌, ◌≤◌, ℕ, List, [], ◌∷◌, ◌++◌, length, get_or, take, sym, ap, subst, arith}
use Rattle.std.proofs.lemmas.List.{map-append}
use Rattle.std.proofs.Math.Nat.{mul-le-mul_left}
use Rattle.std.specs.declared.alloc.Global.{Global}
use Rattle.std.specs.declared.vec.Vec.{Vec}
use Rattle.fp_base_lists.specs.Vectors.{lists_of}
use Rattle.fp_model.specs.declared.parts.Leg.{Leg}
use Rattle.fp_model.specs.declared.parts.Member.{Member}
use Rattle.fp_model.specs.Members.{IsMemberOf, arc_lists}
use Rattle.fp_dispatch.specs.Rising.{value_at}
use Rattle.fp_dispatch.specs.Times.{departure}
use Rattle.fp_dispatch.proofs.TimedLegs.{arc_lists-push, departures-push}
use Rattle.fp_dispatch.proofs.VectorItems.{length-lists_of, lists_of-item}
use Rattle.fp_dispatch.proofs.planning.timed_plan.Goals as goal

pub timed_route-requires : goal.timed_route-requires
timed_route-requires c =
    let v = c.index-routes-shipment.result in
    let k : ℕ = c.loop-shipment.shipment in
    let lt : k < length (lists_of c.args.routes.now) = omega (arith, length-lists_of c.args.routes.now) in
    let item : get_or (lists_of c.args.routes.now) k [] ≡ v.items = lists_of-item c.args.routes.now k v [] (omega arith) c.index-routes-shipment.is in
    let narrow : length (get_or (lists_of c.args.routes.now) k []) ≤ c.args.width = c.requires.wide k [] lt in
    let row : c.args.width * (k + 1) ≤ c.args.width * length c.args.routes.now = mul-le-mul_left c.args.width (let e : k + 1 ≤ length c.args.routes.now = omega arith in e) in
    omega (arith, narrow, row, ap (λ (ns : List ℕ). length ns) item, c.requires.long, ap (λ (ns : List ℕ). length ns) c.deref.ensures.value)

pub loop-shipment-preserved : goal.loop-shipment-preserved
loop-shipment-preserved c =
    let v = c.index-routes-shipment.result in
    let k : ℕ = c.loop-shipment.shipment in
    let routes : List (List ℕ) = lists_of c.args.routes.now in
    let lt : k < length routes = omega (arith, length-lists_of c.args.routes.now) in
    let item : get_or routes k [] ≡ c.deref.result.now = lists_of-item c.args.routes.now k v [] (omega arith) c.index-routes-shipment.is ∙ sym c.deref.ensures.value in
    let legs : Vec Leg Global = c.in_ok-timed_route.field-0 in
    let pushed : c.push.new.self.items ≡ c.loop-shipment.plan.items ++ legs ∷ [] = c.in_ok-push.ensures.items in
    let lists : lists_of c.push.new.self.items ≡ lists_of c.loop-shipment.plan.items ++ legs.items ∷ [] =
    ap lists_of pushed ∙ map-append (λ (w : Vec Leg Global). w.items) c.loop-shipment.plan.items (legs ∷ []) in
    record {
      long = omega (arith, c.in_ok-push.ensures.len);
      arcs = subst (λ (ls : List (List Leg)). arc_lists ls ≡ take (k + 1) routes) (sym lists)
          (arc_lists-push (lists_of c.loop-shipment.plan.items) legs.items routes k c.loop-shipment.invariant.arcs lt (c.in_ok-timed_route.ensures.arcs ∙ sym item));
      times = subst (λ (ls : List (List Leg)). (m : Member) → IsMemberOf routes m → m.shipment < k + 1 → departure ls m ≡ value_at c.args.width c.args.values.now m) (sym lists)
          (departures-push (lists_of c.loop-shipment.plan.items) legs.items routes c.args.values.now c.args.width k
          (length-lists_of c.loop-shipment.plan.items ∙ c.loop-shipment.invariant.long) c.loop-shipment.invariant.times
          (λ i less. c.in_ok-timed_route.ensures.times i (omega (arith, less, ap (λ (ns : List ℕ). length ns) item))));
    }
