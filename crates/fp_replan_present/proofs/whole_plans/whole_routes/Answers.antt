use Rattle.std.proofs.Common.{◌≡◌, ◌<◌, ◌∙◌, ◌++◌, List, [], length, get_or, sym, ap, arith}
use Rattle.std.specs.Prelude.{cond}
use Rattle.std.specs.declared.alloc.Global.{Global}
use Rattle.std.specs.declared.vec.Vec.{Vec}
use Rattle.std.proofs.lemmas.List.{length-map}
use Rattle.fp_base_lists.specs.Ascending.{place_in}
use Rattle.fp_base_lists.specs.Membership.{list_has}
use Rattle.fp_base_lists.proofs.Maps.{lists_of-get_or}
use Rattle.fp_model.specs.declared.parts.Leg.{Leg}
use Rattle.fp_model.specs.Numbered.{route_at}
use Rattle.fp_flatnet.proofs.OneMoreElement.{each_push_map}
use Rattle.fp_replan_present.proofs.whole_plans.whole_routes.Goals as goal

pub overflow_cast-number : goal.overflow_cast-number
overflow_cast-number c =
    let vectors = c.settled.inside.routes.items in
    let long : length vectors ≡ length c.args.settled.now =
    sym (length-map vectors (λ (v : Vec Leg Global). v.items)) ∙ ap (λ (ls : List (List Leg)). length ls) c.settled.view_is in
    omega (arith, c.loop-number-test.true, c.deref-legs-items.ensures.len, ap (λ (vs : List (Vec Leg Global)). length vs) c.deref-legs-items.ensures.value, long, c.requires.few_settled)

pub loop-number-preserved : goal.loop-number-preserved
loop-number-preserved c =
    let numbers = c.args.numbers.now in
    let plan = c.args.plan.now in
    let settled = c.args.settled.now in
    let n = c.loop-number.number in
    let vectors = c.settled.inside.routes.items in
    let within : n < length vectors = omega (arith, c.loop-number-test.true, ap (λ (vs : List (Vec Leg Global)). length vs) c.deref-legs-items.ensures.value) in
    let legs : c.deref.result.now ≡ route_at settled n =
    c.deref.ensures.value
    ∙ ap (λ (v : Vec Leg Global). v.items) c.legs-item.is
    ∙ ap (λ (vs : List (Vec Leg Global)). (get_or vs n c.legs-item.result).items) c.deref-legs-items.ensures.value
    ∙ sym (lists_of-get_or vectors n c.legs-item.result within)
    ∙ ap (λ (ls : List (List Leg)). route_at ls n) c.settled.view_is in
    let last : c.in_ok-whole_route.field-0.items ≡ route_at settled n ++ cond (list_has numbers n) (route_at plan (place_in numbers n)) [] =
    c.in_ok-whole_route.ensures ∙ ap (λ (ls : List Leg). ls ++ cond (list_has numbers n) (route_at plan (place_in numbers n)) []) legs in
    each_push_map (λ (v : Vec Leg Global). v.items) (λ k ls. ls ≡ route_at settled k ++ cond (list_has numbers k) (route_at plan (place_in numbers k)) []) c.loop-number.routes.items c.push.new.self.items
    c.in_ok-whole_route.field-0 [] n c.in_ok-push.ensures.items c.loop-number.invariant.0 c.loop-number.invariant.1 last

pub returns : goal.returns
returns c =
    let vectors = c.settled.inside.routes.items in
    let whole : length c.deref-legs-items.result.now ≡ length c.args.settled.now =
    ap (λ (vs : List (Vec Leg Global)). length vs) c.deref-legs-items.ensures.value
    ∙ sym (length-map vectors (λ (v : Vec Leg Global). v.items))
    ∙ ap (λ (ls : List (List Leg)). length ls) c.settled.view_is in
    let all : c.loop-number.number ≡ length c.args.settled.now = omega (arith, whole, c.loop-number-test.false, c.loop-number.auto.number-end) in
    record { long = c.loop-number.invariant.0 ∙ all; each = λ k lt. c.loop-number.invariant.1 k (omega (arith, lt, all)) }
