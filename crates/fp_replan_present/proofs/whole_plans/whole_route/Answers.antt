use Rattle.std.proofs.Common.{◌≡◌, ◌<◌, ◌∙◌, ◌++◌, List, [], length, true, sym, ap, arith}
use Rattle.std.specs.Prelude.{cond}
use Rattle.std.specs.declared.alloc.Global.{Global}
use Rattle.std.specs.declared.vec.Vec.{Vec}
use Rattle.std.proofs.lemmas.List.{length-map}
use Rattle.fp_base_lists.specs.Ascending.{place_in}
use Rattle.fp_base_lists.specs.Membership.{list_has}
use Rattle.fp_base_lists.proofs.Maps.{lists_of-get_or}
use Rattle.fp_base_lists.proofs.Places.{get_or-place_in}
use Rattle.fp_model.specs.declared.parts.Leg.{Leg}
use Rattle.fp_model.specs.Numbered.{route_at}
use Rattle.fp_replan_present.proofs.whole_plans.whole_route.Goals as goal

pub index-onward-requires : goal.index-onward-requires
index-onward-requires c =
    let numbers = c.args.numbers.now in
    let has : list_has numbers c.args.number ≡ true = sym c.is_among.ensures ∙ c.if-not-is_among.false in
    let long : length c.plan.inside.routes.items ≡ length numbers =
    sym (length-map c.plan.inside.routes.items (λ (v : Vec Leg Global). v.items)) ∙ ap (λ (ls : List (List Leg)). length ls) c.plan.view_is ∙ c.requires.plan in
    omega (arith, (get_or-place_in numbers c.args.number c.requires.ascend has).0, c.place_among-place.ensures, long)

pub returns : goal.returns
returns c =
    let numbers = c.args.numbers.now in
    let vectors = c.plan.inside.routes.items in
    let place = c.place_among-place.result in
    let has : list_has numbers c.args.number ≡ true = sym c.is_among.ensures ∙ c.if-not-is_among.false in
    let long : length vectors ≡ length numbers =
    sym (length-map vectors (λ (v : Vec Leg Global). v.items)) ∙ ap (λ (ls : List (List Leg)). length ls) c.plan.view_is ∙ c.requires.plan in
    let within : place < length vectors = omega (arith, (get_or-place_in numbers c.args.number c.requires.ascend has).0, c.place_among-place.ensures, long) in
    let onward : c.deref.result.now ≡ route_at c.args.plan.now (place_in numbers c.args.number) =
    c.deref.ensures.value
    ∙ ap (λ (v : Vec Leg Global). v.items) c.index-onward.ensures
    ∙ sym (lists_of-get_or vectors place c.index-onward.result.now within)
    ∙ ap (λ (ls : List (List Leg)). route_at ls place) c.plan.view_is
    ∙ ap (λ k. route_at c.args.plan.now k) c.place_among-place.ensures in
    c.in_ok-extend_from_slice.ensures.items
    ∙ ap (λ (ls : List Leg). ls ++ c.deref.result.now) c.in_ok-legs.ensures
    ∙ ap (λ (ls : List Leg). c.args.settled.now ++ ls) onward
    ∙ ap (λ b. c.args.settled.now ++ cond b (route_at c.args.plan.now (place_in numbers c.args.number)) []) (sym has)
