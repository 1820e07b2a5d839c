use Rattle.std.proofs.Common.{◌≡◌, ◌∙◌, ℕ, suc, ◌-◌, ◌<◌, List, [], ◌∷◌, ◌++◌, length, get_or, drop, sym, ap, subst, arith}
use Rattle.std.specs.declared.alloc.Global.{Global}
use Rattle.std.specs.declared.vec.Vec.{Vec}
use Rattle.std.proofs.Math.Seq.{drop-cons, drop-length}
use Rattle.std.proofs.lemmas.List.{length-map, map-append}
use Rattle.std.proofs.lemmas.Slice.Zip.{AllZip-long}
use Rattle.fp_base_lists.specs.Vectors.{lists_of}
use Rattle.fp_base_lists.proofs.Maps.{lists_of-get_or}
use Rattle.fp_model.specs.declared.parts.Leg.{Leg}
use Rattle.fp_model.specs.declared.parts.Shipment.{Shipment}
use Rattle.fp_model.specs.Numbered.{route_at}
use Rattle.fp_model.specs.Plans.{IsPlan}
use Rattle.fp_model.specs.Problem.{Problem}
use Rattle.fp_model.specs.Routes.{Carries}
use Rattle.fp_replan_quotes.proofs.Fronts.{IsPlan-put_in, length-before}
use Rattle.fp_replan_quotes.proofs.starts.put_in.Goals as goal

-- the last of so many
drop-last : {X : Type 0} (xs : List X) (m : ℕ) (d : X) → length xs ≡ suc m → drop m xs ≡ get_or xs m d ∷ []
drop-last xs m d is = drop-cons xs m d (omega (arith, is)) ∙ ap (λ (ys : List _). get_or xs m d ∷ ys) (ap (λ n. drop n xs) (sym is) ∙ drop-length xs)

pub index-requires : goal.index-requires
index-requires c =
    let vectors = c.direct.inside.routes.items in
    let long : length vectors ≡ length c.args.direct.now =
    sym (length-map vectors (λ (v : Vec Leg Global). v.items)) ∙ ap (λ (ls : List (List Leg)). length ls) c.direct.view_is in
    let plan : length c.args.direct.now ≡ length c.args.instance.now.shipments = AllZip-long (Carries c.args.instance.now 1) c.args.instance.now.shipments c.args.direct.now c.requires.direct in
    let shipments : length c.shipments.result.now ≡ length c.args.instance.now.shipments = ap (λ (ss : List Shipment). length ss) c.shipments.ensures.same in
    omega (arith, long, plan, shipments, c.requires.some)

pub returns-clause-routes : goal.returns-clause-routes
returns-clause-routes c =
    let p : Problem = c.args.instance.now in
    let vectors = c.direct.inside.routes.items in
    let first = c.before-2.inside.routes.items in
    let view : Vec Leg Global → List Leg = λ v. v.items in
    let long : length vectors ≡ length c.args.direct.now = sym (length-map vectors view) ∙ ap (λ (ls : List (List Leg)). length ls) c.direct.view_is in
    let plan : length c.args.direct.now ≡ length p.shipments = AllZip-long (Carries p 1) p.shipments c.args.direct.now c.requires.direct in
    let shipments : length c.shipments.result.now ≡ length p.shipments = ap (λ (ss : List Shipment). length ss) c.shipments.ensures.same in
    let last : ℕ = length c.shipments.result.now - 1 in
    let within : last < length vectors = omega (arith, long, plan, shipments, c.requires.some) in
    let before : last ≡ length c.args.before = omega (arith, length-before p 1 c.args.before c.requires.before c.requires.some, shipments) in
    let all : length c.args.direct.now ≡ suc last = omega (arith, plan, shipments, c.requires.some) in
    let route : c.in_ok-copy_legs.field-0.items ≡ route_at c.args.direct.now last =
    c.in_ok-copy_legs.ensures ∙ c.deref.ensures.value ∙ ap view c.index.ensures ∙ sym (lists_of-get_or vectors last c.index.result.now within) ∙ ap (λ (ls : List (List Leg)). route_at ls last) c.direct.view_is in
    ap (λ (vs : List (Vec Leg Global)). lists_of vs) c.in_ok-push.ensures.items
    ∙ map-append view first (c.in_ok-copy_legs.field-0 ∷ [])
    ∙ ap (λ (ls : List (List Leg)). ls ++ c.in_ok-copy_legs.field-0.items ∷ []) c.before-2.view_is
    ∙ ap (λ (r : List Leg). c.args.before ++ r ∷ []) route
    ∙ ap (λ (ls : List (List Leg)). c.args.before ++ ls) (sym (drop-last c.args.direct.now last [] all))
    ∙ ap (λ n. c.args.before ++ drop n c.args.direct.now) before

pub returns-clause-plan : goal.returns-clause-plan
returns-clause-plan c =
    subst (IsPlan c.args.instance.now 1) (sym (returns-clause-routes c)) (IsPlan-put_in c.args.instance.now 1 c.args.before c.args.direct.now c.requires.before c.requires.direct)
