use Rattle.std.proofs.Common.{◌∙◌, ◌++◌, [], ◌∷◌, ℕ, ◌<◌, List, length, set, sym, ap, subst, arith}
use Rattle.std.specs.declared.alloc.Global.{Global}
use Rattle.std.specs.declared.vec.Vec.{Vec}
use Rattle.fp_tree.specs.declared.sides.Side.{Side}
use Rattle.fp_checker.specs.declared.rules.narrow_sides.Change.TheVariants.{Added, Replaced}
use Rattle.fp_checker.specs.LeafWays.{IsAdded}
use Rattle.fp_checker.proofs.NarrowSides.{added-implied, added-last, added-replaced}
use Rattle.fp_checker.proofs.rules.narrow_sides.add_side.Goals as goal

pub returns-then-implies : goal.returns-then-implies
returns-then-implies c =
    let sides : List Side = c.loop-place.sides.items in
    let place : ℕ = c.loop-place.place in
    let inside : place < length sides = omega (arith, c.loop-place.sides.ok.0, ap (λ (v : Vec Side Global). v.len) c.loop-place.invariant, c.len-place-end.ensures) in
    subst (λ (old : List Side). IsAdded old c.args.side (set sides place c.args.side) (Replaced place c.index-old.result.now)) (ap (λ (v : Vec Side Global). v.items) c.loop-place.invariant)
    (added-replaced sides place c.args.side c.index-old.result.now inside c.index-old.ensures (c.implies.ensures c.if-implies.true))

pub returns-then-implies-2 : goal.returns-then-implies-2
returns-then-implies-2 c =
    let sides : List Side = c.loop-place.sides.items in
    let place : ℕ = c.loop-place.place in
    let inside : place < length sides = omega (arith, c.loop-place.sides.ok.0, ap (λ (v : Vec Side Global). v.len) c.loop-place.invariant, c.len-place-end.ensures) in
    subst (λ (old : List Side). IsAdded old c.args.side sides (Replaced place c.index-old.result.now)) (ap (λ (v : Vec Side Global). v.items) c.loop-place.invariant)
    (added-implied sides place c.args.side c.index-old.result.now inside c.index-old.ensures (c.implies-in-loop-place.ensures c.if-implies-2.true))

pub returns : goal.returns
returns c =
    let sides : List Side = c.args.sides.now.items in
    subst (λ (new : List Side). IsAdded sides c.args.side new Added) (sym (c.in_ok-push.ensures.items ∙ ap (λ (v : Vec Side Global). v.items ++ c.args.side ∷ []) c.loop-place.invariant)) (added-last sides c.args.side)
