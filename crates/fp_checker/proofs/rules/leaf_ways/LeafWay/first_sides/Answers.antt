use Rattle.std.proofs.Common.{◌≡◌, ◌∙◌, ℕ, ◌<◌, List, length, min, take, sym, ap, subst, arith}
use Rattle.std.proofs.Math.Nat.{min-le_right}
use Rattle.std.proofs.lemmas.List.{length-map, take_min}
use Rattle.fp_tree.specs.declared.sides.Side.{Side}
use Rattle.fp_tree.specs.Ways.{side_of, way_sides}
use Rattle.fp_checker.specs.declared.rules.leaf_ways.Entry.{Entry}
use Rattle.fp_checker.specs.LeafWays.{AskAlike, IsAdded, steps_of}
use Rattle.fp_checker.proofs.LeafWays.{asks-first}
use Rattle.fp_checker.proofs.rules.leaf_ways.LeafWay.first_sides.Goals as goal

pub loop-place-preserved : goal.loop-place-preserved
loop-place-preserved c =
    let old : List Side = c.loop-place.sides.items in
    let new : List Side = c.add_side.new.sides.items in
    let entries : List Entry = c.args.self.now.entries.items in
    let e : Entry = c.index.result.now in
    let there : c.loop-place.place < length entries = omega (arith, c.loop-place-test.true, c.min-most.ensures, min-le_right c.args.count c.len.result, c.len.ensures, c.args.self.now.entries.ok.0) in
    let added : IsAdded old (side_of e.step) new c.in_ok-add_side.field-0 =
    subst (λ (side : Side). IsAdded old side new c.in_ok-add_side.field-0) c.side.ensures c.in_ok-add_side.ensures in
    asks-first old new entries c.loop-place.place e c.in_ok-add_side.field-0 there (sym c.index.ensures) c.loop-place.invariant added

pub returns : goal.returns
returns c =
    let way : List Side = way_sides (steps_of c.args.self.now) in
    let long : c.len.result ≡ length way =
    omega (arith, c.len.ensures, c.args.self.now.entries.ok.0, length-map (steps_of c.args.self.now) side_of, length-map c.args.self.now.entries.items (λ (y : Entry). y.step)) in
    let most : c.loop-place.place ≡ min c.args.count c.len.result = omega (arith, c.loop-place-test.false, c.loop-place.auto.place-end, c.min-most.ensures) in
    let all : take c.loop-place.place way ≡ take c.args.count way =
    ap (λ (n : ℕ). take n way) (most ∙ ap (min c.args.count) long) ∙ take_min c.args.count way in
    subst (AskAlike c.loop-place.sides.items) all c.loop-place.invariant
