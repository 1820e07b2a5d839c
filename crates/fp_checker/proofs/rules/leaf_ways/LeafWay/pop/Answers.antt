use Rattle.std.proofs.Common.{ℕ, ◌*◌, ◌/◌, ◌≤◌, List, [], ◌∷◌, ◌++◌, length, map, take, sym, ap, ◌∙◌, subst, arith}
use Rattle.std.specs.declared.alloc.Global.{Global}
use Rattle.std.specs.declared.vec.Vec.{Vec}
use Rattle.std.proofs.Math.Nat.{min-le_left}
use Rattle.std.proofs.lemmas.List.{length-map, length-take, map-append}
use Rattle.fp_tree.specs.declared.sides.Side.{Side}
use Rattle.fp_checker.specs.declared.rules.leaf_ways.Entry.{Entry}
use Rattle.fp_tree.specs.declared.ways.Step.{Step}
use Rattle.fp_checker.specs.declared.rules.leaf_ways.TheConstants.{SPACING}
use Rattle.fp_checker.specs.LeafWays.{AreCheckpoints, ComesBy}
use Rattle.fp_checker.proofs.LeafWays.{checkpoints-first, checkpoints-less, comes-less}
use Rattle.fp_checker.proofs.rules.leaf_ways.LeafWay.pop.Goals as goal

pub undo-requires : goal.undo-requires
undo-requires c =
    let e : Entry = c.in_ok-entry.entry in
    let before : ComesBy [] (c.pop.new.self.items ++ e ∷ []) c.args.self.now.sides.items = subst (λ (entries : List Entry). ComesBy [] entries c.args.self.now.sides.items) c.in_ok-entry.ensures.items c.requires.comes in
    (comes-less [] c.args.self.now.sides.items c.pop.new.self.items e before).2.inside

pub returns-clause-kept : goal.returns-clause-kept
returns-clause-kept c =
    let e : Entry = c.in_ok-entry.entry in
    let entries : List Entry = c.pop.new.self.items in
    let steps : List Step = map (λ (x : Entry). x.step) entries in
    let checkpoints : List (Vec Side Global) = c.args.self.now.checkpoints.items in
    let count : ℕ = c.len.result / SPACING in
    let before : ComesBy [] (entries ++ e ∷ []) c.args.self.now.sides.items = subst (λ (all : List Entry). ComesBy [] all c.args.self.now.sides.items) c.in_ok-entry.ensures.items c.requires.comes in
    let less = comes-less [] c.args.self.now.sides.items entries e before in
    let were : AreCheckpoints checkpoints (steps ++ e.step ∷ []) =
    subst (AreCheckpoints checkpoints) (ap (map (λ (x : Entry). x.step)) c.in_ok-entry.ensures.items ∙ map-append (λ (x : Entry). x.step) entries (e ∷ [])) c.requires.each in
    let few : length (take count checkpoints) * SPACING ≤ length entries = omega (arith, length-take count checkpoints, min-le_left count (length checkpoints), c.len.ensures, c.pop.new.self.ok.0) in
    let first : AreCheckpoints (take count checkpoints) steps =
    checkpoints-less (take count checkpoints) steps e.step (omega (arith, few, length-map entries (λ (x : Entry). x.step))) (checkpoints-first count checkpoints (steps ++ e.step ∷ []) were) in
    record {
      comes = subst (λ (sides : List Side). ComesBy [] entries sides) (sym (c.undo.ensures ∙ less.2.back)) less.1;
      few = omega (arith, few, ap (λ (all : List (Vec Side Global)). length all) c.truncate.ensures.items);
      each = subst (λ (all : List (Vec Side Global)). AreCheckpoints all steps) (sym c.truncate.ensures.items) first;
    }
