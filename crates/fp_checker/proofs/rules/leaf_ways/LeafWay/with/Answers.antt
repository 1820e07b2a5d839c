-- One step more, and the sides that come of it; the checkpoints stay.
use Rattle.std.proofs.Common.{◌∙◌, ◌*◌, ◌≤◌, List, [], ◌∷◌, length, map, sym, ap, subst, arith}
use Rattle.std.specs.declared.alloc.Global.{Global}
use Rattle.std.specs.declared.vec.Vec.{Vec}
use Rattle.std.proofs.lemmas.List.{length-append, length-map, map-append}
use Rattle.fp_tree.specs.declared.sides.Side.{Side}
use Rattle.fp_tree.specs.declared.ways.Step.{Step}
use Rattle.fp_tree.specs.Ways.{side_of}
use Rattle.fp_checker.specs.declared.rules.leaf_ways.Entry.{Entry}
use Rattle.fp_checker.specs.declared.rules.leaf_ways.TheConstants.{SPACING}
use Rattle.fp_checker.specs.LeafWays.{AreCheckpoints, ComesBy, IsAdded, steps_of}
use Rattle.fp_checker.proofs.LeafWays.{checkpoints-more, comes-more}
use Rattle.fp_checker.proofs.rules.leaf_ways.LeafWay.with.Goals as goal

pub with_checkpoint-requires : goal.with_checkpoint-requires
with_checkpoint-requires c =
    let e : Entry = record { step = c.args.step; change = c.in_ok-change.change } in
    let entries : List Entry = c.args.self.entries.items in
    let steps : List Step = steps_of c.args.self in
    let checkpoints : List (Vec Side Global) = c.args.self.checkpoints.items in
    let added : IsAdded c.args.self.sides.items (side_of c.args.step) c.add_side.new.sides.items c.in_ok-change.change =
    subst (λ (side : Side). IsAdded c.args.self.sides.items side c.add_side.new.sides.items c.in_ok-change.change) c.side.ensures c.in_ok-change.ensures in
    let long : length checkpoints * SPACING ≤ length steps = omega (arith, c.requires.few, length-map entries (λ (x : Entry). x.step)) in
    record {
      comes = subst (λ (all : List Entry). ComesBy [] all c.add_side.new.sides.items) (sym c.in_ok-push.ensures.items) (comes-more [] c.args.self.sides.items c.add_side.new.sides.items entries e c.requires.comes added);
      few = omega (arith, c.requires.few, ap (λ (all : List Entry). length all) c.in_ok-push.ensures.items, length-append entries (e ∷ []));
      each = subst (AreCheckpoints checkpoints) (sym (ap (map (λ (x : Entry). x.step)) c.in_ok-push.ensures.items ∙ map-append (λ (x : Entry). x.step) entries (e ∷ [])))
          (checkpoints-more checkpoints steps c.args.step long c.requires.each);
    }
