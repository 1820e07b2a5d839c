-- The sides so far ask what those of the whole way do.
use Rattle.std.proofs.Common.{◌≡◌, ◌+◌, ◌*◌, ◌∙◌, List, [], ◌∷◌, length, sym, ap, subst, arith}
use Rattle.std.specs.declared.alloc.Global.{Global}
use Rattle.std.specs.declared.vec.Vec.{Vec}
use Rattle.std.proofs.lemmas.List.{length-append, length-map}
use Rattle.fp_tree.specs.declared.sides.Side.{Side}
use Rattle.fp_tree.specs.declared.ways.Step.{Step}
use Rattle.fp_tree.specs.Ways.{way_sides}
use Rattle.fp_checker.specs.declared.rules.leaf_ways.Entry.{Entry}
use Rattle.fp_checker.specs.declared.rules.leaf_ways.TheConstants.{SPACING}
use Rattle.fp_checker.specs.LeafWays.{AreCheckpoints, AskAlike, steps_of}
use Rattle.fp_checker.proofs.LeafWays.{asks-alike, checkpoints-last}
use Rattle.fp_checker.proofs.rules.leaf_ways.LeafWay.with_checkpoint.Goals as goal

pub returns-clause-kept : goal.returns-clause-kept
returns-clause-kept c =
    let entries : List Entry = c.args.self.entries.items in
    let steps : List Step = steps_of c.args.self in
    let checkpoints : List (Vec Side Global) = c.args.self.checkpoints.items in
    let last : Vec Side Global = c.in_ok-sides.sides in
    let alike : AskAlike last.items (way_sides steps) =
    subst (λ (sides : List Side). AskAlike sides (way_sides steps)) (sym (c.in_ok-sides.ensures ∙ c.deref.ensures.value)) (asks-alike c.args.self.sides.items entries c.requires.comes) in
    let due : (length checkpoints + 1) * SPACING ≡ length entries = omega (arith, c.steps_after.ensures, c.if-steps_after-ne-SPACING.false) in
    record {
      comes = c.requires.comes;
      few = omega (arith, due, ap (λ (all : List (Vec Side Global)). length all) c.in_ok-push.ensures.items, length-append checkpoints (last ∷ []));
      each = subst (λ (all : List (Vec Side Global)). AreCheckpoints all steps) (sym c.in_ok-push.ensures.items)
          (checkpoints-last checkpoints last steps (omega (arith, due, length-map entries (λ (x : Entry). x.step))) alike c.requires.each);
    }
