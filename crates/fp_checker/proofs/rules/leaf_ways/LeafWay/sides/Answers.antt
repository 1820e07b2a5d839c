use Rattle.std.proofs.Common.{List, sym, subst}
use Rattle.fp_tree.specs.declared.sides.Side.{Side}
use Rattle.fp_tree.specs.Ways.{way_sides}
use Rattle.fp_checker.specs.LeafWays.{AskAlike, steps_of}
use Rattle.fp_checker.proofs.LeafWays.{asks-alike}
use Rattle.fp_checker.proofs.rules.leaf_ways.LeafWay.sides.Goals as goal

pub returns : goal.returns
returns c =
    subst (λ (sides : List Side). AskAlike sides (way_sides (steps_of c.args.self.now))) (sym c.deref.ensures.value) (asks-alike c.args.self.now.sides.items c.args.self.now.entries.items c.requires.comes)
