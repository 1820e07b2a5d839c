-- The bars ask what they ask, and the way's sides what those of its steps do.
use Rattle.std.proofs.Common.{◌∙◌, ◌++◌, List, sym, ap, subst}
use Rattle.std.proofs.lemmas.Result.{IfOk-weaker}
use Rattle.fp_tree.specs.declared.sides.Side.{Side}
use Rattle.fp_tree.specs.Ways.{way_sides}
use Rattle.fp_checker.specs.LeafWays.{AskAlike, steps_of}
use Rattle.fp_checker.proofs.BarLists.{AskAlike-append, AskAlike-refl}
use Rattle.fp_checker.proofs.rules.narrowed_ways.NarrowedWay.sides.Goals as goal

pub returns : goal.returns
returns c =
    let bars : List Side = c.args.self.now.bars.items in
    let asked : List Side = way_sides (steps_of c.args.self.now.way) in
    IfOk-weaker c.joined.result _ _
    (λ both is.
    subst (λ (s : List Side). AskAlike s (bars ++ asked)) (sym (is ∙ ap (λ (b : List Side). b ++ c.sides.result.now) c.deref.ensures.value))
    (AskAlike-append bars bars c.sides.result.now asked (AskAlike-refl bars) c.sides.ensures))
    c.joined.ensures
