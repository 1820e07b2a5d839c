-- The sides of a checkpoint.
use Rattle.std.proofs.Common.{◌≡◌, ◌<◌, ◌+◌, ◌*◌, ◌-◌, ◌∙◌, ℕ, List, length, get_or, take, sym, subst, arith}
use Rattle.std.specs.declared.alloc.Global.{Global}
use Rattle.std.specs.declared.vec.Vec.{Vec}
use Rattle.fp_tree.specs.declared.sides.Side.{Side}
use Rattle.fp_tree.specs.Ways.{way_sides}
use Rattle.fp_checker.specs.declared.rules.leaf_ways.TheConstants.{SPACING}
use Rattle.fp_checker.specs.LeafWays.{AskAlike, steps_of}
use Rattle.fp_checker.proofs.rules.leaf_ways.LeafWay.sides_at.Goals as goal

pub returns : goal.returns
returns c =
    let way : List Side = way_sides (steps_of c.args.self.now) in
    let checkpoints : List (Vec Side Global) = c.args.self.now.checkpoints.items in
    let before : ℕ = c.args.number - 1 in
    let there : before < length checkpoints = omega (arith, c.requires.some, c.if-number-eq0.false) in
    let checkpoint : Vec Side Global = c.index.result.now in
    let at : get_or checkpoints before checkpoint ≡ checkpoint = sym c.index.ensures in
    let asks : AskAlike checkpoint.items (take ((before + 1) * SPACING) way) =
    subst (λ (v : Vec Side Global). AskAlike v.items (take ((before + 1) * SPACING) way)) at (c.requires.kept.each before checkpoint there) in
    subst (λ (sides : List Side). AskAlike sides (take (c.args.number * SPACING) way)) (sym (c.in_ok-sides.ensures ∙ c.deref.ensures.value))
    (subst (λ (n : ℕ). AskAlike checkpoint.items (take (n * SPACING) way)) (omega (arith, c.if-number-eq0.false)) asks)
