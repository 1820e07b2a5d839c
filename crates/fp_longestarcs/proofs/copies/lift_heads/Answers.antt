-- Each head is lifted.
use Rattle.std.proofs.Common.{◌≡◌, ℕ, ◌<◌, List, length, ◌∙◌, sym, arith}
use Rattle.std.proofs.lemmas.Grind.{same_number_lists}
use Rattle.fp_longestarcs.specs.Changes.{lifted}
use Rattle.fp_longestarcs.proofs.NewPoints.{length-lifted, get_or-lifted}
use Rattle.fp_longestarcs.proofs.copies.lift_heads.Goals as goal

pub returns : goal.returns
returns c =
    let old : List ℕ = c.args.heads.now in
    let long : length (lifted c.args.step c.args.at c.args.points.now old) ≡ length old = length-lifted c.args.step c.args.at c.args.points.now old c.requires.copies in
    same_number_lists c.loop-copy.heads (lifted c.args.step c.args.at c.args.points.now old) (omega (arith, long, c.loop-copy.auto.heads))
    (λ k h.
    let within : k < length old = omega (arith, c.loop-copy.auto.heads) in
    c.loop-copy.invariant.0 k (omega (arith, c.requires.copies)) ∙ sym (get_or-lifted c.args.step c.args.at c.args.points.now old k c.requires.copies within))
