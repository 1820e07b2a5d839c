use Rattle.std.proofs.Common.{◌∙◌, arith, false, sym}
use Rattle.std.proofs.lemmas.List.{ext_get_or}
use Rattle.fp_prices.proofs.values.known_costs.are_same.Goals as goal

pub returns : goal.returns
returns c = λ _.
    ext_get_or false c.args.left.now c.args.right.now (c.requires.left ∙ sym c.requires.right) (λ i lt. c.loop-place.invariant i (omega (arith, lt, c.requires.left)))
