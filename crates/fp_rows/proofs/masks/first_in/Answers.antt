-- The lowest bit that is left of a word, or none.
use Rattle.std.proofs.Common.{◌<◌, ◌^◌, get_or, arith}
use Rattle.std.specs.Prelude.{ℕ, bit_and}
use Rattle.std.proofs.lemmas.Nat.{and_le_r}
use Rattle.fp_rows.proofs.FirstInRange.{first-left, none-left}
use Rattle.fp_rows.proofs.masks.first_in.Goals as goal

pub returns-then-left-ne0 : goal.returns-then-left-ne0
returns-then-left-ne0 c =
    let left : ℕ = bit_and (get_or c.args.words.now c.loop-word.word 0) c.range_mask.result in
    let some : 0 < left = omega arith in
    let fits : left < 2 ^ 64 = omega (arith, and_le_r (get_or c.args.words.now c.loop-word.word 0) c.range_mask.result, c.range_mask.type_inv) in
    first-left c.args.words.now c.args.from c.args.to c.loop-word.word c.range_mask.result c.range_mask.ensures c.loop-word.invariant some fits

pub loop-word-preserved : goal.loop-word-preserved
loop-word-preserved c =
    λ i first last h. none-left c.args.words.now c.args.from c.args.to c.loop-word.word c.range_mask.result c.range_mask.ensures
    (λ k f l b. c.loop-word.invariant k f l b) c.if-left-ne0.false i first last h
