-- A bit is set exactly where a word is not 0.
use Rattle.std.proofs.Common.{◌∙◌}
use Rattle.fp_rows.proofs.BitCounts.{row-any}
use Rattle.fp_rows.proofs.whole_rows.any_bit.Goals as goal

pub returns : goal.returns
returns c = c.any_word.ensures ∙ row-any c.args.words.now c.args.count c.requires (λ k. (c.type_inv.words k).fits)
