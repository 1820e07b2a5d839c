-- A word that loses bits keeps those that the other word does not have.
use Rattle.std.proofs.Common.{ap, ◌∙◌}
use Rattle.std.specs.Prelude.{ℕ, List}
use Rattle.fp_rows.specs.Words.{bit_in}
use Rattle.fp_rows.proofs.BitChanges.{and-not-made}
use Rattle.fp_rows.proofs.whole_rows.lose_bits.Goals as goal

pub returns : goal.returns
returns c = λ i.
    ap (λ (ws : List ℕ). bit_in ws i) c.and_not_words.ensures ∙ and-not-made c.args.words.now c.args.others.now c.requires (λ k. (c.type_inv.others k).fits) i
