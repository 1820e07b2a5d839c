-- A masked word has the bits that both words have.
use Rattle.std.proofs.Common.{ap, ◌∙◌}
use Rattle.std.specs.Prelude.{ℕ, List}
use Rattle.fp_rows.specs.Words.{bit_in}
use Rattle.fp_rows.proofs.BitChanges.{and-made}
use Rattle.fp_rows.proofs.whole_rows.keep_bits.Goals as goal

pub returns : goal.returns
returns c = λ i. ap (λ (ws : List ℕ). bit_in ws i) c.and_words.ensures ∙ and-made c.args.words.now c.args.others.now c.requires i
