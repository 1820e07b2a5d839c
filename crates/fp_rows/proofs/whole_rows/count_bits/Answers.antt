-- The ones of the words are the bits that are set.
use Rattle.std.proofs.Common.{◌∙◌, arith}
use Rattle.std.specs.Prelude.{ℕ, List, Bool}
use Rattle.std.proofs.lemmas.List.Sums.{count_by-le-length}
use Rattle.fp_rows.specs.Words.{bits}
use Rattle.fp_rows.proofs.BitsIn.{length-bits}
use Rattle.fp_rows.proofs.BitCounts.{row-ones}
use Rattle.fp_rows.proofs.whole_rows.count_bits.Goals as goal

pub count_words-requires : goal.count_words-requires
count_words-requires c = omega (arith, c.requires.enough)

pub overflow_cast-result : goal.overflow_cast-result
overflow_cast-result c =
    let words : List ℕ = c.args.words.now in
    let bs : List Bool = bits words c.args.count in
    let ones = row-ones words c.args.count c.requires (λ k. (c.type_inv.words k).fits) in
    record { fits = omega (arith, c.count_words.ensures, ones, count_by-le-length (λ b. b) bs, length-bits words c.args.count, c.ranges.count.fits) }

pub returns : goal.returns
returns c = c.count_words.ensures ∙ row-ones c.args.words.now c.args.count c.requires (λ k. (c.type_inv.words k).fits)
