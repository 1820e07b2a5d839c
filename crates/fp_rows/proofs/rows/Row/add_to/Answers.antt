-- There are as many counts as bits, so the words are just those that the counts need.
use Rattle.std.proofs.Common.{◌≡◌, length, ap, ◌∙◌, arith}
use Rattle.std.specs.Prelude.{ℕ, Bool, List}
use Rattle.fp_rows.specs.Words.{bits}
use Rattle.fp_rows.specs.Bits.{added_bits}
use Rattle.fp_rows.proofs.BitsIn.{length-bits}
use Rattle.fp_rows.proofs.rows.Row.add_to.Goals as goal

pub add_words-requires-clause-enough : goal.add_words-requires-clause-enough
add_words-requires-clause-enough c =
    let row = c.self.inside in
    omega (arith, ap length c.deref.ensures.value, c.self.invariant.enough, length-bits row.words.items row.length, ap length c.self.view_is, c.requires.lengths)

pub returns : goal.returns
returns c =
    let row = c.self.inside in
    let many : length c.args.counts.now ≡ row.length = omega (arith, length-bits row.words.items row.length, ap length c.self.view_is, c.requires.lengths) in
    c.add_words.ensures ∙
    ap (λ (bs : List Bool). added_bits c.args.counts.now bs) (ap (bits c.deref.result.now) many ∙ ap (λ (ws : List ℕ). bits ws row.length) c.deref.ensures.value ∙ c.self.view_is)
