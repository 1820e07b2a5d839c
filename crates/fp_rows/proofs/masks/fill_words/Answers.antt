-- The mask's bits are added to the word.
use Rattle.std.proofs.Common.{◌*◌, ◌+◌, get_or, ap, ◌∙◌, arith}
use Rattle.std.specs.Prelude.{ℕ, Bool, ◌||◌, bit_or}
use Rattle.fp_rows.specs.Words.{is_within}
use Rattle.fp_rows.proofs.OneBit.{has_bit, has_bit-or}
use Rattle.fp_rows.proofs.RangeMasks.{changes-more, has_bit-cond}
use Rattle.fp_rows.proofs.masks.fill_words.Goals as goal

pub loop-word-preserved : goal.loop-word-preserved
loop-word-preserved c =
    let word : ℕ = get_or c.loop-word.words c.loop-word.word 0 in
    changes-more (λ b t. b || t) c.args.from c.args.to c.args.words.now c.loop-word.words c.loop-word.word (bit_or word c.range_mask.result) c.loop-word.invariant (omega arith)
    (λ j h. let within : Bool = is_within c.args.from c.args.to (64 * c.loop-word.word + j) in
    has_bit-or word c.range_mask.result j ∙ ap (λ (b : Bool). has_bit word j || b) (has_bit-cond c.range_mask.result j within (c.range_mask.ensures j h)))
