-- The mask's bits are taken from the word.
use Rattle.std.proofs.Common.{◌*◌, ◌+◌, get_or, ap, ◌∙◌, arith}
use Rattle.std.specs.Prelude.{ℕ, Bool, ◌&&◌, not, bit_and}
use Rattle.std.specs.Int.{bit_not, w64}
use Rattle.fp_rows.specs.Words.{is_within}
use Rattle.fp_rows.proofs.OneBit.{has_bit, has_bit-and, has_bit-not}
use Rattle.fp_rows.proofs.RangeMasks.{changes-more, has_bit-cond}
use Rattle.fp_rows.proofs.masks.clear_words.Goals as goal

pub loop-word-preserved : goal.loop-word-preserved
loop-word-preserved c =
    let word : ℕ = get_or c.loop-word.words c.loop-word.word 0 in
    let mask : ℕ = c.range_mask.result in
    changes-more (λ b t. b && not t) c.args.from c.args.to c.args.words.now c.loop-word.words c.loop-word.word (bit_and word (bit_not w64 mask)) c.loop-word.invariant (omega arith)
    (λ j h. let within : Bool = is_within c.args.from c.args.to (64 * c.loop-word.word + j) in
    has_bit-and word (bit_not w64 mask) j ∙
    ap (λ (b : Bool). has_bit word j && b) (has_bit-not mask j c.range_mask.type_inv h ∙ ap not (has_bit-cond mask j within (c.range_mask.ensures j h))))
