-- Each block is stored whole, and then each word of the rest.
use Rattle.std.proofs.Common.{◌≡◌, ℕ, ◌+◌, ◌*◌, ◌/◌, List, [], length, get_or, ap, ◌∙◌, arith}
use Rattle.std.specs.Prelude.{bit_and}
use Rattle.std.specs.Simd.{first_chunks}
use Rattle.std.specs.Simd.Lanes.{chunk}
use Rattle.std.proofs.lemmas.Simd.{length-chunk, get_or-chunk}
use Rattle.fp_rows.proofs.WordPairs.{combines-all}
use Rattle.fp_rows.proofs.Blocks.{get_or-first_chunks, combines-lanes}
use Rattle.fp_rows.proofs.kernels.and_words.Goals as goal

pub loop-block-preserved : goal.loop-block-preserved
loop-block-preserved c =
    let old : List ℕ = c.args.into.now in
    let other : List ℕ = c.args.other.now in
    let n : ℕ = 8 * c.loop-block.block in
    let count : length c.as_chunks.result.0.now ≡ length other / 8 = c.as_chunks.ensures.front_len in
    let front : c.as_chunks.result.0.now ≡ first_chunks 8 (length other / 8) other = c.as_chunks.ensures.front in
    let read : get_or c.as_chunks.result.0.now c.loop-block.block [] ≡ chunk n 8 other =
    ap (λ (l : List (List ℕ)). get_or l c.loop-block.block []) front ∙ get_or-first_chunks 8 (length other / 8) c.loop-block.block other (omega arith) in
    let next : n + 8 ≡ 8 * (c.loop-block.block + 1) = omega arith in
    rw (read, ← next)
    (combines-lanes bit_and bit_and old other c.loop-block.into (chunk n 8 other) n c.loop-block.invariant (length-chunk n 8 other (omega arith)) (omega arith)
    (λ j h. ap (λ (b : ℕ). bit_and (get_or old (n + j) 0) b) (get_or-chunk n 8 other j 0 h)))

pub returns : goal.returns
returns c =
    combines-all bit_and c.args.into.now c.args.other.now c.loop-place.into c.loop-place.place c.loop-place.invariant (omega arith) (omega arith)
