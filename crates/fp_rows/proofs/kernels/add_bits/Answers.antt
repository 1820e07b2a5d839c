-- Each block of counts is stored whole, and then each count of the rest.
use Rattle.std.proofs.Common.{◌≡◌, ℕ, ◌+◌, ◌*◌, ◌/◌, ◌%◌, ◌^◌, ◌<◌, ◌≤◌, List, length, get_or, refl, sym, ap, ◌∙◌, arith}
use Rattle.std.specs.Prelude.{bit_and}
use Rattle.std.specs.Int.{bit_at}
use Rattle.std.proofs.Math.Nat.{mod-eq_of_lt}
use Rattle.std.proofs.lemmas.List.FromFn.{length-map-range_with_len}
use Rattle.std.proofs.lemmas.Nat.Bits.{shr_and_one, bit_at-lt}
use Rattle.fp_rows.specs.Words.{word_bits}
use Rattle.fp_rows.proofs.WordLanes.{lanes_at, get_or-lanes_at, get_or-word_bits}
use Rattle.fp_rows.proofs.Blocks.{combines-lanes}
use Rattle.fp_rows.proofs.WordPairs.{combines-one, combines-all}
use Rattle.fp_rows.proofs.kernels.add_bits.Goals as goal

pub loop-block-preserved : goal.loop-block-preserved
loop-block-preserved c =
    let old : List ℕ = c.args.counts.now in
    let n : ℕ = 8 * c.loop-block.block in
    let next : n + 8 ≡ 8 * (c.loop-block.block + 1) = omega arith in
    let room : n + 8 ≤ length old = omega arith in
    rw (← next)
    (combines-lanes ◌+◌ (λ a b. (a + b) % 2 ^ 32) old (word_bits c.args.word) c.loop-block.counts (lanes_at c.args.word n) n c.loop-block.invariant refl room
    (λ j h.
    let bit : get_or (lanes_at c.args.word n) j 0 ≡ bit_at c.args.word (n + j) = get_or-lanes_at c.args.word n j h in
    let count = c.requires.room (n + j) 0 (omega arith) in
    let fits : get_or old (n + j) 0 + get_or (lanes_at c.args.word n) j 0 < 2 ^ 32 = omega (arith, bit, bit_at-lt c.args.word (n + j), count) in
    mod-eq_of_lt fits ∙ ap (λ (b : ℕ). get_or old (n + j) 0 + b) (bit ∙ sym (get_or-word_bits c.args.word (n + j) (omega (arith, c.requires.few))))))

pub loop-place-preserved : goal.loop-place-preserved
loop-place-preserved c =
    let old : List ℕ = c.args.counts.now in
    let place : ℕ = c.loop-place.place in
    let within : place < length old = omega arith in
    let bit = shr_and_one c.args.word place ∙ sym (get_or-word_bits c.args.word place (omega (arith, c.requires.few))) in
    combines-one ◌+◌ old (word_bits c.args.word) c.loop-place.counts place (get_or c.loop-place.counts place 0 + bit_and (c.args.word / 2 ^ place) 1) c.loop-place.invariant within
    (omega (arith, c.loop-place.invariant.left place (omega arith), bit))

pub returns : goal.returns
returns c =
    combines-all ◌+◌ c.args.counts.now (word_bits c.args.word) c.loop-place.counts c.loop-place.place c.loop-place.invariant (omega arith)
    (omega (arith, length-map-range_with_len (bit_at c.args.word) 0 64))
