-- The bits of one more word are added.
use Rattle.std.proofs.Common.{◌-◌, ◌*◌, min, length, arith}
use Rattle.fp_rows.proofs.LaneCounts.{words-more, words-all}
use Rattle.fp_rows.proofs.whole_rows.add_words.Goals as goal

pub loop-place-preserved : goal.loop-place-preserved
loop-place-preserved c =
    words-more c.args.counts.now c.loop-place.counts c.args.words.now c.add_bits.new.counts c.loop-place.place (c.min-end.result - 64 * c.loop-place.place) c.requires.enough (omega arith) c.loop-place.invariant
    (omega (arith, c.min-end.ensures)) c.add_bits.ensures

pub returns : goal.returns
returns c = words-all c.args.counts.now c.loop-place.counts c.args.words.now (min (64 * c.loop-place.place) (length c.args.counts.now)) c.loop-place.invariant (omega (arith, c.requires.enough))
