use Rattle.std.proofs.Common.{subst, arith}
use Rattle.std.specs.Prelude.{All}
use Rattle.std.proofs.lemmas.List.{take_all}
use Rattle.std.proofs.lemmas.List.Elements.{All-more}
use Rattle.fp_certificate_lines.specs.Ranges.{IsGiftInRange}
use Rattle.fp_duals_leaves.proofs.span_tests.gifts_in_range.Goals as goal

pub loop-gift-preserved : goal.loop-gift-preserved
loop-gift-preserved c = All-more (IsGiftInRange c.args.instance.now) c.args.gifts.now c.loop-gift.gift-index _ (omega arith) c.loop-gift.invariant c.if-not-is_gift_in_range.ensures

pub returns : goal.returns
returns c = subst (All (IsGiftInRange c.args.instance.now)) (take_all c.loop-gift.gift-index c.args.gifts.now (omega arith)) c.loop-gift.invariant
