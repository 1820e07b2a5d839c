use Rattle.std.proofs.Common.{take}
use Rattle.std.specs.Prelude.{All}
use Rattle.fp_prices_gifts.specs.declared.gifts.Gift.{Gift}
use Rattle.fp_prices_gifts.specs.Gifts.{KeepsAtEnds}
use Rattle.fp_prices_gifts.proofs.money_rule.keep_at_gift_ends.Given as goal

-- it holds at the ends of the gifts that were passed
abbrev pub invariant-loop-gift : goal.invariant-loop-gift
invariant-loop-gift l = All (λ (g : Gift). KeepsAtEnds l.instance l.spans l.gifts g.arc g.point g.until) (take l.gift-index l.gifts)
