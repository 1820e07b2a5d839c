use Rattle.std.proofs.Common.{◌≡◌, ◌+◌, ◌-◌, take}
use Rattle.fp_prices_gifts.specs.declared.gifts.TheConstants.{MOST_GIFTS}
use Rattle.fp_prices_gifts.specs.Gifts.{gift_total}
use Rattle.fp_prices_gifts.proofs.truck_sums.are_light.Given as goal

-- what is left and the amounts so far are together one less than the limit
abbrev pub invariant-loop-gift : goal.invariant-loop-gift
invariant-loop-gift l = l.left + gift_total (take l.gift-index l.gifts) ≡ MOST_GIFTS - 1
