use Rattle.std.proofs.Common.{◌≡◌, take}
use Rattle.fp_prices_gifts.specs.Gifts.{most_at}
use Rattle.fp_prices_gifts.proofs.truck_sums.most_given.Given as goal

-- what the gifts so far give
abbrev pub invariant-loop-gift : goal.invariant-loop-gift
invariant-loop-gift l = l.sum ≡ most_at (take l.gift-index l.gifts) l.class
