use Rattle.std.proofs.Common.{◌≡◌, take}
use Rattle.fp_prices_gifts.specs.Gifts.{least_at}
use Rattle.fp_prices_gifts.proofs.truck_sums.least_given.Given as goal

-- what the gifts so far give
abbrev pub invariant-loop-gift : goal.invariant-loop-gift
invariant-loop-gift l = l.sum ≡ least_at (take l.gift-index l.gifts) l.class
