use Rattle.std.proofs.Common.{◌≡◌, ◌+◌, take}
use Rattle.fp_prices_spans.specs.SpanPrices.{money_at}
use Rattle.fp_prices_gifts.proofs.truck_sums.money_within.Given as goal

-- what is left and the money of the spans so far that hold for the class are together the limit
abbrev pub invariant-loop-span : goal.invariant-loop-span
invariant-loop-span l = l.left + money_at (take l.span-index l.spans) l.class ≡ l.limit
