use Rattle.std.proofs.Common.{◌≡◌, false, take}
use Rattle.fp_prices_spans.specs.SpanPrices.{is_held}
use Rattle.fp_prices_gifts.proofs.truck_sums.is_held.Given as goal

-- no span so far holds for the class
abbrev pub invariant-loop-span : goal.invariant-loop-span
invariant-loop-span l = is_held (take l.span-index l.spans) l.class ≡ false
