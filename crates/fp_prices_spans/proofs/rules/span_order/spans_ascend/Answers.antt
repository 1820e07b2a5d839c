use Rattle.std.proofs.Common.{refl, arith}
use Rattle.fp_base_lists.proofs.Pairs.{AllPairs-from_adjacent}
use Rattle.fp_prices_spans.specs.SpanLists.{StandsBefore}
use Rattle.fp_prices_spans.proofs.SpanOrders.{StandsBefore-trans}
use Rattle.fp_prices_spans.proofs.rules.span_order.spans_ascend.Goals as goal

pub returns : goal.returns
returns c = (λ _. AllPairs-from_adjacent StandsBefore StandsBefore-trans c.args.spans.now c.loop-place.place c.loop-place.invariant (omega arith), λ _. refl)
