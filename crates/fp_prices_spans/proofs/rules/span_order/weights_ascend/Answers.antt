use Rattle.std.proofs.Common.{refl, arith, ◌<◌}
use Rattle.fp_prices.specs.declared.tables.Weight.{Weight}
use Rattle.fp_base_lists.proofs.Pairs.{AllPairs-from_adjacent}
use Rattle.fp_prices_spans.proofs.rules.span_order.weights_ascend.Goals as goal

pub returns : goal.returns
returns c =
    (λ _. AllPairs-from_adjacent (λ (v w : Weight). v.shipment < w.shipment) (λ u v w first second. omega (arith, first, second)) c.args.weights.now c.loop-place.place c.loop-place.invariant (omega arith), λ _. refl)
