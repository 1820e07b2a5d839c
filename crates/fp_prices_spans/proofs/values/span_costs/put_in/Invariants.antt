use Rattle.std.proofs.Common.{◌-◌, length}
use Rattle.std.specs.Prelude.{None}
use Rattle.std.specs.Option.{option_map}
use Rattle.fp_prices.proofs.SetBits.{AreRewritten}
use Rattle.fp_prices_spans.specs.SpanCosts.{cost_at}
use Rattle.fp_prices_spans.proofs.values.span_costs.put_in.Given as goal

-- the costs of the classes of the row before the next place were put in
abbrev pub invariant-loop-class : goal.invariant-loop-class
invariant-loop-class l = AreRewritten (λ n. option_map (λ _. cost_at l.instance l.network l.prices l.shipment n)) None l.row l.fn.costs l.costs l.next

abbrev pub decreases-loop-class : goal.decreases-loop-class
decreases-loop-class l = length l.row - l.next
