use Rattle.std.proofs.Common.{◌≡◌, take}
use Rattle.std.specs.Prelude.{filter}
use Rattle.fp_flatnet.specs.Tables.{windows_in}
use Rattle.fp_prices.specs.declared.tables.Weight.{Weight}
use Rattle.fp_prices_spans.specs.MomentRuns.{can_leave}
use Rattle.fp_prices_spans.specs.SpanCharges.{items_of}
use Rattle.fp_prices_spans.proofs.rules.charge_rule.fill_items.Given as goal

-- the items are those of the weights so far whose shipments can leave in the run
abbrev pub invariant-loop-weight : goal.invariant-loop-weight
invariant-loop-weight l =
    l.items.items ≡ items_of l.instance (filter (λ (w : Weight). can_leave (windows_in l.windows) l.run l.span.arc w.shipment) (take l.weight-index l.span.weights))
