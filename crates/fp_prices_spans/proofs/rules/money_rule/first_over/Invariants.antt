use Rattle.std.specs.BinaryHeap.{heap_items}
use Rattle.fp_prices_spans.specs.HeldMoney.{AreSwept}
use Rattle.fp_prices_spans.proofs.rules.money_rule.first_over.Given as goal

-- the spans so far were gone through
abbrev pub invariant-loop-number : goal.invariant-loop-number
invariant-loop-number l = AreSwept l.instance l.spans l.number l.first (heap_items l.held.ends) l.held.total
