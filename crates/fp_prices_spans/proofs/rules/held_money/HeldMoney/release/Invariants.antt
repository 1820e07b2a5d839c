use Rattle.std.proofs.Common.{◌≡◌, ℕ, ◌≤◌}
use Rattle.std.specs.BinaryHeap.{heap_items, heap_len}
use Rattle.fp_prices_spans.specs.HeldMoney.{AreEnds, money_after}
use Rattle.fp_prices_spans.proofs.rules.held_money.HeldMoney.release.Given as goal

-- the ends that went had no money after the moment
abbrev pub invariant-loop-money : goal.invariant-loop-money
invariant-loop-money l = record {
  counted : AreEnds (heap_items l.self.ends) l.self.total;
  same : (m : ℕ) → l.moment ≤ m → money_after (heap_items l.self.ends) m ≡ money_after (heap_items l.fn.self.ends) m;
}

abbrev pub decreases-loop-money : goal.decreases-loop-money
decreases-loop-money l = heap_len l.self.ends
