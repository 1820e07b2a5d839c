use Rattle.std.proofs.Common.{◌≡◌}
use Rattle.std.specs.BinaryHeap.{heap_items, heap_len}
use Rattle.fp_labels.specs.Searches.{IsQueue}
use Rattle.fp_labels.proofs.settling.Search.settle_next.Given as goal

abbrev pub invariant-loop-cost : goal.invariant-loop-cost
invariant-loop-cost l = record {
  labels_same : l.self.labels ≡ l.fn.self.labels;
  settled_same : l.self.settled ≡ l.fn.self.settled;
  queued : IsQueue l.self.labels.items l.self.settled.items (heap_items l.self.queue);
}

abbrev pub decreases-loop-cost : goal.decreases-loop-cost
decreases-loop-cost l = heap_len l.self.queue
