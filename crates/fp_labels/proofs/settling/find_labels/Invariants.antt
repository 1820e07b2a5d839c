use Rattle.std.proofs.Common.{◌≡◌}
use Rattle.std.specs.BinaryHeap.{heap_items}
use Rattle.fp_labels.specs.Searches.{IsSearch, settled_count}
use Rattle.fp_labels.proofs.settling.find_labels.Given as goal

abbrev pub invariant-loop : goal.invariant-loop
invariant-loop l = record {
  searched : IsSearch l.graph l.costs l.start l.search.labels.items l.search.settled.items (heap_items l.search.queue) (λ e. ⊥);
  counted : settled_count l.search.settled.items ≡ l.counter;
}
