use Rattle.std.proofs.Common.{◌≡◌, ℕ, length, drop}
use Rattle.std.specs.Prelude.{Contains}
use Rattle.std.specs.BinaryHeap.{heap_items}
use Rattle.fp_labels.specs.Graphs.{edge_at}
use Rattle.fp_labels.specs.Searches.{IsSearch, IsLast}
use Rattle.fp_labels.proofs.settling.Search.relax.Given as goal

abbrev pub invariant-loop-edge : goal.invariant-loop-edge
invariant-loop-edge l = record {
  labels_len : length l.self.labels.items ≡ l.graph.nodes;
  settled_same : l.self.settled ≡ l.fn.self.settled;
  kept : (start : ℕ) →
      IsSearch l.graph l.costs start l.fn.self.labels.items l.fn.self.settled.items (heap_items l.fn.self.queue) (λ e. (edge_at l.graph.edges e).from ≡ l.node) →
      IsLast l.graph l.costs start l.fn.self.labels.items l.fn.self.settled.items l.node l.cost →
      IsSearch l.graph l.costs start l.self.labels.items l.fn.self.settled.items (heap_items l.self.queue) (Contains (drop l.edge-index l.edge-items))
      × IsLast l.graph l.costs start l.self.labels.items l.fn.self.settled.items l.node l.cost;
}
