use Rattle.std.proofs.Common.{◌≡◌, ◌∙◌, ℕ, ◌+◌, List, length, drop, get_or, arith, ap, sym, subst}
use Rattle.std.specs.Prelude.{Some, Contains}
use Rattle.std.specs.BinaryHeap.{heap_items}
use Rattle.fp_labels.specs.declared.settling.Search.{Search}
use Rattle.fp_labels.specs.Walks.{cost_of}
use Rattle.fp_labels.specs.Searches.{IsSearch, IsLast}
use Rattle.fp_labels.proofs.EdgeRelaxation.{barred_done, improved_done, improves_len, small_at, all_done}
use Rattle.fp_labels.proofs.settling.Search.relax.Goals as goal
use Rattle.fp_labels.proofs.settling.Search.relax.Goals.{in-Some+in_ok-improve, in_default}

pub loop-edge-preserved : goal.loop-edge-preserved
loop-edge-preserved c =
    let graph = c.args.graph.now in
    let costs = c.args.costs.now in
    let row : List ℕ = c.row-edge-items.result.now in
    let i : ℕ = c.loop-edge.edge-index in
    let e : ℕ = get_or row i 0 in
    let s = c.loop-edge.self in
    elim c.match-edge_cost.branch [
      | in-Some+in_ok-improve w ↦
          let more : ℕ = w.in-Some.more in
          let unbarred : cost_of costs e ≡ Some more = w.in-Some.is in
          let small = small_at graph.nodes costs e more c.requires.costs_small (omega (arith, (c.row-edge-items.ensures.leave i 0 c.loop-edge-test.true).0, c.requires.costs_len)) unbarred in
          record {
            labels_len = ap (λ (x : Search). length x.labels.items) w.self-is ∙ improves_len s.labels.items w.improve.new.self.labels.items (heap_items s.queue) (heap_items w.improve.new.self.queue) w.head.result (c.args.cost + more) _ w.in_ok-improve.ensures.ok ∙ c.loop-edge.invariant.labels_len;
            settled_same = ap (λ (x : Search). x.settled) w.self-is ∙ w.in_ok-improve.ensures.settled ∙ c.loop-edge.invariant.settled_same;
            kept = λ start searched last.
                (let now = c.loop-edge.invariant.kept start searched last in
                let done = improved_done graph costs start s.labels.items c.args.self.settled.items (heap_items s.queue) c.args.node c.args.cost row i c.loop-edge-test.true c.row-edge-items.ensures now.0 now.1
                more w.head.result unbarred (sym w.head.ensures.value) w.head.ensures.inside small w.improve.new.self.labels.items (heap_items w.improve.new.self.queue) w.in_ok-improve.ensures.ok in
                subst (λ (x : Search).
                IsSearch graph costs start x.labels.items c.args.self.settled.items (heap_items x.queue) (Contains (drop (i + 1) row)) × IsLast graph costs start x.labels.items c.args.self.settled.items c.args.node c.args.cost)
                (sym w.self-is) done);
          }
      | in_default w ↦ record {
        labels_len = ap (λ (x : Search). length x.labels.items) w.self-is ∙ c.loop-edge.invariant.labels_len;
        settled_same = ap (λ (x : Search). x.settled) w.self-is ∙ c.loop-edge.invariant.settled_same;
        kept = λ start searched last.
            (let now = c.loop-edge.invariant.kept start searched last in
            let done = barred_done graph costs start s.labels.items c.args.self.settled.items (heap_items s.queue) c.args.node c.args.cost row i c.loop-edge-test.true c.row-edge-items.ensures now.0 now.1 w.in_default.is in
            subst (λ (x : Search).
            IsSearch graph costs start x.labels.items c.args.self.settled.items (heap_items x.queue) (Contains (drop (i + 1) row)) × IsLast graph costs start x.labels.items c.args.self.settled.items c.args.node c.args.cost)
            (sym w.self-is) (done, now.1));
      }
    ]

pub returns-clause-relaxed : goal.returns-clause-relaxed
returns-clause-relaxed c start searched last =
    let s = c.loop-edge.self in
    let now = c.loop-edge.invariant.kept start searched last in
    all_done c.args.graph.now c.args.costs.now start s.labels.items c.args.self.settled.items (heap_items s.queue) c.row-edge-items.result.now c.loop-edge.edge-index c.loop-edge-test.false now.0
