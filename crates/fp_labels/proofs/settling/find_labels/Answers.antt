use Rattle.std.proofs.Common.{◌≡◌, ◌∙◌, ℕ, ◌+◌, List, arith, sym, ap, subst}
use Rattle.std.specs.Prelude.{Bool, Option}
use Rattle.std.specs.BinaryHeap.{heap_items}
use Rattle.std.specs.declared.alloc.Global.{Global}
use Rattle.std.specs.declared.vec.Vec.{Vec}
use Rattle.fp_labels.specs.declared.walks.Label.{Label}
use Rattle.fp_labels.specs.declared.settling.Search.{Search}
use Rattle.fp_labels.specs.Graphs.{Shape}
use Rattle.fp_labels.specs.Searches.{IsFresh, IsSearch, AreSettled, SettlesNext, settled_count}
use Rattle.fp_labels.proofs.FreshSearch.{fresh_search, fresh_counted}
use Rattle.fp_labels.proofs.NextNode.{GoesOn, goes_on, all_settled}
use Rattle.fp_labels.proofs.LeastLabels.{found}
use Rattle.fp_labels.proofs.settling.find_labels.Goals as goal

pub loop-init : goal.loop-init
loop-init c =
    let s = c.in_ok-search.search in
    let fresh : IsFresh c.args.graph.now.nodes c.args.start s.labels.items s.settled.items (heap_items s.queue) = rw (← c.nodes.ensures.value) c.in_ok-search.ensures in
    record {
      searched = fresh_search c.args.graph.now c.args.costs.now c.args.start s.labels.items s.settled.items (heap_items s.queue) fresh;
      counted = fresh_counted c.args.graph.now.nodes c.args.start s.labels.items s.settled.items (heap_items s.queue) fresh;
    }

-- what follows when a node of a search with the same labels is settled
next_of : (graph : Shape) (costs : List (Option ℕ)) (start : ℕ) (old now : Search) (cost node : ℕ) → now.labels ≡ old.labels →
    IsSearch graph costs start old.labels.items old.settled.items (heap_items old.queue) (λ _. ⊥) →
    SettlesNext now.labels.items old.settled.items now.settled.items (heap_items now.queue) cost node →
    GoesOn graph costs start now.labels.items old.settled.items now.settled.items (heap_items now.queue) cost node
next_of graph costs start old now cost node same searched =
    goes_on graph costs start now.labels.items old.settled.items now.settled.items (heap_items old.queue) (heap_items now.queue) cost node
    (subst (λ (v : Vec (Option Label) Global). IsSearch graph costs start v.items old.settled.items (heap_items old.queue) (λ _. ⊥)) (sym same) searched)

pub relax-requires-clause-small : goal.relax-requires-clause-small
relax-requires-clause-small c =
    let next = next_of c.args.graph.now c.args.costs.now c.args.start c.loop.search c.settle_next.new.self c.in-Some.cost c.in-Some.node c.in-Some.ensures.same c.loop.invariant.searched c.in-Some.ensures.some in
    next.small

pub loop-preserved : goal.loop-preserved
loop-preserved c =
    let graph = c.args.graph.now in
    let costs = c.args.costs.now in
    let start : ℕ = c.args.start in
    let after = c.in_ok-search-in-Some.search in
    let next = next_of graph costs start c.loop.search c.settle_next.new.self c.in-Some.cost c.in-Some.node c.in-Some.ensures.same c.loop.invariant.searched c.in-Some.ensures.some in
    let settled = c.in_ok-search-in-Some.ensures.settled in
    record {
      searched = subst (λ (v : Vec Bool Global). IsSearch graph costs start after.labels.items v.items (heap_items after.queue) (λ _. ⊥)) (sym settled) (c.in_ok-search-in-Some.ensures.relaxed start next.searched next.last);
      counted = ap (λ (v : Vec Bool Global). settled_count v.items) settled ∙ next.counted ∙ ap (λ (n : ℕ). n + 1) c.loop.invariant.counted;
    }

pub returns-in-None : goal.returns-in-None
returns-in-None c =
    let graph = c.args.graph.now in
    let costs = c.args.costs.now in
    let start : ℕ = c.args.start in
    let s = c.loop.search in
    let new = c.settle_next.new.self in
    let relabelled = subst (λ (v : Vec (Option Label) Global). IsSearch graph costs start v.items s.settled.items (heap_items s.queue) (λ _. ⊥)) (sym c.in-None.ensures.same) c.loop.invariant.searched in
    let left = subst (λ (v : Vec Bool Global). AreSettled new.labels.items v.items) c.in-None.ensures.none c.in-None.ensures.none_left in
    found graph costs start new.labels.items s.settled.items (heap_items s.queue) relabelled left (omega (arith, c.requires.inside))

pub returns : goal.returns
returns c =
    let graph = c.args.graph.now in
    let costs = c.args.costs.now in
    let start : ℕ = c.args.start in
    let s = c.loop.search in
    let searched = c.loop.invariant.searched in
    let counted : settled_count s.settled.items ≡ graph.nodes = omega (arith, c.loop.invariant.counted, c.loop-test.false, c.loop.auto.counter-end, c.nodes-end.ensures.value) in
    found graph costs start s.labels.items s.settled.items (heap_items s.queue) searched
    (all_settled graph costs start s.labels.items s.settled.items (heap_items s.queue) searched counted) (omega (arith, c.requires.inside))
