use Rattle.std.proofs.Common.{◌≡◌, ◌∙◌, ◌∷◌, List, length, arith, ap, sym}
use Rattle.std.specs.Prelude.{Option, Bool, IsPermutation}
use Rattle.std.specs.BinaryHeap.{IsHeap, IsUpperBound, PopsGreatest, heap_items}
use Rattle.std.specs.declared.alloc.Global.{Global}
use Rattle.std.specs.declared.vec.Vec.{Vec}
use Rattle.std.proofs.lemmas.List.{get_or_read}
use Rattle.fp_labels.specs.declared.walks.Label.{Label}
use Rattle.fp_labels.specs.declared.settling.Search.{Search}
use Rattle.fp_labels.specs.Searches.{Entry, IsQueue, entry_cmp}
use Rattle.fp_labels.proofs.Queues.{Pops, IsQueue-pop}
use Rattle.fp_labels.proofs.settling.Search.settle_next.Goals as goal

-- what follows of a search whose labels and settled nodes are as they were
pops_now : (now old : Search) (rest : List Entry) (x : Entry) → now.labels ≡ old.labels → now.settled ≡ old.settled → length old.settled.items ≡ length old.labels.items →
    IsQueue now.labels.items now.settled.items (heap_items now.queue) → IsPermutation (heap_items now.queue) (x ∷ rest) → PopsGreatest entry_cmp (heap_items now.queue) x rest →
    (IsHeap entry_cmp (heap_items now.queue) → IsUpperBound entry_cmp x rest) → Pops now.labels.items now.settled.items rest x
pops_now now old rest x labels settled len =
    IsQueue-pop now.labels.items now.settled.items (heap_items now.queue) rest x
    (ap (λ (v : Vec Bool Global). length v.items) settled ∙ len ∙ sym (ap (λ (v : Vec (Option Label) Global). length v.items) labels))

pub index-requires : goal.index-requires
index-requires c =
    let s = c.loop-cost.self in
    let kept = c.loop-cost.invariant in
    let e = c.in-Some.ensures in
    let popped = pops_now s c.args.self.now (heap_items c.pop.new.self) c.in-Some.field-0 kept.labels_same kept.settled_same c.requires.len kept.queued e.permutation e.heap_order e.below_top in
    omega (arith, popped.inside, s.settled.ok.0)

pub index_mut-requires : goal.index_mut-requires
index_mut-requires c =
    let s = c.loop-cost.self in
    let kept = c.loop-cost.invariant in
    let e = c.in-Some.ensures in
    let popped = pops_now s c.args.self.now (heap_items c.pop.new.self) c.in-Some.field-0 kept.labels_same kept.settled_same c.requires.len kept.queued e.permutation e.heap_order e.below_top in
    omega (arith, popped.inside, s.settled.ok.0)

pub returns-then-not-index-clause-some : goal.returns-then-not-index-clause-some
returns-then-not-index-clause-some c =
    let s = c.loop-cost.self in
    let kept = c.loop-cost.invariant in
    let e = c.in-Some.ensures in
    let popped = pops_now s c.args.self.now (heap_items c.pop.new.self) c.in-Some.field-0 kept.labels_same kept.settled_same c.requires.len kept.queued e.permutation e.heap_order e.below_top in
    rw (← kept.settled_same)
    (popped.fresh (sym (get_or_read s.settled.items c.in-Some.field-0.0.1 c.index.result.now popped.inside c.index.ensures _) ∙ c.if-not-index.true))

pub loop-cost-preserved : goal.loop-cost-preserved
loop-cost-preserved c =
    let s = c.loop-cost.self in
    let kept = c.loop-cost.invariant in
    let e = c.in-Some.ensures in
    let popped = pops_now s c.args.self.now (heap_items c.pop.new.self) c.in-Some.field-0 kept.labels_same kept.settled_same c.requires.len kept.queued e.permutation e.heap_order e.below_top in
    record {
      labels_same = kept.labels_same;
      settled_same = kept.settled_same;
      queued = popped.stale (sym (get_or_read s.settled.items c.in-Some.field-0.0.1 c.index.result.now popped.inside c.index.ensures _) ∙ c.if-not-index.false);
    }
