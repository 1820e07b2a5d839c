use Rattle.std.specs.Vec.Iter.{into_iter_items}
use Rattle.fp_base_lists.specs.Vectors.{lists_of}
use Rattle.fp_flatnet.specs.Tables.{windows_in}
use Rattle.fp_dispatch.specs.Answers.{IsEarliest}
use Rattle.fp_repair.proofs.KeptSoFar.{AreKeptSoFar}
use Rattle.fp_repair.proofs.timings.kept_plan.Given as goal

-- the groups so far are gone through, and the plan has the least times with those that are kept
abbrev pub invariant-loop-group : goal.invariant-loop-group
invariant-loop-group l = record {
  so_far : AreKeptSoFar l.instance (windows_in l.windows) (lists_of l.routes) (lists_of l.fn.groups.items)
      (lists_of (into_iter_items l.group-iterator)) (lists_of l.kept.items);
  plan : IsEarliest l.instance (windows_in l.windows) (lists_of l.routes) (lists_of l.kept.items) l.plan;
}
