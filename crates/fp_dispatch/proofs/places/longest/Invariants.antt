use Rattle.std.proofs.Common.{ℕ, ◌<◌, ◌≤◌, List, length, get_or}
use Rattle.fp_base_lists.specs.Vectors.{lists_of}
use Rattle.fp_model.specs.declared.limits.TheConstants.{MOST_TERMINALS}
use Rattle.fp_dispatch.proofs.places.longest.Given as goal

-- the most legs of the routes so far
abbrev pub invariant-loop-route : goal.invariant-loop-route
invariant-loop-route l = record {
  wide : (k : ℕ) (d : List ℕ) → k < l.route-index → length (get_or (lists_of l.routes) k d) ≤ l.most;
  short : l.most ≤ MOST_TERMINALS;
}
