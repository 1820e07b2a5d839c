use Rattle.std.proofs.Common.{◌≡◌, ◌<◌, ℕ, length}
use Rattle.fp_base_lists.specs.Vectors.{lists_of}
use Rattle.fp_model.specs.Numbered.{route_at}
use Rattle.fp_replan.proofs.BegunPlans.{IsBegunRoute}
use Rattle.fp_replan.proofs.starts.start.Given as goal

abbrev pub invariant-loop-number : goal.invariant-loop-number
invariant-loop-number l =
    (length (lists_of l.routes.items) ≡ l.number)
    × ((k : ℕ) → k < l.number → IsBegunRoute l.instance l.kept k (route_at (lists_of l.routes.items) k))
