use Rattle.std.proofs.Common.{◌≡◌, []}
use Rattle.std.specs.Prelude.{replicate}
use Rattle.fp_base_lists.specs.Vectors.{lists_of}
use Rattle.fp_checker.proofs.rules.plans.bare_routes.Given as goal

-- so many routes as were counted
abbrev pub invariant-loop-route : goal.invariant-loop-route
invariant-loop-route l = lists_of l.routes.items ≡ replicate l._route []
