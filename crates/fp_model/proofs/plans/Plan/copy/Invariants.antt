use Rattle.std.proofs.Common.{◌≡◌, take}
use Rattle.fp_base_lists.specs.Vectors.{lists_of}
use Rattle.fp_model.proofs.plans.Plan.copy.Given as goal

-- the routes so far are equal
abbrev pub invariant-loop-route : goal.invariant-loop-route
invariant-loop-route l = lists_of l.routes.items ≡ lists_of (take l.route-index l.route-items)
