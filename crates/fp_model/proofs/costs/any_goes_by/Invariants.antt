use Rattle.std.proofs.Common.{◌≡◌, drop}
use Rattle.fp_model.specs.Costs.{all_legs, has_leg}
use Rattle.fp_base_lists.specs.Vectors.{lists_of}
use Rattle.fp_model.proofs.costs.any_goes_by.Given as goal

-- the routes that are left decide
abbrev pub invariant-loop-route : goal.invariant-loop-route
invariant-loop-route l =
    has_leg l.leg (all_legs (lists_of (drop l.route-index l.routes))) ≡ has_leg l.leg (all_legs (lists_of l.routes))
