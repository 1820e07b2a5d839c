use Rattle.std.proofs.Common.{◌≡◌, take}
use Rattle.fp_base_lists.specs.Vectors.{lists_of}
use Rattle.fp_longestarcs.specs.Networks.{points_in}
use Rattle.fp_relaxmodel.specs.Relaxed.{coarsened}
use Rattle.fp_relaxmodel.proofs.coarsening.relaxed.Given as goal

-- the classes of the routes so far
abbrev pub invariant-loop-route : goal.invariant-loop-route
invariant-loop-route l = l.walks.items ≡ coarsened l.instance (points_in l.network) 1 (lists_of (take l.route-index l.route-items))
