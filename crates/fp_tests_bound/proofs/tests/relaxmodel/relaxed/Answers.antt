use Rattle.fp_relaxmodel.proofs.PlansCoarsen.{HasRoutes-relaxed}
use Rattle.fp_relaxmodel.proofs.RouteLengths.{HasRoutes-few_legs, HasRoutes-few_walks}
use Rattle.fp_tests_bound.proofs.tests.relaxmodel.relaxed.Goals as goal

pub relaxed_cost-cost-requires : goal.relaxed_cost-cost-requires
relaxed_cost-cost-requires c = HasRoutes-relaxed c.args.instance.now _ _ _ c.in_ok-relaxed.ensures.relaxed

pub groups-requires-clause-few_walks : goal.groups-requires-clause-few_walks
groups-requires-clause-few_walks c =
    HasRoutes-few_walks c.args.instance.now _ c.requires.belongs.valid (HasRoutes-relaxed c.args.instance.now _ _ _ c.in_ok-relaxed.ensures.relaxed)

pub groups-requires-clause-few_legs : goal.groups-requires-clause-few_legs
groups-requires-clause-few_legs c =
    HasRoutes-few_legs c.args.instance.now _ c.requires.belongs.valid (HasRoutes-relaxed c.args.instance.now _ _ _ c.in_ok-relaxed.ensures.relaxed)
