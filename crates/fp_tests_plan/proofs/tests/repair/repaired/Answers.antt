use Rattle.fp_relaxmodel.proofs.PlansCoarsen.{HasRoutes-relaxed}
use Rattle.fp_tests_plan.proofs.tests.repair.repaired.Goals as goal

pub repair-requires-clause-relaxed : goal.repair-requires-clause-relaxed
repair-requires-clause-relaxed c = HasRoutes-relaxed c.args.instance.now _ _ _ c.in_ok-relaxed.ensures.relaxed
