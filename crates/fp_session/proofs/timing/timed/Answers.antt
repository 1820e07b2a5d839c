-- A plan that the repair found, or one more round, or the relaxed plan.
use Rattle.std.proofs.Common.{refl, arith}
use Rattle.fp_flatnet.specs.Tables.{windows_in}
use Rattle.fp_relaxmodel.proofs.PlansCoarsen.{HasRoutes-relaxed}
use Rattle.fp_session.specs.Moves.{points_now}
use Rattle.fp_session.proofs.RepairedPlans.{ClashesBelow-repaired}
use Rattle.fp_session.proofs.timing.timed.Goals as goal

pub repair_within-requires-clause-relaxed : goal.repair_within-requires-clause-relaxed
repair_within-requires-clause-relaxed g c =
    HasRoutes-relaxed c.args.search.now.instance (windows_in c.args.search.now.windows) (points_now c.args.search.now) c.args.relaxed c.requires.relaxed

pub returns-then-len-search : goal.returns-then-len-search
returns-then-len-search g c = (
  refl,
  omega (arith, c.if-len-search.true, c.len.ensures, c.args.search.now.trace.ok, c.requires.search.rounds),
  ClashesBelow-repaired c.args.search.now.instance c.args.search.now.windows (points_now c.args.search.now) c.args.search.now.cost c.args.relaxed c.in_ok-plan.field-0.plan c.in_ok-plan.field-0.timed c.requires.relaxed
      c.requires.cheaper c.in_ok-plan.ensures.timed c.in_ok-plan.ensures.together c.in_ok-plan.ensures.apart c.in_ok-plan.ensures.kept (omega (arith, c.if-cost-search.false, c.in_ok-cost.ensures)),
)

pub next_round-requires-clause-clashes : goal.next_round-requires-clause-clashes
next_round-requires-clause-clashes g c =
    ClashesBelow-repaired c.args.search.now.instance c.args.search.now.windows (points_now c.args.search.now) c.args.search.now.cost c.args.relaxed c.in_ok-plan.field-0.plan c.in_ok-plan.field-0.timed c.requires.relaxed
    c.requires.cheaper c.in_ok-plan.ensures.timed c.in_ok-plan.ensures.together c.in_ok-plan.ensures.apart c.in_ok-plan.ensures.kept (omega (arith, c.if-cost-search.false, c.in_ok-cost.ensures))
