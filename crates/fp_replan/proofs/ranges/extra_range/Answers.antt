use Rattle.std.proofs.Common.{◌≤◌, subst, arith}
use Rattle.fp_model.specs.Plans.{NoPlanCheaper}
use Rattle.fp_replan.specs.Quotes.{without_last}
use Rattle.fp_replan.proofs.PlansWithout.{low-le}
use Rattle.fp_replan.proofs.ranges.extra_range.Goals as goal

pub returns-clause-exact : goal.returns-clause-exact
returns-clause-exact c =
    λ p before after same_before same_after.
    let le : c.args.before_low ≤ c.args.after_cost = low-le p c.args.before_low c.args.after_cost before.low_is after.cost_is in (
      record {
        before = c.args.before_cost;
        after = c.args.after_cost;
        without = record { attained = before.cost_is; least = subst (NoPlanCheaper (without_last p)) same_before before.low_is };
        with_it = record { attained = after.cost_is; least = subst (NoPlanCheaper p) same_after after.low_is };
        more = omega (arith, le, same_before, same_after, c.saturating_sub.ensures);
      },
      omega (arith, le, same_before, same_after, c.saturating_sub.ensures),
    )
