-- A division by the branching that was chosen: the unit stays while prices grow.
use Rattle.std.proofs.Common.{ℕ, sym, subst}
use Rattle.std.specs.Prelude.{Option}
use Rattle.fp_flatnet.specs.Tables.{windows_in}
use Rattle.fp_duals_leaves.proofs.GrownPrices.{unit-grown}
use Rattle.fp_session_history.specs.Divisions.{Divides}
use Rattle.fp_session.specs.Choices.{fork_by}
use Rattle.fp_session.proofs.dividing.division.Goals as goal

pub returns-clause-division : goal.returns-clause-division
returns-clause-division g c = record {
  range = c.requires.chosen.branching.range;
  divides =
      subst (λ (unit : Option ℕ). Divides unit c.args.search.now.instance (windows_in c.args.search.now.windows) c.args.leaf.now.sides (fork_by c.args.chosen.branching))
      (sym (unit-grown c.args.search.now.instance c.args.search.now.windows c.args.prices.now c.leaves_below.new.prices c.leaves_below.ensures.grown))
      c.requires.chosen.branching.divides;
  tail = c.requires.chosen.branching.tail;
  first = c.in_ok-below.ensures.kept.first;
  second = c.in_ok-below.ensures.kept.second;
}
