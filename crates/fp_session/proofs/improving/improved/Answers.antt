-- What came of the improvement is kept, or what was kept before.
use Rattle.std.proofs.Common.{sym, ap, subst, arith}
use Rattle.fp_allowed.specs.Settings.{Setting}
use Rattle.fp_duals_leaves.specs.Prices.{HaveGrown}
use Rattle.fp_session.specs.declared.kept.Kept.{Kept}
use Rattle.fp_session.specs.Nodes.{IsKept}
use Rattle.fp_session.specs.Searches.{history}
use Rattle.fp_session.proofs.Improvements.{empty-here, found-here}
use Rattle.fp_session.proofs.improving.improved.Goals as goal

pub overflow_cast-round : goal.overflow_cast-round
overflow_cast-round g c = omega (arith, c.requires.search.rounds, c.requires.search.budget.rounds)

pub returns-in-Empty-clause-outcome : goal.returns-in-Empty-clause-outcome
returns-in-Empty-clause-outcome g c = (
  subst (λ (k : Kept). IsKept (history c.args.search.now c.improve.new.prices) c.args.leaf.now.sides k.payload k.value) (sym c.emptied.ensures)
      (empty-here c.args.search.now c.args.prices.now c.improve.new.prices c.requires.search c.args.leaf.now.sides c.args.leaf.now.setting c.requires.setting c.len-round.result
      c.in_ok-price.field-0 c.in_ok-price.ensures.improved (omega (arith, c.len-round.ensures, c.args.search.now.trace.ok)) c.in-Empty.price c.in-Empty.is),
  ap (λ (k : Kept). k.payload.empty) c.emptied.ensures,
)

pub returns-in-Priced-clause-outcome : goal.returns-in-Priced-clause-outcome
returns-in-Priced-clause-outcome g c =
    found-here c.args.search.now c.args.prices.now c.improve.new.prices c.requires.search c.args.leaf.now.sides c.args.leaf.now.setting c.requires.setting c.len-round.result
    c.in_ok-price.field-0 c.in_ok-price.ensures.improved (omega (arith, c.len-round.ensures, c.args.search.now.trace.ok)) c.in-Priced.price c.in-Priced.value c.in-Priced.walks c.in-Priced.is
    (subst (λ (x : Setting). HaveGrown x.problem x.windows c.args.prices.now c.improve.new.prices) c.requires.setting c.improve.ensures.grown) c.args.old c.greater.result c.requires.kept c.requires.some c.greater.ensures
