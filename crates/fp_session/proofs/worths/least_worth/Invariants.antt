use Rattle.fp_session.specs.Searches.{history}
use Rattle.fp_session.specs.TreeLines.{IsLeastBelow}
use Rattle.fp_session.proofs.worths.least_worth.Given as goal

abbrev pub invariant-loop-leaf : goal.invariant-loop-leaf
invariant-loop-leaf l = IsLeastBelow (history l.search l.prices) l.search.cost l.search.tree l.leaf l.least
