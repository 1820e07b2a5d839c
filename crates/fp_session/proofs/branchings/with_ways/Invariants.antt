use Rattle.std.specs.Prelude.{All}
use Rattle.fp_session.specs.Choices.{IsBranching}
use Rattle.fp_session.specs.Searches.{history}
use Rattle.fp_session.proofs.branchings.with_ways.Given as goal

abbrev pub invariant-loop-place : goal.invariant-loop-place
invariant-loop-place l = All (IsBranching (history l.search l.prices) l.leaf.sides) l.list.items
