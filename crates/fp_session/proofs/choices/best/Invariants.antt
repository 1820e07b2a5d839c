use Rattle.std.specs.Prelude.{◌≡◌}
use Rattle.fp_session.specs.Choices.{IsChosen}
use Rattle.fp_session.specs.Searches.{history}
use Rattle.fp_session.proofs.choices.best.Given as goal

-- the best trial so far is one, and the prices are as they were
abbrev pub invariant-loop-place : goal.invariant-loop-place
invariant-loop-place g l = record { same : l.prices ≡ l.initial.prices; chosen : IsChosen (history l.search l.initial.prices) l.leaf.sides l.best.chosen }
