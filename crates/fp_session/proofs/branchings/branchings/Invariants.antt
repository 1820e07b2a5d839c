use Rattle.std.specs.Prelude.{◌≤◌, All, length}
use Rattle.fp_session.specs.Choices.{IsBranching}
use Rattle.fp_session.specs.Searches.{history}
use Rattle.fp_session.proofs.branchings.branchings.Given as goal

-- all are branchings, and no fewer than the candidates so far
abbrev pub invariant-loop-place : goal.invariant-loop-place
invariant-loop-place g l = record {
  each : All (IsBranching (history l.search l.prices) l.leaf.sides) l.list.items;
  some : l.place ≤ length l.list.items;
}
