use Rattle.std.proofs.Common.{◌≡◌, ◌≤◌, length}
use Rattle.std.specs.Prelude.{All, IfSome}
use Rattle.fp_session_branching.specs.declared.rises.TheConstants.{GREATEST}
use Rattle.fp_session_branching.proofs.rises.costs_over.Given as goal

-- as many as were looked at, none above the greatest cost
abbrev pub invariant-loop-place : goal.invariant-loop-place
invariant-loop-place l = record {
  count : length l.capped.items ≡ l.place;
  small : All (λ o. IfSome o (λ cost. cost ≤ GREATEST)) l.capped.items;
}
