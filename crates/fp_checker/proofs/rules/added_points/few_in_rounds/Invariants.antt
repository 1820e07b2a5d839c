use Rattle.std.proofs.Common.{◌≢◌, ℕ, ◌+◌, ◌<◌, get_or}
use Rattle.fp_timenodes.specs.declared.places.AddedPoint.{AddedPoint}
use Rattle.fp_checker.proofs.rules.added_points.few_in_rounds.Given as goal

-- no point before this place has the round of the eighth before it
abbrev pub invariant-loop-place : goal.invariant-loop-place
invariant-loop-place l = (i : ℕ) (d : AddedPoint) → i + 8 < l.place → (get_or l.added i d).round ≢ (get_or l.added (i + 8) d).round
