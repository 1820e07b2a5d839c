use Rattle.std.proofs.Common.{◌≡◌, ℕ, ◌<◌, false, get_or, List}
use Rattle.fp_app_tails.specs.Tails.{begins_tail}
use Rattle.fp_app_tails.proofs.places.tail_place.Given as goal

abbrev pub invariant-loop-place : goal.invariant-loop-place
invariant-loop-place l = (k : ℕ) (d : List (List ℕ)) → k < l.place → begins_tail (get_or l.lines k d) ≡ false
