use Rattle.std.proofs.Common.{◌≡◌, ℕ, ◌<◌, false, get_or, List}
use Rattle.fp_reader.specs.Input.{is_answer}
use Rattle.fp_app_tails.proofs.places.answer_place.Given as goal

abbrev pub invariant-loop-place : goal.invariant-loop-place
invariant-loop-place l = (k : ℕ) (d : List (List ℕ)) → k < l.place → is_answer (get_or l.lines k d) ≡ false
