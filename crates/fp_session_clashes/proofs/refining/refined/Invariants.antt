use Rattle.std.proofs.Common.{ℕ, ◌<◌, ◌≤◌, take, length, get_or}
use Rattle.fp_timenodes.specs.declared.places.Place.{Place}
use Rattle.fp_session_clashes.specs.Refining.{CanAdd, IsRefined}
use Rattle.fp_session_clashes.proofs.refining.refined.Given as goal

abbrev pub invariant-loop-place : goal.invariant-loop-place
invariant-loop-place l = record {
  refined : IsRefined l.instance l.fn.points l.round (take l.place-index l.places) l.refined;
  later : (k : ℕ) (d : Place) → l.place-index ≤ k → k < length l.places → CanAdd l.instance l.refined.points l.round (get_or l.places k d);
}
