use Rattle.fp_session_clashes.specs.Places.{AreFreePlaces}
use Rattle.fp_session_clashes.proofs.places.free_places.Given as goal

abbrev pub invariant-loop-place : goal.invariant-loop-place
invariant-loop-place l = AreFreePlaces l.instance l.network l.places.items
