use Rattle.std.proofs.Common.{◌<◌, ◌≤◌, length}
use Rattle.fp_session_clashes.specs.Places.{ArePlacesOf}
use Rattle.fp_session_clashes.proofs.places.first_places.Given as goal

abbrev pub invariant-loop-number : goal.invariant-loop-number
invariant-loop-number l = record {
  are : ArePlacesOf l.shorts l.places.items;
  some : 0 < l.number → 1 ≤ length l.places.items;
}
