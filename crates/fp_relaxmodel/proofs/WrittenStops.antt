-- Classes as a walk keeps them and as contracts write them.
use Rattle.std.proofs.Common.{◌≡◌, ℕ, ◌<◌, List, length, get_or, subst}
use Rattle.std.specs.Prelude.{Some, slice_get}
use Rattle.std.proofs.lemmas.List.{length-map}
use Rattle.std.proofs.lemmas.Option.{get_or_from_slice_get, slice_get_within}
use Rattle.fp_model.specs.Problem.{Problem}
use Rattle.fp_model.specs.Routes.{ArcsExist}
use Rattle.fp_base_lists.proofs.Maps.{get_or-map_default}
use Rattle.fp_longestarcs.specs.declared.stops.Stop.{Stop}
use Rattle.fp_longestarcs.specs.Stops.{leg_of, legs_of}

-- the arc of a class exists where those of all do
pub arc-exists : (p : Problem) (stops : List Stop) (i : ℕ) (d : Stop) → ArcsExist p (legs_of stops) → i < length stops → (get_or stops i d).arc < length p.arcs
arc-exists p stops i d exist lt =
    let there : i < length (legs_of stops) = rw length-map lt in
    rw (get_or-map_default leg_of stops i d) at (exist i (leg_of d) there)

-- so does that of the first class
pub first-exists : (p : Problem) (stops : List Stop) (first : Stop) → ArcsExist p (legs_of stops) → slice_get stops 0 ≡ Some first → first.arc < length p.arcs
first-exists p stops first exist is =
    subst (λ (s : Stop). s.arc < length p.arcs) (get_or_from_slice_get stops 0 first first is) (arc-exists p stops 0 first exist (slice_get_within stops 0 first is))
