-- The kept legs of each shipment as a list of routes that begin.
use Rattle.std.specs.Prelude.{ℕ, ◌<◌, ◌≡◌, ◌≢◌, List, length}
use Rattle.std.specs.List.{AllByRecursion}
use Rattle.fp_base_lists.specs.Distinct.{AreDistinct}
use Rattle.fp_model.specs.declared.parts.Leg.{Leg}
use Rattle.fp_model.specs.declared.parts.Shipment.{Shipment}
use Rattle.fp_model.specs.Numbered.{route_at}
use Rattle.fp_model.specs.Problem.{Problem, arc_at}
use Rattle.fp_model.specs.Routes.{Leads, arcs_of}
use Rattle.fp_replan.specs.declared.kept.Kept.{Kept}
use Rattle.fp_replan.specs.KeptLegs.{kept_of, place_after, places_seen}

-- each of so many shipments has its kept legs
pub record AreBeginnings (kept : List Kept) (count : ℕ) (beginnings : List (List Leg)) : Type 0 where
  pub one_each : length beginnings ≡ count
  pub exact : (k : ℕ) → k < count → route_at beginnings k ≡ kept_of kept k

-- legs with which a route of a shipment may begin: they lead on from its origin, enter no terminal
-- twice, and none leaves its destination
pub record IsBeginning (p : Problem) (s : Shipment) (legs : List Leg) : Type 0 where
  pub leads : Leads p s.from (arcs_of legs) (place_after p s.from legs)
  pub once : AreDistinct (places_seen p s.from legs)
  pub onward : AllByRecursion (λ (l : Leg). (arc_at p l.arc).from ≢ s.to) legs
