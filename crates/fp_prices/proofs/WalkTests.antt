-- What the tests of a walk of classes tell together.
use Rattle.std.proofs.Common.{◌≡◌, ℕ, Bool, true, false, List, length, get_or, map, sym, ap, ◌∙◌, subst, arith}
use Rattle.std.specs.Prelude.{◌↔◌, IfOk, IsTrue, Option, Result, Ok, Err}
use Rattle.std.specs.declared.alloc.AllocError.{AllocError}
use Rattle.std.proofs.lemmas.Bool.{false≢true}
use Rattle.std.proofs.lemmas.List.{get_or-map, length-map}
use Rattle.fp_base_lists.specs.Distinct.{AreDistinct}
use Rattle.fp_base_lists.proofs.Distinct.{AreDistinct-from_map}
use Rattle.fp_model.specs.declared.parts.Leg.{Leg}
use Rattle.fp_model.specs.declared.parts.Shipment.{Shipment}
use Rattle.fp_model.specs.Problem.{Problem}
use Rattle.fp_timenodes.specs.declared.places.Place.{Place}
use Rattle.fp_longestarcs.specs.Networks.{TimedNetwork, points_in}
use Rattle.fp_allowed.specs.Walks.{IsTimedWalk}
use Rattle.fp_prices.specs.ClassCosts.{AllowsClasses, HoldsClassCosts}
use Rattle.fp_prices.specs.LeastWalks.{IsWalkOfCost, nodes_met}
use Rattle.fp_prices.specs.Leaves.{walk_cost}
use Rattle.fp_prices.specs.TimedWalks.{node_of_place}

-- a timed node as a place
abbrev place_of : ℕ × ℕ → Place
place_of n = record { terminal = n.0; at = n.1 }

-- places are distinct exactly where their nodes are
pub places-distinct : (places : List Place) (b : Bool) → IsTrue b ↔ AreDistinct places → IsTrue b ↔ AreDistinct (map node_of_place places)
places-distinct places b told = (λ set. apart (told.0 set), λ distinct. told.1 (AreDistinct-from_map node_of_place places distinct))
  where
    apart : AreDistinct places → AreDistinct (map node_of_place places)
    apart distinct i j d less lt same =
        let long : length (map node_of_place places) ≡ length places = length-map places node_of_place in
        let first : get_or (map node_of_place places) i d ≡ node_of_place (get_or places i (place_of d)) = get_or-map node_of_place places i (place_of d) d (omega (arith, less, lt, long)) in
        let second : get_or (map node_of_place places) j d ≡ node_of_place (get_or places j (place_of d)) = get_or-map node_of_place places j (place_of d) d (omega (arith, lt, long)) in
        distinct i j (place_of d) less (omega (arith, lt, long)) (ap place_of (sym first ∙ same ∙ second))

-- a list of classes that isn't a timed walk at a cost is no walk of that cost
pub no-walk_of_cost : (p : Problem) (points : ℕ → List ℕ) (allowed : Leg → Bool) (s : Shipment) (price : Leg → ℕ) (walk : List Leg) (cost : ℕ) (timed : Bool) → timed ≡ false →
    (IsTrue timed ↔ (IsTimedWalk p points allowed s walk × (walk_cost p price s.size walk ≡ cost))) → IsTrue false ↔ IsWalkOfCost p points allowed s price walk cost
no-walk_of_cost p points allowed s price walk cost timed unset told = (λ h. absurd (false≢true h), λ is. sym unset ∙ told.1 (is.timed, is.costs_so))

-- and one that is, and repeats no node, is such a walk
pub walk_of_cost : (p : Problem) (net : TimedNetwork) (s : Shipment) (from : ℕ) (costs : List (Option ℕ)) (walk : List Leg) (cost : ℕ) (timed : Bool) (r : Result Bool AllocError) → timed ≡ true → from ≡ s.from →
    ((allowed : Leg → Bool) (price : Leg → ℕ) → AllowsClasses net allowed → HoldsClassCosts p net allowed price s.size costs →
    IsTrue timed ↔ (IsTimedWalk p (points_in net) allowed s walk × (walk_cost p price s.size walk ≡ cost))) →
    IfOk r (λ apart. IsTrue apart ↔ AreDistinct (nodes_met p (points_in net) (from, 0) walk)) →
    IfOk r (λ is. (allowed : Leg → Bool) (price : Leg → ℕ) → AllowsClasses net allowed → HoldsClassCosts p net allowed price s.size costs → IsTrue is ↔ IsWalkOfCost p (points_in net) allowed s price walk cost)
walk_of_cost p net s from costs walk cost timed (Err e) set begins told apart = tt
walk_of_cost p net s from costs walk cost timed (Ok b) set begins told apart = λ allowed price classes holds. (
  λ h.
      let both = (told allowed price classes holds).0 set in
      record {
        timed = both.0;
        costs_so = both.1;
        apart = subst (λ (t : ℕ). AreDistinct (nodes_met p (points_in net) (t, 0) walk)) begins (apart.0 h);
      },
  λ is. apart.1 (subst (λ (t : ℕ). AreDistinct (nodes_met p (points_in net) (t, 0) walk)) (sym begins) is.apart),
)
