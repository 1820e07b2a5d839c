-- Where timed walks are a relaxed plan, and that it is one over other lists of the same points.
use Rattle.std.proofs.Common.{◌≢◌, ℕ, ◌+◌, List, [], ◌∷◌, length}
use Rattle.std.specs.Prelude.{All, Option}
use Rattle.std.specs.List.{AllByRecursion}
use Rattle.std.proofs.lemmas.List.Elements.{recursion_from_All}
use Rattle.fp_model.specs.declared.parts.Leg.{Leg}
use Rattle.fp_model.specs.declared.parts.Shipment.{Shipment}
use Rattle.fp_base_lists.specs.Numbered.{AllZipFrom}
use Rattle.fp_model.specs.Problem.{IsShipment, IsValid, Problem}
use Rattle.fp_base_lists.specs.Distinct.{AreDistinct}
use Rattle.fp_flatnet.specs.declared.window_tables.Window.{Window}
use Rattle.fp_allowed.specs.Allowed.{is_allowed}
use Rattle.fp_allowed.specs.SamePoints.{AgreeOnPoints}
use Rattle.fp_allowed.specs.Walks.{IsTimedWalk}
use Rattle.fp_allowed.proofs.SamePoints.{allowed_walk_same}
use Rattle.fp_relaxmodel.specs.Relaxed.{AreTimedWalks, IsRelaxedPlan, IsRelaxedWalk}
use Rattle.fp_relaxmodel.specs.Terminals.{terminals_on}
use Rattle.fp_relaxmodel.proofs.MetTerminals.{route-decides}

-- a timed walk on which no terminal stands twice, as `is_route` tells, is a relaxed walk
pub IsRelaxedWalk-timed : (p : Problem) (windows : ℕ → ℕ → Option Window) (points : ℕ → List ℕ) (k : ℕ) (s : Shipment) (walk : List Leg) → s.from ≢ s.to →
    IsTimedWalk p points (is_allowed p windows points [] k) s walk → AreDistinct (terminals_on p walk) → IsRelaxedWalk p windows points k s walk
IsRelaxedWalk-timed p windows points k s walk ends timed apart = record {
  route = (route-decides (AreDistinct (terminals_on p walk)) p walk ((λ a. a), (λ a. a)) s ends timed.leads).0 apart;
  timed = timed;
}

timed-from : (p : Problem) (windows : ℕ → ℕ → Option Window) (points : ℕ → List ℕ) (k : ℕ) (ss : List Shipment) (walks : List (List Leg)) →
    AllByRecursion (IsShipment (length p.terminals)) ss → AllZipFrom (λ j (s : Shipment) walk. IsTimedWalk p points (is_allowed p windows points [] j) s walk) k ss walks →
    AllByRecursion (λ walk. AreDistinct (terminals_on p walk)) walks → AllZipFrom (λ j s walk. IsRelaxedWalk p windows points j s walk) k ss walks
timed-from p windows points k [] [] valid timed apart = tt
timed-from p windows points k [] (w ∷ walks) valid timed apart = absurd timed
timed-from p windows points k (s ∷ ss) [] valid timed apart = absurd timed
timed-from p windows points k (s ∷ ss) (w ∷ walks) valid timed apart =
    (IsRelaxedWalk-timed p windows points k s w valid.0.ends timed.0 apart.0, timed-from p windows points (k + 1) ss walks valid.1 timed.1 apart.1)

-- timed walks of the shipments on none of which a terminal stands twice are a relaxed plan
pub IsRelaxedPlan-timed : (p : Problem) (windows : ℕ → ℕ → Option Window) (points : ℕ → List ℕ) (walks : List (List Leg)) → IsValid p →
    AreTimedWalks p windows points walks → All (λ walk. AreDistinct (terminals_on p walk)) walks → IsRelaxedPlan p windows points walks
IsRelaxedPlan-timed p windows points walks valid timed apart =
    timed-from p windows points 0 p.shipments walks (recursion_from_All (IsShipment (length p.terminals)) p.shipments valid.parts.shipments) timed
    (recursion_from_All (λ walk. AreDistinct (terminals_on p walk)) walks apart)

module _ (p : Problem) (valid : IsValid p) (windows : ℕ → ℕ → Option Window) (points others : ℕ → List ℕ) (same : AgreeOnPoints p points others) where
  same-from : (k : ℕ) (ss : List Shipment) (walks : List (List Leg)) → AllZipFrom (λ j s walk. IsRelaxedWalk p windows points j s walk) k ss walks →
      AllZipFrom (λ j s walk. IsRelaxedWalk p windows others j s walk) k ss walks
  same-from k [] [] relaxed = tt
  same-from k [] (w ∷ walks) relaxed = absurd relaxed
  same-from k (s ∷ ss) [] relaxed = absurd relaxed
  same-from k (s ∷ ss) (w ∷ walks) relaxed =
      (record { route = relaxed.0.route; timed = allowed_walk_same p valid points others same windows [] k s w relaxed.0.timed }, same-from (k + 1) ss walks relaxed.1)

  -- a relaxed plan over some points is one over others that agree
  pub IsRelaxedPlan_same : (walks : List (List Leg)) → IsRelaxedPlan p windows points walks → IsRelaxedPlan p windows others walks
  IsRelaxedPlan_same walks relaxed = same-from 0 p.shipments walks relaxed
