-- Relaxed plans, and how plans coarsen into them.
-- The source of the relaxation, that of dynamic discretization discovery: Boland, Hewitt, Marshall
-- and Savelsbergh, "The Continuous-Time Service Network Design Problem", Operations Research 65,
-- 2017.
use Rattle.std.specs.Prelude.{ℕ, ◌≤◌, List, [], map, Option}
use Rattle.std.specs.List.{AllZip}
use Rattle.fp_model.specs.declared.parts.Leg.{Leg}
use Rattle.fp_model.specs.declared.parts.Shipment.{Shipment}
use Rattle.fp_model.specs.Costs.{cost}
use Rattle.fp_base_lists.specs.Numbered.{AllZipFrom}
use Rattle.fp_model.specs.Plans.{IsPlan}
use Rattle.fp_model.specs.Problem.{Problem}
use Rattle.fp_model.specs.Routes.{IsRoute, arcs_of}
use Rattle.fp_flatnet.specs.declared.window_tables.Window.{Window}
use Rattle.fp_flatnet.specs.Windows.{PlanLiesWithin}
use Rattle.fp_longestarcs.specs.Classes.{class_of}
use Rattle.fp_allowed.specs.Allowed.{is_allowed}
use Rattle.fp_allowed.specs.Walks.{IsTimedWalk}

-- a relaxed walk of the shipment with the number k: its arcs are a route, and its classes a timed
-- walk over classes that are allowed without any sides
pub record IsRelaxedWalk (p : Problem) (windows : ℕ → ℕ → Option Window) (points : ℕ → List ℕ) (k : ℕ) (s : Shipment) (walk : List Leg) : Type 0 where
  pub route : IsRoute p s (arcs_of walk)
  pub timed : IsTimedWalk p points (is_allowed p windows points [] k) s walk

-- a relaxed plan: each shipment has a relaxed walk
abbrev pub IsRelaxedPlan : Problem → (ℕ → ℕ → Option Window) → (ℕ → List ℕ) → List (List Leg) → Type 0
IsRelaxedPlan p windows points walks =
    AllZipFrom (λ k s walk. IsRelaxedWalk p windows points k s walk) 0 p.shipments walks

-- each shipment has a timed walk over classes that are allowed without any sides, also one that
-- returns to a terminal
abbrev pub AreTimedWalks : Problem → (ℕ → ℕ → Option Window) → (ℕ → List ℕ) → List (List Leg) → Type 0
AreTimedWalks p windows points walks =
    AllZipFrom (λ k (s : Shipment) walk. IsTimedWalk p points (is_allowed p windows points [] k) s walk) 0 p.shipments walks

-- each shipment has a walk whose arcs are a route of it
abbrev pub HasRoutes : Problem → List (List Leg) → Type 0
HasRoutes p walks = AllZip (λ s walk. IsRoute p s (arcs_of walk)) p.shipments walks

-- the classes of all legs of routes over the denominator d
abbrev pub coarsened : Problem → (ℕ → List ℕ) → ℕ → List (List Leg) → List (List Leg)
coarsened p points d routes = map (map (class_of p points d)) routes

-- every plan over any denominator that lies within the windows coarsens into a relaxed plan that
-- costs no more
abbrev pub CoarsensPlans : Problem → (ℕ → ℕ → Option Window) → (ℕ → List ℕ) → Type 0
CoarsensPlans p windows points =
    (d : ℕ) (routes : List (List Leg)) → 1 ≤ d → IsPlan p d routes → PlanLiesWithin windows d routes →
    IsRelaxedPlan p windows points (coarsened p points d routes) × (cost p (coarsened p points d routes) ≤ cost p routes)
