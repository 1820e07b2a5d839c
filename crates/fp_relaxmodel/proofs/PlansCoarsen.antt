-- Plans over any denominator coarsen into relaxed plans that cost no more.
use Rattle.std.proofs.Common.{◌≡◌, ◌∙◌, ℕ, ◌+◌, ◌<◌, ◌≤◌, List, [], ◌∷◌, ap, arith, get_or, length, sym, subst}
use Rattle.std.specs.Prelude.{Option, All}
use Rattle.std.specs.declared.alloc.Global.{Global}
use Rattle.std.specs.declared.vec.Vec.{Vec}
use Rattle.std.specs.List.{AllZip}
use Rattle.fp_model.specs.declared.parts.Leg.{Leg}
use Rattle.fp_model.specs.declared.parts.Shipment.{Shipment}
use Rattle.fp_model.specs.Costs.{cost}
use Rattle.fp_base_lists.specs.Vectors.{lists_of}
use Rattle.fp_base_lists.specs.Numbered.{AllZipFrom}
use Rattle.fp_model.specs.Plans.{IsPlan}
use Rattle.fp_model.specs.Problem.{Problem}
use Rattle.fp_model.specs.Routes.{ArcsExist, Carries, IsRoute, arcs_of}
use Rattle.fp_model.proofs.Bounds.{length-lists_of}
use Rattle.fp_base_lists.proofs.Maps.{get_or-map_default}
use Rattle.fp_flatnet.specs.declared.window_tables.Window.{Window}
use Rattle.fp_flatnet.specs.Windows.{PlanLiesWithin}
use Rattle.fp_flatnet.proofs.WholeMoments.{PlanLiesWithin-whole}
use Rattle.fp_longestarcs.proofs.ClassCosts.{cost-classes}
use Rattle.fp_allowed.specs.Allowed.{is_allowed}
use Rattle.fp_allowed.specs.Walks.{IsTimedWalk}
use Rattle.fp_allowed.proofs.PlanClasses.{arcs_of-classes, plan_timed}
use Rattle.fp_relaxmodel.specs.Relaxed.{CoarsensPlans, HasRoutes, IsRelaxedPlan, IsRelaxedWalk, coarsened}
use Rattle.fp_allowed.proofs.FewerSides.{PlanObeys-none}

-- timed walks over routes are relaxed walks
relaxed-from : (p : Problem) (windows : ℕ → ℕ → Option Window) (points : ℕ → List ℕ) (k : ℕ) (ss : List Shipment) (walks : List (List Leg)) → AllZip (λ s walk. IsRoute p s (arcs_of walk)) ss walks →
    AllZipFrom (λ j (s : Shipment) walk. IsTimedWalk p points (is_allowed p windows points [] j) s walk) k ss walks → AllZipFrom (λ j s walk. IsRelaxedWalk p windows points j s walk) k ss walks
relaxed-from p windows points k [] [] routes timed = tt
relaxed-from p windows points k [] (w ∷ walks) routes timed = absurd routes
relaxed-from p windows points k (s ∷ ss) [] routes timed = absurd routes
relaxed-from p windows points k (s ∷ ss) (w ∷ walks) routes timed =
    (record { route = routes.0; timed = timed.0 }, relaxed-from p windows points (k + 1) ss walks routes.1 timed.1)

routes-from : (p : Problem) (points : ℕ → List ℕ) (d : ℕ) (ss : List Shipment) (routes : List (List Leg)) → AllZip (Carries p d) ss routes →
    AllZip (λ s walk. IsRoute p s (arcs_of walk)) ss (coarsened p points d routes)
routes-from p points d [] [] plan = tt
routes-from p points d [] (r ∷ routes) plan = absurd plan
routes-from p points d (s ∷ ss) [] plan = absurd plan
routes-from p points d (s ∷ ss) (r ∷ routes) plan =
    (subst (IsRoute p s) (sym (arcs_of-classes p points d r)) plan.0.route, routes-from p points d ss routes plan.1)

-- the arcs of a plan's classes are routes
HasRoutes-coarsened : (p : Problem) (points : ℕ → List ℕ) (d : ℕ) (routes : List (List Leg)) → IsPlan p d routes → HasRoutes p (coarsened p points d routes)
HasRoutes-coarsened p points d routes plan = routes-from p points d p.shipments routes plan

plan-routes : (p : Problem) (d : ℕ) (ss : List Shipment) (routes : List (List Leg)) → AllZip (Carries p d) ss routes → AllZip (λ s r. IsRoute p s (arcs_of r)) ss routes
plan-routes p d [] [] plan = tt
plan-routes p d [] (r ∷ routes) plan = absurd plan
plan-routes p d (s ∷ ss) [] plan = absurd plan
plan-routes p d (s ∷ ss) (r ∷ routes) plan = (plan.0.route, plan-routes p d ss routes plan.1)

-- so are those of the plan itself
pub HasRoutes-plan : (p : Problem) (d : ℕ) (routes : List (List Leg)) → IsPlan p d routes → HasRoutes p routes
HasRoutes-plan p d routes plan = plan-routes p d p.shipments routes plan

without-times : (p : Problem) (windows : ℕ → ℕ → Option Window) (points : ℕ → List ℕ) (k : ℕ) (ss : List Shipment) (walks : List (List Leg)) → AllZipFrom (λ j s walk. IsRelaxedWalk p windows points j s walk) k ss walks →
    AllZip (λ s walk. IsRoute p s (arcs_of walk)) ss walks
without-times p windows points k [] [] relaxed = tt
without-times p windows points k [] (w ∷ walks) relaxed = absurd relaxed
without-times p windows points k (s ∷ ss) [] relaxed = absurd relaxed
without-times p windows points k (s ∷ ss) (w ∷ walks) relaxed = (relaxed.0.route, without-times p windows points (k + 1) ss walks relaxed.1)

-- the arcs of a relaxed plan are routes
pub HasRoutes-relaxed : (p : Problem) (windows : ℕ → ℕ → Option Window) (points : ℕ → List ℕ) (walks : List (List Leg)) → IsRelaxedPlan p windows points walks → HasRoutes p walks
HasRoutes-relaxed p windows points walks relaxed = without-times p windows points 0 p.shipments walks relaxed

-- a plan within the windows coarsens into a relaxed plan
pub relaxed-coarsened : (p : Problem) (windows : ℕ → ℕ → Option Window) (points : ℕ → List ℕ) (d : ℕ) (routes : List (List Leg)) → 1 ≤ d → IsPlan p d routes → PlanLiesWithin windows d routes →
    IsRelaxedPlan p windows points (coarsened p points d routes)
relaxed-coarsened p windows points d routes h plan within =
    relaxed-from p windows points 0 p.shipments (coarsened p points d routes) (HasRoutes-coarsened p points d routes plan)
    (plan_timed p windows points [] d routes h plan (PlanLiesWithin-whole windows d routes h within) (PlanObeys-none p d routes))

-- routes coarsen into walks that cost no more
pub cost-coarsened : (p : Problem) (points : ℕ → List ℕ) (d : ℕ) (routes : List (List Leg)) → cost p (coarsened p points d routes) ≤ cost p routes
cost-coarsened p points d routes = cost-classes p points d routes

-- every plan over any denominator within the windows has a relaxed plan that costs no more,
-- whatever the points are
pub coarsens-plans : (p : Problem) (windows : ℕ → ℕ → Option Window) (points : ℕ → List ℕ) → CoarsensPlans p windows points
coarsens-plans p windows points d routes h plan within =
    (relaxed-coarsened p windows points d routes h plan within, cost-coarsened p points d routes)

-- the arcs of the route at a place exist where those of all do
pub route-arcs : (p : Problem) (routes : List (Vec Leg Global)) (plan : List (List Leg)) (i : ℕ) (v : Vec Leg Global) → lists_of routes ≡ plan → All (ArcsExist p) plan → i < length routes → v ≡ get_or routes i v → ArcsExist p v.items
route-arcs p routes plan i v view exist lt is =
    let all : All (ArcsExist p) (lists_of routes) = subst (All (ArcsExist p)) (sym view) exist in
    let there : i < length (lists_of routes) = omega (arith, length-lists_of routes, lt) in
    let items : Vec Leg Global → List Leg = λ r. r.items in
    let same : get_or (lists_of routes) i v.items ≡ v.items = get_or-map_default items routes i v ∙ ap items (sym is) in
    subst (ArcsExist p) same (all i v.items there)
