-- A route goes by each arc at most once, so the legs of a relaxed plan can be numbered.
use Rattle.std.proofs.Common.{◌≡◌, ◌≢◌, ℕ, ◌-◌, ◌<◌, ◌≤◌, ◌^◌, true, false, List, [], ◌∷◌, length, ⊎_elim, refl, sym, subst, arith, eqb-true}
use Rattle.std.specs.Prelude.{All}
use Rattle.std.specs.List.{AllByRecursion, AllZip, IsDistinct, list_any}
use Rattle.std.proofs.Math.Dec.{eqb}
use Rattle.std.proofs.lemmas.Bool.{ne_eqb, or_cases, false≢true}
use Rattle.std.proofs.lemmas.List.Elements.{All-cons, All-nil}
use Rattle.std.proofs.lemmas.Map.Steps.{length-le_from_distinct_below}
use Rattle.fp_base_lists.proofs.DistinctSums.{length-distinct-le}
use Rattle.fp_model.specs.declared.limits.TheConstants.{MOST_ARCS}
use Rattle.fp_model.specs.declared.parts.Leg.{Leg}
use Rattle.fp_model.specs.declared.parts.Shipment.{Shipment}
use Rattle.fp_model.specs.Problem.{Problem, IsValid, arc_at}
use Rattle.fp_model.specs.Routes.{IsRoute, arcs_of, ends_of}
use Rattle.fp_base_lists.specs.Distinct.{AreDistinct}
use Rattle.fp_model.proofs.Bounds.{Leads-exist}
use Rattle.fp_base_lists.proofs.Distinct.{AreDistinct-from_map, AreDistinct-tail}
use Rattle.fp_base_lists.proofs.Elements.{AllByRecursion-weaker}
use Rattle.fp_relaxmodel.specs.Relaxed.{HasRoutes}
use Rattle.fp_relaxmodel.proofs.RouteCosts.{HasRoutes-long}
use Rattle.fp_model.proofs.Faultless.{length-arcs_of}

-- a walk whose arcs are a route has at most as many legs as there are arcs
IsRoute-short : (p : Problem) (s : Shipment) (walk : List Leg) → IsRoute p s (arcs_of walk) → length walk ≤ length p.arcs
IsRoute-short p s walk route =
    let apart : AreDistinct (arcs_of walk) = AreDistinct-from_map (λ a. (arc_at p a).to) (arcs_of walk) (AreDistinct-tail s.from (ends_of p (arcs_of walk)) route.once) in
    let few : length (arcs_of walk) ≤ length p.arcs =
    length-distinct-le (length p.arcs) (arcs_of walk) (Leads-exist p s.from (arcs_of walk) s.to route.leads) apart in
    omega (arith, few, length-arcs_of walk)

-- a walk is short enough for its legs to be numbered
abbrev IsShort : List Leg → Type 0
IsShort walk = length walk < 2 ^ 32 - 1

walks-short : (p : Problem) (ss : List Shipment) (walks : List (List Leg)) → length p.arcs ≤ MOST_ARCS → AllZip (λ s walk. IsRoute p s (arcs_of walk)) ss walks → All IsShort walks
walks-short p [] [] few routes = All-nil IsShort
walks-short p [] (w ∷ walks) few routes = absurd routes
walks-short p (s ∷ ss) [] few routes = absurd routes
walks-short p (s ∷ ss) (w ∷ walks) few routes = All-cons IsShort w walks (omega (arith, IsRoute-short p s w routes.0, few)) (walks-short p ss walks few routes.1)

-- walks that are routes of the shipments are short enough
pub HasRoutes-few_legs : (p : Problem) (walks : List (List Leg)) → IsValid p → HasRoutes p walks → All (λ walk. length walk < 2 ^ 32 - 1) walks
HasRoutes-few_legs p walks valid routes = walks-short p p.shipments walks valid.parts.few_arcs routes

-- and few enough
pub HasRoutes-few_walks : (p : Problem) (walks : List (List Leg)) → IsValid p → HasRoutes p walks → length walks < 2 ^ 32 - 1
HasRoutes-few_walks p walks valid routes = omega (arith, HasRoutes-long p walks routes, valid.parts.few_shipments)
