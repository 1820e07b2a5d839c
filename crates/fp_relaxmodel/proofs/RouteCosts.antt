-- A relaxed plan costs at most the sum of its shipments alone over every arc, so it fits its type.
use Rattle.std.proofs.Common.{◌≡◌, ℕ, ◌+◌, ◌*◌, ◌<◌, ◌≤◌, ◌^◌, List, [], ◌∷◌, length, arith, le_refl}
use Rattle.std.specs.Prelude.{sum_by, slice_index_or, All}
use Rattle.std.specs.List.{AllZip}
use Rattle.std.proofs.lemmas.List.Elements.{All-cons, All-nil}
use Rattle.std.proofs.lemmas.List.Sums.{sum_by-cons}
use Rattle.std.proofs.lemmas.Slice.Zip.{AllZip-long}
use Rattle.fp_model.specs.declared.parts.Leg.{Leg}
use Rattle.fp_model.specs.declared.parts.Shipment.{Shipment}
use Rattle.fp_model.specs.Costs.{cost, flow_cost, flow_total}
use Rattle.fp_model.specs.Problem.{Problem, IsValid, alone_cost, alone_total, arc_at, no_arc}
use Rattle.fp_model.specs.Routes.{ArcsExist, IsRoute, arcs_of, ends_of}
use Rattle.fp_model.proofs.Bounds.{Leads-exist, alone_routes, alone_trucks, departures-le-alone, legs-exist}
use Rattle.fp_base_lists.proofs.Distinct.{AreDistinct-from_map, AreDistinct-tail}
use Rattle.fp_base_lists.proofs.DistinctSums.{sum_by-places-le}
use Rattle.fp_base_lists.proofs.Sums.{sum_by-both, sum_by-map}
use Rattle.fp_relaxmodel.specs.Relaxed.{HasRoutes}

-- a walk whose arcs are a route is of a shipment
abbrev Routes : Problem → Shipment → List Leg → Type 0
Routes p s walk = IsRoute p s (arcs_of walk)

-- alone it costs at most what every arc would cost
walk-le-alone : (p : Problem) (s : Shipment) (walk : List Leg) → Routes p s walk →
    sum_by (alone_trucks p s.size) walk + flow_cost p s.size walk ≤ sum_by (alone_cost s.size) p.arcs
walk-le-alone p s walk route =
    let at : ℕ → ℕ = λ a. alone_cost s.size (slice_index_or p.arcs a no_arc) in
    let flow : Leg → ℕ = λ k. (arc_at p k.arc).freight * s.size in
    let both : sum_by (λ (k : Leg). flow k + alone_trucks p s.size k) walk ≡ flow_cost p s.size walk + sum_by (alone_trucks p s.size) walk =
    sum_by-both flow (alone_trucks p s.size) walk in
    let numbers : sum_by at (arcs_of walk) ≡ sum_by (λ (k : Leg). at k.arc) walk = sum_by-map at (λ (k : Leg). k.arc) walk in
    let within : sum_by at (arcs_of walk) ≤ sum_by (alone_cost s.size) p.arcs =
    sum_by-places-le (alone_cost s.size) no_arc (omega arith) (arcs_of walk) p.arcs
    (Leads-exist p s.from (arcs_of walk) s.to route.leads)
    (AreDistinct-from_map (λ a. (arc_at p a).to) (arcs_of walk) (AreDistinct-tail s.from (ends_of p (arcs_of walk)) route.once)) in
    omega (arith, both, numbers, within)

walks-le-alone : (p : Problem) (ss : List Shipment) (walks : List (List Leg)) → AllZip (Routes p) ss walks →
    alone_routes p ss walks + flow_total p ss walks ≤ alone_total p.arcs ss
walks-le-alone p [] [] routes = le_refl 0
walks-le-alone p [] (w ∷ walks) routes = absurd routes
walks-le-alone p (s ∷ ss) [] routes = absurd routes
walks-le-alone p (s ∷ ss) (w ∷ walks) routes =
    omega (arith, walk-le-alone p s w routes.0, walks-le-alone p ss walks routes.1, sum_by-cons (λ (t : Shipment). sum_by (alone_cost t.size) p.arcs) s ss)

-- there are as many walks as shipments
pub HasRoutes-long : (p : Problem) (walks : List (List Leg)) → HasRoutes p walks → length walks ≡ length p.shipments
HasRoutes-long p walks routes = AllZip-long (Routes p) p.shipments walks routes

-- walks that are routes of the shipments cost at most every shipment alone over every arc
cost-routes-le : (p : Problem) (walks : List (List Leg)) → HasRoutes p walks → cost p walks ≤ alone_total p.arcs p.shipments
cost-routes-le p walks routes =
    omega (arith, departures-le-alone p p.shipments walks (HasRoutes-long p walks routes), walks-le-alone p p.shipments walks routes)

-- so their cost fits its type
pub cost-routes-fits : (p : Problem) (walks : List (List Leg)) → IsValid p → HasRoutes p walks → cost p walks < 2 ^ 127
cost-routes-fits p walks valid routes = omega (arith, cost-routes-le p walks routes, valid.weight)

walks-exist : (p : Problem) (ss : List Shipment) (walks : List (List Leg)) → AllZip (Routes p) ss walks → All (ArcsExist p) walks
walks-exist p [] [] routes = All-nil (ArcsExist p)
walks-exist p [] (w ∷ walks) routes = absurd routes
walks-exist p (s ∷ ss) [] routes = absurd routes
walks-exist p (s ∷ ss) (w ∷ walks) routes =
    All-cons (ArcsExist p) w walks (legs-exist p w (Leads-exist p s.from (arcs_of w) s.to routes.0.leads)) (walks-exist p ss walks routes.1)

-- their arcs exist
pub HasRoutes-exist : (p : Problem) (walks : List (List Leg)) → HasRoutes p walks → All (ArcsExist p) walks
HasRoutes-exist p walks routes = walks-exist p p.shipments walks routes
