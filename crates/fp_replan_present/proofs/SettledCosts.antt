-- What settled legs cost fits its type.
use Rattle.std.proofs.Common.{◌≡◌, ℕ, ◌+◌, ◌*◌, ◌<◌, ◌≤◌, ◌^◌, List, [], ◌∷◌, length, get_or, sym, ap, ◌∙◌, subst, arith, le_refl}
use Rattle.std.specs.Prelude.{sum_by}
use Rattle.std.specs.List.{AllZip}
use Rattle.std.proofs.lemmas.List.{length-map}
use Rattle.std.proofs.lemmas.List.Sums.{sum_by-cons}
use Rattle.std.specs.declared.alloc.Global.{Global}
use Rattle.std.specs.declared.vec.Vec.{Vec}
use Rattle.fp_base_lists.specs.Vectors.{lists_of}
use Rattle.fp_base_lists.proofs.Distinct.{AreDistinct-from_map, AreDistinct-tail}
use Rattle.fp_base_lists.proofs.DistinctSums.{sum_by-places-le}
use Rattle.fp_base_lists.proofs.Maps.{lists_of-get_or}
use Rattle.fp_base_lists.proofs.Numbered.{AllZip-from_get_or}
use Rattle.fp_base_lists.proofs.Sums.{sum_by-both, sum_by-map}
use Rattle.fp_model.specs.declared.parts.Leg.{Leg}
use Rattle.fp_model.specs.declared.parts.Shipment.{Shipment}
use Rattle.fp_model.specs.Costs.{cost, flow_cost, flow_total}
use Rattle.fp_model.specs.Numbered.{no_shipment, route_at, shipment_at}
use Rattle.fp_model.specs.Problem.{IsValid, Problem, alone_cost, alone_total, arc_at, no_arc}
use Rattle.fp_model.specs.Routes.{ArcsExist, arcs_of, ends_of}
use Rattle.fp_model.proofs.Bounds.{AreReady, Leads-exist, alone_routes, alone_trucks, departures-le-alone}
use Rattle.fp_replan.specs.Beginnings.{IsBeginning}
use Rattle.fp_replan.specs.KeptLegs.{place_after}
use Rattle.fp_replan_present.specs.Days.{AreTracked, Day}
use Rattle.fp_replan_present.specs.Plans.{settled_legs, settled_lists}
use Rattle.fp_replan_present.proofs.Numbers.{get_or-listed, length-listed}
use Rattle.fp_replan_present.proofs.RestRoutes.{begin-settled}
use Rattle.fp_replan_present.proofs.ShipmentWays.{settled_legs-exist}

-- legs with which a route may begin cost alone at most what the shipment would cost over every arc
begun-alone : (p : Problem) (s : Shipment) (legs : List Leg) → IsBeginning p s legs →
    sum_by (alone_trucks p s.size) legs + flow_cost p s.size legs ≤ sum_by (alone_cost s.size) p.arcs
begun-alone p s legs begin =
    let at : ℕ → ℕ = λ a. alone_cost s.size (get_or p.arcs a no_arc) in
    let flow : Leg → ℕ = λ k. (arc_at p k.arc).freight * s.size in
    let both : sum_by (λ (k : Leg). flow k + alone_trucks p s.size k) legs ≡ flow_cost p s.size legs + sum_by (alone_trucks p s.size) legs =
    sum_by-both flow (alone_trucks p s.size) legs in
    let numbers : sum_by at (arcs_of legs) ≡ sum_by (λ (k : Leg). at k.arc) legs = sum_by-map at (λ (k : Leg). k.arc) legs in
    let within : sum_by at (arcs_of legs) ≤ sum_by (alone_cost s.size) p.arcs =
    sum_by-places-le (alone_cost s.size) no_arc (omega arith) (arcs_of legs) p.arcs
    (Leads-exist p s.from (arcs_of legs) (place_after p s.from legs) begin.leads)
    (AreDistinct-from_map (λ a. (arc_at p a).to) (arcs_of legs) (AreDistinct-tail s.from (ends_of p (arcs_of legs)) begin.once)) in
    omega (arith, both, numbers, within)

all-alone : (p : Problem) (ss : List Shipment) (routes : List (List Leg)) → AllZip (IsBeginning p) ss routes →
    alone_routes p ss routes + flow_total p ss routes ≤ alone_total p.arcs ss
all-alone p [] [] begin = le_refl 0
all-alone p [] (r ∷ routes) begin = absurd begin
all-alone p (s ∷ ss) [] begin = absurd begin
all-alone p (s ∷ ss) (r ∷ routes) begin =
    omega (arith, begun-alone p s r begin.0, all-alone p ss routes begin.1, sum_by-cons (λ (t : Shipment). sum_by (alone_cost t.size) p.arcs) s ss)

-- the settled legs cost at most every shipment alone over every arc
settled-alone : (p : Problem) (day : Day) → AreTracked p day → cost p (settled_lists p day) ≤ alone_total p.arcs p.shipments
settled-alone p day are =
    let n : ℕ = length p.shipments in
    let routes : List (List Leg) = settled_lists p day in
    let long : length routes ≡ n = length-listed (settled_legs day) n in
    let begin : AllZip (IsBeginning p) p.shipments routes =
    AllZip-from_get_or (IsBeginning p) p.shipments routes no_shipment [] long
    (λ k lt. subst (IsBeginning p (shipment_at p k)) (sym (get_or-listed (settled_legs day) n k [] lt)) (begin-settled p day k are)) in
    omega (arith, departures-le-alone p p.shipments routes long, all-alone p p.shipments routes begin)

settled-fits : (p : Problem) (day : Day) → IsValid p → AreTracked p day → cost p (settled_lists p day) < 2 ^ 128
settled-fits p day valid are = omega (arith, settled-alone p day are, valid.weight)

-- so what the call for their cost needs
pub settled-ready : (p : Problem) (day : Day) (routes : List (Vec Leg Global)) → IsValid p → AreTracked p day → lists_of routes ≡ settled_lists p day → AreReady p routes
settled-ready p day routes valid are same =
    let n : ℕ = length p.shipments in
    let long : length routes ≡ n =
    sym (length-map routes (λ (v : Vec Leg Global). v.items)) ∙ ap (λ (ls : List (List Leg)). length ls) same ∙ length-listed (settled_legs day) n in
    record {
      long = long;
      arcs = λ k d lt.
          subst (ArcsExist p)
          (sym (get_or-listed (settled_legs day) n k [] (omega (arith, lt, long))) ∙ sym (ap (λ (ls : List (List Leg)). route_at ls k) same) ∙ lists_of-get_or routes k d lt)
          (settled_legs-exist p day k are);
      fits = subst (λ (ls : List (List Leg)). cost p ls < 2 ^ 128) (sym same) (settled-fits p day valid are);
    }
