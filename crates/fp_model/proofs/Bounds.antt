-- A plan costs at most the sum of its shipments alone over every arc, so it fits its type.
use Rattle.std.proofs.Common.{◌≡◌, ℕ, ◌+◌, ◌*◌, ◌<◌, ◌≤◌, ◌^◌, true, false, List, [], ◌∷◌, ◌++◌, length, get_or, ⊎_elim, refl, sym, ap, ◌∙◌, subst, arith, le_refl}
use Rattle.std.specs.Prelude.{sum_by, if◌then◌else◌, All}
use Rattle.std.specs.List.{AllZip, AllByRecursion}
use Rattle.std.specs.declared.alloc.Global.{Global}
use Rattle.std.specs.declared.vec.Vec.{Vec}
use Rattle.std.specs.Int.{div_ceil}
use Rattle.std.proofs.Math.Nat.{mul-le-mul_left}
use Rattle.std.proofs.lemmas.Bool.{cases_Bool, cond-true, cond-false, or_parts}
use Rattle.std.proofs.lemmas.List.Elements.{All-cons, All-nil}
use Rattle.std.proofs.lemmas.List.Folds.{list_any-append}
use Rattle.std.proofs.lemmas.List.Sums.{sum_by-cons, sum_by-le-sum_by}
use Rattle.std.proofs.lemmas.Slice.Zip.{AllZip-long}
use Rattle.fp_base_lists.proofs.Distinct.{AreDistinct-from_map, AreDistinct-tail}
use Rattle.fp_base_lists.proofs.DistinctSums.{sum_by-places-le}
use Rattle.fp_model.specs.declared.parts.Arc.{Arc}
use Rattle.fp_model.specs.declared.parts.Leg.{Leg}
use Rattle.fp_model.specs.declared.parts.Shipment.{Shipment}
use Rattle.fp_model.specs.Problem.{Problem, IsValid, no_arc, arc_at, truck_cost, alone_cost, alone_total}
use Rattle.fp_model.specs.Routes.{Leads, ArcsExist, Carries, arcs_of, ends_of}
use Rattle.fp_model.specs.Costs.{same_leg, has_leg, distinct, all_legs, load, flow_cost, flow_total, cost}
use Rattle.fp_base_lists.specs.Vectors.{lists_of}
use Rattle.fp_model.specs.Plans.{IsPlan}
use Rattle.fp_model.proofs.Distinct.{distinct_sum, distinct_sum-le, distinct_sum-le-sum_by}
use Rattle.fp_base_lists.proofs.Sums.{sum_by-both, sum_by-map}
use Rattle.fp_base_lists.proofs.Ceilings.{div_ceil-add, div_ceil-zero}

-- a departure that no route has carries nothing
pub load-outside : (ss : List Shipment) (R : List (List Leg)) (k : Leg) → has_leg k (all_legs R) ≡ false → load ss R k ≡ 0
load-outside [] R k h = refl
load-outside (s ∷ ss) [] k h = refl
load-outside (s ∷ ss) (r ∷ R) k h =
    let parts = or_parts (has_leg k r) (has_leg k (all_legs R)) (sym (list_any-append (same_leg k) r (all_legs R)) ∙ h) in
    omega (arith, cond-false (has_leg k r) s.size 0 parts.0, load-outside ss R k parts.1)

-- the trucks of a departure, for those shipments
abbrev pub departure_of : Problem → List Shipment → List (List Leg) → Leg → ℕ
departure_of p ss R k = truck_cost (arc_at p k.arc) (load ss R k)

-- where no route has it, they cost nothing
pub departure-outside : (p : Problem) (ss : List Shipment) (R : List (List Leg)) (k : Leg) → has_leg k (all_legs R) ≡ false → departure_of p ss R k ≡ 0
departure-outside p ss R k h =
    let arc : Arc = arc_at p k.arc in
    let none : departure_of p ss R k ≡ arc.truck * 0 =
    ap (λ (n : ℕ). arc.truck * div_ceil n arc.capacity) (load-outside ss R k h)
    ∙ ap (λ (n : ℕ). arc.truck * n) (div_ceil-zero arc.capacity) in
    omega (arith, none)

-- the trucks of a leg alone
abbrev pub alone_trucks : Problem → ℕ → Leg → ℕ
alone_trucks p size k = truck_cost (arc_at p k.arc) size

-- the same where the legs have it
abbrev pub alone_trucks_in : Problem → ℕ → List Leg → Leg → ℕ
alone_trucks_in p size r k = if has_leg k r then alone_trucks p size k else 0

-- the trucks of a route alone
abbrev pub alone_routes : Problem → List Shipment → List (List Leg) → ℕ
alone_routes p (s ∷ ss) (r ∷ R) = sum_by (alone_trucks p s.size) r + alone_routes p ss R
alone_routes p ss R = 0

departure_joins : (p : Problem) (s : Shipment) (ss : List Shipment) (r : List Leg) (R : List (List Leg)) (k : Leg) →
    departure_of p (s ∷ ss) (r ∷ R) k ≤ alone_trucks_in p s.size r k + departure_of p ss R k
departure_joins p s ss r R k =
    let arc : Arc = arc_at p k.arc in
    let rest : ℕ = load ss R k in
    ⊎_elim
    (λ (h : has_leg k r ≡ true).
    let joined : arc.truck * div_ceil (s.size + rest) arc.capacity ≤ arc.truck * (div_ceil s.size arc.capacity + div_ceil rest arc.capacity) =
    mul-le-mul_left arc.truck (div_ceil-add s.size rest arc.capacity) in
    let whole : departure_of p (s ∷ ss) (r ∷ R) k ≡ arc.truck * div_ceil (s.size + rest) arc.capacity =
    ap (λ (n : ℕ). arc.truck * div_ceil (n + rest) arc.capacity) (cond-true (has_leg k r) s.size 0 h) in
    omega (arith, joined, whole, cond-true (has_leg k r) (alone_trucks p s.size k) 0 h))
    (λ (h : has_leg k r ≡ false).
    let whole : departure_of p (s ∷ ss) (r ∷ R) k ≡ arc.truck * div_ceil (0 + rest) arc.capacity =
    ap (λ (n : ℕ). arc.truck * div_ceil (n + rest) arc.capacity) (cond-false (has_leg k r) s.size 0 h) in
    let same : arc.truck * div_ceil (0 + rest) arc.capacity ≡ departure_of p ss R k =
    let zero_left : 0 + rest ≡ rest = omega arith in
    ap (λ (n : ℕ). arc.truck * div_ceil n arc.capacity) zero_left in
    omega (arith, whole, same))
    (cases_Bool (has_leg k r))

-- joined departures cost no more than each shipment's own
pub departures-le-alone : (p : Problem) (ss : List Shipment) (R : List (List Leg)) → length R ≡ length ss →
    distinct_sum (departure_of p ss R) (all_legs R) ≤ alone_routes p ss R
departures-le-alone p [] [] long = le_refl 0
departures-le-alone p [] (r ∷ R) long = omega arith
departures-le-alone p (s ∷ ss) [] long = le_refl 0
departures-le-alone p (s ∷ ss) (r ∷ R) long =
    let all : List Leg = r ++ all_legs R in
    let own : Leg → ℕ = alone_trucks_in p s.size r in
    let others : Leg → ℕ = departure_of p ss R in
    let apart : distinct_sum (departure_of p (s ∷ ss) (r ∷ R)) all ≤ distinct_sum (λ k. own k + others k) all =
    sum_by-le-sum_by (departure_of p (s ∷ ss) (r ∷ R)) (λ k. own k + others k) (distinct all) (departure_joins p s ss r R) in
    let split : distinct_sum (λ k. own k + others k) all ≡ distinct_sum own all + distinct_sum others all =
    sum_by-both own others (distinct all) in
    let own_here : distinct_sum own all ≤ distinct_sum own r =
    distinct_sum-le all r own (λ k h. cond-false (has_leg k r) (alone_trucks p s.size k) 0 h) in
    let own_each : distinct_sum own r ≤ sum_by own r = distinct_sum-le-sum_by own r in
    let own_alone : sum_by own r ≤ sum_by (alone_trucks p s.size) r =
    sum_by-le-sum_by own (alone_trucks p s.size) r (λ k.
    ⊎_elim
    (λ (h : has_leg k r ≡ true). omega (arith, cond-true (has_leg k r) (alone_trucks p s.size k) 0 h))
    (λ (h : has_leg k r ≡ false). omega (arith, cond-false (has_leg k r) (alone_trucks p s.size k) 0 h))
    (cases_Bool (has_leg k r))) in
    let others_there : distinct_sum others all ≤ distinct_sum others (all_legs R) =
    distinct_sum-le all (all_legs R) others (departure-outside p ss R) in
    let short : length R ≡ length ss = omega arith in
    let later : distinct_sum others (all_legs R) ≤ alone_routes p ss R = departures-le-alone p ss R short in
    omega (arith, apart, split, own_here, own_each, own_alone, others_there, later)

-- the arcs that lead somewhere exist
pub Leads-exist : (p : Problem) (here : ℕ) (arcs : List ℕ) (there : ℕ) → Leads p here arcs there → AllByRecursion (λ a. a < length p.arcs) arcs
Leads-exist p here [] there leads = tt
Leads-exist p here (a ∷ arcs) there leads = (leads.0, Leads-exist p (arc_at p a).to arcs there leads.2)

-- a route alone costs at most what it would cost over every arc
route-le-alone : (p : Problem) (d : ℕ) (s : Shipment) (legs : List Leg) → Carries p d s legs →
    sum_by (alone_trucks p s.size) legs + flow_cost p s.size legs ≤ sum_by (alone_cost s.size) p.arcs
route-le-alone p d s legs carries =
    let at : ℕ → ℕ = λ a. alone_cost s.size (get_or p.arcs a no_arc) in
    let flow : Leg → ℕ = λ k. (arc_at p k.arc).freight * s.size in
    let both : sum_by (λ (k : Leg). flow k + alone_trucks p s.size k) legs ≡ flow_cost p s.size legs + sum_by (alone_trucks p s.size) legs =
    sum_by-both flow (alone_trucks p s.size) legs in
    let numbers : sum_by at (arcs_of legs) ≡ sum_by (λ (k : Leg). at k.arc) legs = sum_by-map at (λ (k : Leg). k.arc) legs in
    let within : sum_by at (arcs_of legs) ≤ sum_by (alone_cost s.size) p.arcs =
    sum_by-places-le (alone_cost s.size) no_arc (omega arith) (arcs_of legs) p.arcs
    (Leads-exist p s.from (arcs_of legs) s.to carries.route.leads)
    (AreDistinct-from_map (λ a. (arc_at p a).to) (arcs_of legs) (AreDistinct-tail s.from (ends_of p (arcs_of legs)) carries.route.once)) in
    omega (arith, both, numbers, within)

routes-le-alone : (p : Problem) (d : ℕ) (ss : List Shipment) (R : List (List Leg)) → AllZip (Carries p d) ss R →
    alone_routes p ss R + flow_total p ss R ≤ alone_total p.arcs ss
routes-le-alone p d [] [] plan = le_refl 0
routes-le-alone p d [] (r ∷ R) plan = absurd plan
routes-le-alone p d (s ∷ ss) [] plan = absurd plan
routes-le-alone p d (s ∷ ss) (r ∷ R) plan =
    omega (arith, route-le-alone p d s r plan.0, routes-le-alone p d ss R plan.1, sum_by-cons (λ (t : Shipment). sum_by (alone_cost t.size) p.arcs) s ss)

-- a plan costs at most every shipment alone over every arc
pub cost-le-alone_total : (p : Problem) (d : ℕ) (R : List (List Leg)) → IsPlan p d R → cost p R ≤ alone_total p.arcs p.shipments
cost-le-alone_total p d R plan =
    let long : length R ≡ length p.shipments = AllZip-long (Carries p d) p.shipments R plan in
    omega (arith, departures-le-alone p p.shipments R long, routes-le-alone p d p.shipments R plan)

-- so the cost of a plan of a valid instance fits its type
pub cost_fits : (p : Problem) (d : ℕ) (R : List (List Leg)) → IsValid p → IsPlan p d R → cost p R < 2 ^ 128
cost_fits p d R valid plan = omega (arith, cost-le-alone_total p d R plan, valid.weight)

-- what a view of routes says of them
pub length-lists_of : (routes : List (Vec Leg Global)) → length (lists_of routes) ≡ length routes
length-lists_of [] = refl
length-lists_of (r ∷ routes) = omega (arith, length-lists_of routes)

pub legs-exist : (p : Problem) (legs : List Leg) → AllByRecursion (λ a. a < length p.arcs) (arcs_of legs) → ArcsExist p legs
legs-exist p [] below = All-nil (λ (l : Leg). l.arc < length p.arcs)
legs-exist p (k ∷ legs) below = All-cons (λ (l : Leg). l.arc < length p.arcs) k legs below.0 (legs-exist p legs below.1)

routes-exist : (p : Problem) (d : ℕ) (ss : List Shipment) (routes : List (Vec Leg Global)) → AllZip (Carries p d) ss (lists_of routes) →
    All (λ (r : Vec Leg Global). ArcsExist p r.items) routes
routes-exist p d [] [] plan = All-nil (λ (r : Vec Leg Global). ArcsExist p r.items)
routes-exist p d [] (r ∷ routes) plan = absurd plan
routes-exist p d (s ∷ ss) [] plan = absurd plan
routes-exist p d (s ∷ ss) (r ∷ routes) plan =
    All-cons (λ (r : Vec Leg Global). ArcsExist p r.items) r routes
    (legs-exist p r.items (Leads-exist p s.from (arcs_of r.items) s.to plan.0.route.leads))
    (routes-exist p d ss routes plan.1)

-- what the code needs of the routes of a plan
pub record AreReady (p : Problem) (routes : List (Vec Leg Global)) : Type 0 where
  pub long : length routes ≡ length p.shipments
  pub arcs : All (λ (r : Vec Leg Global). ArcsExist p r.items) routes
  pub fits : cost p (lists_of routes) < 2 ^ 128

pub AreReady-plan : (p : Problem) (d : ℕ) (routes : List (Vec Leg Global)) (plan : List (List Leg)) →
    lists_of routes ≡ plan → IsValid p → IsPlan p d plan → AreReady p routes
AreReady-plan p d routes plan same valid is_plan =
    let here : IsPlan p d (lists_of routes) = subst (λ (R : List (List Leg)). IsPlan p d R) (sym same) is_plan in
    record {
      long = sym (length-lists_of routes) ∙ AllZip-long (Carries p d) p.shipments (lists_of routes) here;
      arcs = routes-exist p d p.shipments routes here;
      fits = cost_fits p d (lists_of routes) valid here;
    }
