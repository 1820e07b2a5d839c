-- Plans of an instance without its last shipment.
use Rattle.std.proofs.Common.{◌≡◌, ℕ, zero, suc, ◌+◌, ◌*◌, ◌-◌, ◌≤◌, false, List, [], ◌∷◌, length, take, refl, sym, ◌∙◌, arith}
use Rattle.std.specs.Prelude.{if◌then◌else◌}
use Rattle.std.specs.List.{AllZip}
use Rattle.std.proofs.Math.Nat.{mul-le-mul_left}
use Rattle.std.proofs.lemmas.Bool.{or_parts}
use Rattle.std.proofs.lemmas.List.Folds.{list_any-append}
use Rattle.std.proofs.lemmas.List.Sums.{sum_by-le-sum_by}
use Rattle.fp_base_lists.proofs.Ceilings.{div_ceil_mono}
use Rattle.fp_model.specs.declared.parts.Arc.{Arc}
use Rattle.fp_model.specs.declared.parts.Leg.{Leg}
use Rattle.fp_model.specs.declared.parts.Shipment.{Shipment}
use Rattle.fp_model.specs.Costs.{all_legs, cost, distinct, flow_total, has_leg, load, same_leg}
use Rattle.fp_model.specs.Plans.{IsPlan, NoPlanCheaper, PlanExists}
use Rattle.fp_model.specs.Problem.{Problem, arc_at}
use Rattle.fp_model.specs.Routes.{ArrivesBy, Carries, Leads, LeavesReady, arcs_of, step}
use Rattle.fp_model.proofs.Bounds.{departure_of, departure-outside}
use Rattle.fp_model.proofs.Distinct.{distinct_sum, distinct_sum-le}
use Rattle.fp_replan.specs.Quotes.{HasPlanAtMost, IsCostOfPlan, without_last}

-- a front part of routes has no more legs
has_leg-front : (k : Leg) (n : ℕ) (R : List (List Leg)) → has_leg k (all_legs R) ≡ false → has_leg k (all_legs (take n R)) ≡ false
has_leg-front k zero R none = refl
has_leg-front k (suc n) [] none = refl
has_leg-front k (suc n) (r ∷ R) none =
    let parts = or_parts (has_leg k r) (has_leg k (all_legs R)) (sym (list_any-append (same_leg k) r (all_legs R)) ∙ none) in
    list_any-append (same_leg k) r (all_legs (take n R)) ∙ rw (parts.0, has_leg-front k n R parts.1) refl

-- nor more of a load
load-front : (n : ℕ) (ss : List Shipment) (R : List (List Leg)) (k : Leg) → load (take n ss) (take n R) k ≤ load ss R k
load-front zero ss R k = omega arith
load-front (suc n) [] R k = omega arith
load-front (suc n) (s ∷ ss) [] k = omega arith
load-front (suc n) (s ∷ ss) (r ∷ R) k =
    let here : ℕ = if has_leg k r then s.size else 0 in
    omega (arith, load-front n ss R k)

-- nor more of flow, in an instance with whatever shipments
flow-front : (p : Problem) (others : List Shipment) (n : ℕ) (ss : List Shipment) (R : List (List Leg)) → flow_total (record p { shipments = others }) (take n ss) (take n R) ≤ flow_total p ss R
flow-front p others zero ss R = omega arith
flow-front p others (suc n) [] R = omega arith
flow-front p others (suc n) (s ∷ ss) [] = omega arith
flow-front p others (suc n) (s ∷ ss) (r ∷ R) = omega (arith, flow-front p others n ss R)

-- the trucks of a departure cost no more
departure-front : (p : Problem) (n : ℕ) (ss : List Shipment) (R : List (List Leg)) (k : Leg) → departure_of p (take n ss) (take n R) k ≤ departure_of p ss R k
departure-front p n ss R k =
    let arc : Arc = arc_at p k.arc in
    mul-le-mul_left arc.truck (div_ceil_mono (load (take n ss) (take n R) k) (load ss R k) arc.capacity (load-front n ss R k))

-- shipments and routes taken away from the end of a plan make it no dearer
pub cost-front : (p : Problem) (n : ℕ) (R : List (List Leg)) → cost (record p { shipments = take n p.shipments }) (take n R) ≤ cost p R
cost-front p n R =
    let front : Leg → ℕ = departure_of p (take n p.shipments) (take n R) in
    let whole : Leg → ℕ = departure_of p p.shipments R in
    let fewer : distinct_sum front (all_legs (take n R)) ≤ distinct_sum front (all_legs R) =
    distinct_sum-le (all_legs (take n R)) (all_legs R) front (λ k none. departure-outside p (take n p.shipments) (take n R) k (has_leg-front k n R none)) in
    let cheaper : distinct_sum front (all_legs R) ≤ distinct_sum whole (all_legs R) =
    sum_by-le-sum_by front whole (distinct (all_legs R)) (departure-front p n p.shipments R) in
    omega (arith, fewer, cheaper, flow-front p (take n p.shipments) n p.shipments R)

-- what carries a shipment does so whatever the others are
pub leads-same : (p : Problem) (ss : List Shipment) (here : ℕ) (arcs : List ℕ) (there : ℕ) → Leads p here arcs there → Leads (record p { shipments = ss }) here arcs there
leads-same p ss here [] there leads = leads
leads-same p ss here (a ∷ arcs) there leads = (leads.0, leads.1, leads-same p ss (arc_at p a).to arcs there leads.2)

ready-same : (p : Problem) (ss : List Shipment) (d ready : ℕ) (legs : List Leg) → LeavesReady p d ready legs → LeavesReady (record p { shipments = ss }) d ready legs
ready-same p ss d ready [] leaves = tt
ready-same p ss d ready (l ∷ legs) leaves = (leaves.0, ready-same p ss d (l.depart + d * step p l.arc) legs leaves.1)

due-same : (p : Problem) (ss : List Shipment) (d due : ℕ) (legs : List Leg) → ArrivesBy p d due legs → ArrivesBy (record p { shipments = ss }) d due legs
due-same p ss d due [] arrives = tt
due-same p ss d due (l ∷ []) arrives = arrives
due-same p ss d due (l ∷ m ∷ legs) arrives = due-same p ss d due (m ∷ legs) arrives

pub carries-same : (p : Problem) (ss : List Shipment) (d : ℕ) (s : Shipment) (legs : List Leg) → Carries p d s legs → Carries (record p { shipments = ss }) d s legs
carries-same p ss d s legs c = record {
  route = record { some = c.route.some; leads = leads-same p ss s.from (arcs_of legs) s.to c.route.leads; once = c.route.once };
  ready = ready-same p ss d (d * s.release) legs c.ready;
  due = due-same p ss d s.due legs c.due;
}

pub IsPlan-front : (p : Problem) (d n : ℕ) (R : List (List Leg)) → IsPlan p d R → IsPlan (record p { shipments = take n p.shipments }) d (take n R)
IsPlan-front p d n R plan = carried n p.shipments R plan
  where
    carried : (m : ℕ) (ss : List Shipment) (R : List (List Leg)) → AllZip (Carries p d) ss R → AllZip (Carries (record p { shipments = take n p.shipments }) d) (take m ss) (take m R)
    carried zero ss R all = tt
    carried (suc m) [] [] all = tt
    carried (suc m) [] (r ∷ R) all = absurd all
    carried (suc m) (s ∷ ss) [] all = absurd all
    carried (suc m) (s ∷ ss) (r ∷ R) all = (carries-same p (take n p.shipments) d s r all.0, carried m ss R all.1)

pub HasPlanAtMost-without_last : (p : Problem) (d : ℕ) (R : List (List Leg)) → IsPlan p d R → HasPlanAtMost (without_last p) d (cost p R)
HasPlanAtMost-without_last p d R plan =
    let n : ℕ = length p.shipments - 1 in
    (take n R, IsPlan-front p d n R plan, cost-front p n R)

pub PlanExists-without_last : (p : Problem) → PlanExists p → PlanExists (without_last p)
PlanExists-without_last p plan = (plan.0, take (length p.shipments - 1) plan.1, plan.2, IsPlan-front p plan.0 (length p.shipments - 1) plan.1 plan.3)

-- a figure for the instance without its last shipment is at most the cost of a plan with it
pub low-le : (p : Problem) (low c : ℕ) → NoPlanCheaper (without_last p) low → IsCostOfPlan p c → low ≤ c
low-le p low c none is =
    let less = HasPlanAtMost-without_last p is.0 is.1 is.3 in
    omega (arith, none is.0 less.0 is.2 less.1, less.2, is.4)
