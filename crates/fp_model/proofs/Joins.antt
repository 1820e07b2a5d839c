-- Joining departures of one arc needs no more trucks.
use Rattle.std.proofs.Common.{◌≡◌, ℕ, ◌+◌, ◌*◌, ◌≤◌, true, false, List, [], ◌∷◌, map, ⊎_elim, refl, sym, ap, ◌∙◌, subst, arith}
use Rattle.std.specs.Prelude.{sum_by, if◌then◌else◌}
use Rattle.std.specs.Int.{div_ceil}
use Rattle.std.proofs.Math.Nat.{mul-le-mul_left}
use Rattle.std.proofs.lemmas.Bool.{cases_Bool, cond-true, cond-false, or_cases, or_left, or_right, false≢true}
use Rattle.std.proofs.lemmas.List.Folds.{list_any-append}
use Rattle.std.proofs.lemmas.List.Sums.{sum_by-le-sum_by}
use Rattle.fp_model.specs.declared.parts.Arc.{Arc}
use Rattle.fp_model.specs.declared.parts.Leg.{Leg}
use Rattle.fp_model.specs.declared.parts.Shipment.{Shipment}
use Rattle.fp_model.specs.Problem.{Problem, arc_at, truck_cost}
use Rattle.fp_model.specs.Costs.{same_leg, has_leg, distinct, all_legs, load, cost, flow_cost, flow_total}
use Rattle.fp_model.proofs.Distinct.{same_leg-true, same_leg-refl, distinct_sum, term-le, one-le}
use Rattle.fp_base_lists.proofs.Sums.{sum_by-scaled, sum_by-swap, sum_by-same, sum_by-both, sum_by-map}
use Rattle.fp_base_lists.proofs.Ceilings.{div_ceil_mono, div_ceil-sum_by, div_ceil-zero}
use Rattle.fp_model.proofs.Bounds.{departure_of}

-- the legs that a map takes to c, summed over
abbrev pub gathered : (Leg → Leg) → List Leg → (Leg → ℕ) → Leg → ℕ
gathered f all g c = distinct_sum (λ k. if same_leg (f k) c then g k else 0) all

-- a leg whose image is c
found : (f : Leg → Leg) (c : Leg) (r : List Leg) → has_leg c (map f r) ≡ true → (k : Leg) × (has_leg k r ≡ true) × (f k ≡ c)
found f c [] h = absurd (false≢true h)
found f c (k ∷ r) h =
    ⊎_elim
    (λ (same : same_leg c (f k) ≡ true). (k, or_left (same_leg k k) (has_leg k r) (same_leg-refl k), sym (same_leg-true c (f k) same)))
    (λ (later : has_leg c (map f r) ≡ true). let there = found f c r later in (there.0, or_right (same_leg there.0 k) (has_leg there.0 r) there.1, there.2))
    (or_cases (same_leg c (f k)) (has_leg c (map f r)) h)

-- the load of a class is at most the loads of the departures in it
load-gathered : (f : Leg → Leg) (all : List Leg) (ss : List Shipment) (R : List (List Leg)) → ((k : Leg) → has_leg k (all_legs R) ≡ true → has_leg k all ≡ true) →
    (c : Leg) → load ss (map (map f) R) c ≤ gathered f all (load ss R) c
load-gathered f all [] R within c = omega arith
load-gathered f all (s ∷ ss) [] within c = omega arith
load-gathered f all (s ∷ ss) (r ∷ R) within c =
    let own : Leg → ℕ = λ k. if has_leg k r then s.size else 0 in
    let rest : load ss (map (map f) R) c ≤ gathered f all (load ss R) c =
    load-gathered f all ss R (λ k h. within k (list_any-append (same_leg k) r (all_legs R) ∙ or_right (has_leg k r) (has_leg k (all_legs R)) h)) c in
    let split : gathered f all (load (s ∷ ss) (r ∷ R)) c ≡ gathered f all own c + gathered f all (load ss R) c =
    sum_by-same (λ k. if same_leg (f k) c then own k + load ss R k else 0) (λ k. (if same_leg (f k) c then own k else 0) + (if same_leg (f k) c then load ss R k else 0))
    (λ k.
    ⊎_elim
    (λ (h : same_leg (f k) c ≡ true).
    omega (arith, cond-true (same_leg (f k) c) (own k + load ss R k) 0 h, cond-true (same_leg (f k) c) (own k) 0 h, cond-true (same_leg (f k) c) (load ss R k) 0 h))
    (λ (h : same_leg (f k) c ≡ false).
    omega (arith, cond-false (same_leg (f k) c) (own k + load ss R k) 0 h, cond-false (same_leg (f k) c) (own k) 0 h, cond-false (same_leg (f k) c) (load ss R k) 0 h))
    (cases_Bool (same_leg (f k) c)))
    (distinct all)
    ∙ sum_by-both (λ k. if same_leg (f k) c then own k else 0) (λ k. if same_leg (f k) c then load ss R k else 0) (distinct all) in
    ⊎_elim
    (λ (h : has_leg c (map f r) ≡ true).
    let there = found f c r h in
    let k : Leg = there.0 in
    let mine : Leg → ℕ = λ l. if same_leg (f l) c then own l else 0 in
    let in_all : has_leg k all ≡ true = within k (list_any-append (same_leg k) r (all_legs R) ∙ or_left (has_leg k r) (has_leg k (all_legs R)) there.1) in
    let same : same_leg (f k) c ≡ true = subst (λ (l : Leg). same_leg (f k) l ≡ true) there.2 (same_leg-refl (f k)) in
    let size : mine k ≡ s.size = cond-true (same_leg (f k) c) (own k) 0 same ∙ cond-true (has_leg k r) s.size 0 there.1 in
    omega (arith, rest, split, term-le mine k all in_all, size, cond-true (has_leg c (map f r)) s.size 0 h))
    (λ (h : has_leg c (map f r) ≡ false). omega (arith, rest, split, cond-false (has_leg c (map f r)) s.size 0 h))
    (cases_Bool (has_leg c (map f r)))

-- the trucks of a class cost at most those of the departures in it
departure-gathered : (p : Problem) (f : Leg → Leg) → ((k : Leg) → (f k).arc ≡ k.arc) → (ss : List Shipment) (R : List (List Leg)) (c : Leg) →
    departure_of p ss (map (map f) R) c ≤ gathered f (all_legs R) (departure_of p ss R) c
departure-gathered p f keeps ss R c =
    let all : List Leg = all_legs R in
    let arc : Arc = arc_at p c.arc in
    let part : Leg → ℕ = λ k. if same_leg (f k) c then load ss R k else 0 in
    let loaded : load ss (map (map f) R) c ≤ sum_by part (distinct all) = load-gathered f all ss R (λ k h. h) c in
    let few : div_ceil (load ss (map (map f) R) c) arc.capacity ≤ sum_by (λ k. div_ceil (part k) arc.capacity) (distinct all) =
    omega (arith, div_ceil_mono (load ss (map (map f) R) c) (sum_by part (distinct all)) arc.capacity loaded, div_ceil-sum_by part arc.capacity (distinct all)) in
    let costs : arc.truck * div_ceil (load ss (map (map f) R) c) arc.capacity ≤ arc.truck * sum_by (λ k. div_ceil (part k) arc.capacity) (distinct all) =
    mul-le-mul_left arc.truck few in
    let apart : sum_by (λ k. arc.truck * div_ceil (part k) arc.capacity) (distinct all) ≡ arc.truck * sum_by (λ k. div_ceil (part k) arc.capacity) (distinct all) =
    sum_by-scaled arc.truck (λ k. div_ceil (part k) arc.capacity) (distinct all) in
    let each : sum_by (λ k. arc.truck * div_ceil (part k) arc.capacity) (distinct all) ≡ gathered f all (departure_of p ss R) c =
    sum_by-same (λ k. arc.truck * div_ceil (part k) arc.capacity) (λ k. if same_leg (f k) c then departure_of p ss R k else 0)
    (λ k.
    ⊎_elim
    (λ (h : same_leg (f k) c ≡ true).
    let is : k.arc ≡ c.arc = sym (keeps k) ∙ ap (λ (l : Leg). l.arc) (same_leg-true (f k) c h) in
    let here : arc.truck * div_ceil (part k) arc.capacity ≡ arc.truck * div_ceil (load ss R k) arc.capacity =
    ap (λ (n : ℕ). arc.truck * div_ceil n arc.capacity) (cond-true (same_leg (f k) c) (load ss R k) 0 h) in
    let there : departure_of p ss R k ≡ arc.truck * div_ceil (load ss R k) arc.capacity =
    ap (λ (a : ℕ). truck_cost (arc_at p a) (load ss R k)) is in
    omega (arith, here, there, cond-true (same_leg (f k) c) (departure_of p ss R k) 0 h))
    (λ (h : same_leg (f k) c ≡ false).
    let here : arc.truck * div_ceil (part k) arc.capacity ≡ arc.truck * div_ceil 0 arc.capacity =
    ap (λ (n : ℕ). arc.truck * div_ceil n arc.capacity) (cond-false (same_leg (f k) c) (load ss R k) 0 h) in
    let none : arc.truck * div_ceil 0 arc.capacity ≡ arc.truck * 0 = ap (λ (n : ℕ). arc.truck * n) (div_ceil-zero arc.capacity) in
    omega (arith, here, none, cond-false (same_leg (f k) c) (departure_of p ss R k) 0 h))
    (cases_Bool (same_leg (f k) c)))
    (distinct all) in
    omega (arith, costs, apart, each)

-- so do those of all classes
departures_join : (p : Problem) (f : Leg → Leg) → ((k : Leg) → (f k).arc ≡ k.arc) → (ss : List Shipment) (R : List (List Leg)) (ys : List Leg) →
    distinct_sum (departure_of p ss (map (map f) R)) ys ≤ distinct_sum (departure_of p ss R) (all_legs R)
departures_join p f keeps ss R ys =
    let all : List Leg = all_legs R in
    let g : Leg → ℕ = departure_of p ss R in
    let part : Leg → Leg → ℕ = λ k c. if same_leg (f k) c then g k else 0 in
    let first : distinct_sum (departure_of p ss (map (map f) R)) ys ≤ sum_by (λ c. sum_by (λ k. part k c) (distinct all)) (distinct ys) =
    sum_by-le-sum_by (departure_of p ss (map (map f) R)) (gathered f all g) (distinct ys) (departure-gathered p f keeps ss R) in
    let swapped : sum_by (λ c. sum_by (λ k. part k c) (distinct all)) (distinct ys) ≡ sum_by (λ k. sum_by (part k) (distinct ys)) (distinct all) =
    sum_by-swap part (distinct all) (distinct ys) in
    let last : sum_by (λ k. sum_by (part k) (distinct ys)) (distinct all) ≤ sum_by g (distinct all) =
    sum_by-le-sum_by (λ k. sum_by (part k) (distinct ys)) g (distinct all) (λ k. one-le (f k) (g k) ys) in
    omega (arith, first, swapped, last)

-- the flow of legs that are changed, each on its arc, is as before
pub flow_joins : (p : Problem) (f : Leg → Leg) → ((k : Leg) → (f k).arc ≡ k.arc) → (ss : List Shipment) (R : List (List Leg)) →
    flow_total p ss (map (map f) R) ≡ flow_total p ss R
flow_joins p f keeps [] R = refl
flow_joins p f keeps (s ∷ ss) [] = refl
flow_joins p f keeps (s ∷ ss) (r ∷ R) =
    let flow : Leg → ℕ = λ k. (arc_at p k.arc).freight * s.size in
    let here : flow_cost p s.size (map f r) ≡ flow_cost p s.size r =
    sum_by-map flow f r ∙ sum_by-same (λ k. flow (f k)) flow (λ k. ap (λ (a : ℕ). (arc_at p a).freight * s.size) (keeps k)) r in
    omega (arith, here, flow_joins p f keeps ss R)

-- routes whose departures are taken together, each on its arc, cost no more
pub cost_joins : (p : Problem) (f : Leg → Leg) → ((k : Leg) → (f k).arc ≡ k.arc) → (R : List (List Leg)) → cost p (map (map f) R) ≤ cost p R
cost_joins p f keeps R =
    omega (arith, departures_join p f keeps p.shipments R (all_legs (map (map f) R)), flow_joins p f keeps p.shipments R)
