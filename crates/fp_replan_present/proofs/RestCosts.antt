-- What rests cost, with and without the shipments that are delivered.
use Rattle.std.proofs.Common.{◌≡◌, ℕ, zero, suc, ◌+◌, ◌*◌, ◌<◌, true, false, Bool, List, [], ◌∷◌, ◌++◌, length, map, refl, sym, ap, ap₂, ◌∙◌, arith, append-nil, append_assoc, ⊎_elim}
use Rattle.std.specs.Prelude.{cond, if◌then◌else◌, sum_by}
use Rattle.std.specs.Int.{div_ceil}
use Rattle.std.proofs.lemmas.Bool.{cases_Bool}
use Rattle.std.proofs.lemmas.List.{ext_get_or, map-append}
use Rattle.fp_model.specs.declared.parts.Leg.{Leg}
use Rattle.fp_model.specs.declared.parts.Shipment.{Shipment}
use Rattle.fp_model.specs.Costs.{all_legs, cost, departure_cost, distinct, flow_cost, flow_total, has_leg, load}
use Rattle.fp_model.specs.Numbered.{no_shipment, shipment_at}
use Rattle.fp_model.specs.Problem.{Problem, arc_at}
use Rattle.fp_model.proofs.Distinct.{distinct_sum_same}
use Rattle.fp_replan_present.specs.Plans.{listed}
use Rattle.fp_replan_present.specs.Rests.{passing}
use Rattle.fp_replan_present.proofs.Numbers.{get_or-listed, length-listed}

-- routes of two lists
pub all_legs-append : (xs ys : List (List Leg)) → all_legs (xs ++ ys) ≡ all_legs xs ++ all_legs ys
all_legs-append [] ys = refl
all_legs-append (x ∷ xs) ys = ap (λ (ls : List Leg). x ++ ls) (all_legs-append xs ys) ∙ sym (append_assoc x (all_legs xs) (all_legs ys))

-- a load with one more shipment
load-push : (ss : List Shipment) (routes : List (List Leg)) (s : Shipment) (legs : List Leg) (l : Leg) → length ss ≡ length routes →
    load (ss ++ (s ∷ [])) (routes ++ (legs ∷ [])) l ≡ load ss routes l + (if has_leg l legs then s.size else 0)
load-push [] [] s legs l long = omega arith
load-push [] (r ∷ routes) s legs l long = absurd (omega (arith, long))
load-push (t ∷ ss) [] s legs l long = absurd (omega (arith, long))
load-push (t ∷ ss) (r ∷ routes) s legs l long =
    let first : ℕ = if has_leg l r then t.size else 0 in
    let last : ℕ = if has_leg l legs then s.size else 0 in
    omega (arith, load-push ss routes s legs l (omega (arith, long)))

-- and a flow
flow-push : (p : Problem) (ss : List Shipment) (routes : List (List Leg)) (s : Shipment) (legs : List Leg) → length ss ≡ length routes →
    flow_total p (ss ++ (s ∷ [])) (routes ++ (legs ∷ [])) ≡ flow_total p ss routes + flow_cost p s.size legs
flow-push p [] [] s legs long = omega arith
flow-push p [] (r ∷ routes) s legs long = absurd (omega (arith, long))
flow-push p (t ∷ ss) [] s legs long = absurd (omega (arith, long))
flow-push p (t ∷ ss) (r ∷ routes) s legs long = omega (arith, flow-push p ss routes s legs (omega (arith, long)))

-- numbered shipments with routes, of which those that fail a test have no legs, beside those alone that
-- pass it, whatever else of them is another
pub record AreThinned (test : ℕ → Bool) (of whole : ℕ → Shipment) (rest : ℕ → List Leg) (n : ℕ) : Type 0 where
  pub sizes : (k : ℕ) → k < n → (of k).size ≡ (whole k).size
  pub none : (k : ℕ) → k < n → test k ≡ false → rest k ≡ []

thinned-fewer : (test : ℕ → Bool) (of whole : ℕ → Shipment) (rest : ℕ → List Leg) (n : ℕ) → AreThinned test of whole rest (suc n) → AreThinned test of whole rest n
thinned-fewer test of whole rest n thin = record { sizes = λ k lt. thin.sizes k (omega (arith, lt)); none = λ k lt. thin.none k (omega (arith, lt)) }

all_legs-thinned : (test : ℕ → Bool) (of whole : ℕ → Shipment) (rest : ℕ → List Leg) (n : ℕ) → AreThinned test of whole rest n → all_legs (map rest (passing test n)) ≡ all_legs (listed rest n)
all_legs-thinned test of whole rest zero thin = refl
all_legs-thinned test of whole rest (suc n) thin =
    let before : all_legs (map rest (passing test n)) ≡ all_legs (listed rest n) = all_legs-thinned test of whole rest n (thinned-fewer test of whole rest n thin) in
    let last : all_legs (listed rest n ++ (rest n ∷ [])) ≡ all_legs (listed rest n) ++ rest n =
    all_legs-append (listed rest n) (rest n ∷ []) ∙ ap (λ (ls : List Leg). all_legs (listed rest n) ++ ls) (append-nil (rest n)) in
    ⊎_elim
    (λ (passes : test n ≡ true).
    ap (λ c. all_legs (map rest (passing test n ++ cond c (n ∷ []) []))) passes
    ∙ ap all_legs (map-append rest (passing test n) (n ∷ []))
    ∙ all_legs-append (map rest (passing test n)) (rest n ∷ [])
    ∙ ap₂ (λ (xs ys : List Leg). xs ++ ys) before (append-nil (rest n))
    ∙ sym last)
    (λ (fails : test n ≡ false).
    ap (λ c. all_legs (map rest (passing test n ++ cond c (n ∷ []) []))) fails
    ∙ ap (λ (ks : List ℕ). all_legs (map rest ks)) (append-nil (passing test n))
    ∙ before
    ∙ sym (append-nil (all_legs (listed rest n)))
    ∙ ap (λ (ls : List Leg). all_legs (listed rest n) ++ ls) (sym (thin.none n (omega arith) fails))
    ∙ sym last)
    (cases_Bool (test n))

long-thinned : {X Y : Type 0} (f : ℕ → X) (g : ℕ → Y) (ks : List ℕ) → length (map f ks) ≡ length (map g ks)
long-thinned f g [] = refl
long-thinned f g (k ∷ ks) = omega (arith, long-thinned f g ks)

load-thinned : (test : ℕ → Bool) (of whole : ℕ → Shipment) (rest : ℕ → List Leg) (n : ℕ) (l : Leg) → AreThinned test of whole rest n →
    load (map of (passing test n)) (map rest (passing test n)) l ≡ load (listed whole n) (listed rest n) l
load-thinned test of whole rest zero l thin = refl
load-thinned test of whole rest (suc n) l thin =
    let before : load (map of (passing test n)) (map rest (passing test n)) l ≡ load (listed whole n) (listed rest n) l = load-thinned test of whole rest n l (thinned-fewer test of whole rest n thin) in
    let last : load (listed whole n ++ (whole n ∷ [])) (listed rest n ++ (rest n ∷ [])) l ≡ load (listed whole n) (listed rest n) l + (if has_leg l (rest n) then (whole n).size else 0) =
    load-push (listed whole n) (listed rest n) (whole n) (rest n) l (length-listed whole n ∙ sym (length-listed rest n)) in
    ⊎_elim
    (λ (passes : test n ≡ true).
    ap (λ c. load (map of (passing test n ++ cond c (n ∷ []) [])) (map rest (passing test n ++ cond c (n ∷ []) [])) l) passes
    ∙ ap₂ (λ (ss : List Shipment) (rs : List (List Leg)). load ss rs l) (map-append of (passing test n) (n ∷ [])) (map-append rest (passing test n) (n ∷ []))
    ∙ load-push (map of (passing test n)) (map rest (passing test n)) (of n) (rest n) l (long-thinned of rest (passing test n))
    ∙ ap₂ (λ (a b : ℕ). a + b) before (ap (λ (m : ℕ). if has_leg l (rest n) then m else 0) (thin.sizes n (omega arith)))
    ∙ sym last)
    (λ (fails : test n ≡ false).
    let gone : (if has_leg l (rest n) then (whole n).size else 0) ≡ 0 = ap (λ (ls : List Leg). if has_leg l ls then (whole n).size else 0) (thin.none n (omega arith) fails) in
    let nothing : load (listed whole n) (listed rest n) l ≡ load (listed whole n) (listed rest n) l + (if has_leg l (rest n) then (whole n).size else 0) = omega (arith, gone) in
    ap (λ c. load (map of (passing test n ++ cond c (n ∷ []) [])) (map rest (passing test n ++ cond c (n ∷ []) [])) l) fails
    ∙ ap (λ (ks : List ℕ). load (map of ks) (map rest ks) l) (append-nil (passing test n))
    ∙ before
    ∙ nothing
    ∙ sym last)
    (cases_Bool (test n))

flow-thinned : (p : Problem) (test : ℕ → Bool) (of whole : ℕ → Shipment) (rest : ℕ → List Leg) (n : ℕ) → AreThinned test of whole rest n →
    flow_total p (map of (passing test n)) (map rest (passing test n)) ≡ flow_total p (listed whole n) (listed rest n)
flow-thinned p test of whole rest zero thin = refl
flow-thinned p test of whole rest (suc n) thin =
    let before : flow_total p (map of (passing test n)) (map rest (passing test n)) ≡ flow_total p (listed whole n) (listed rest n) =
    flow-thinned p test of whole rest n (thinned-fewer test of whole rest n thin) in
    let last : flow_total p (listed whole n ++ (whole n ∷ [])) (listed rest n ++ (rest n ∷ [])) ≡ flow_total p (listed whole n) (listed rest n) + flow_cost p (whole n).size (rest n) =
    flow-push p (listed whole n) (listed rest n) (whole n) (rest n) (length-listed whole n ∙ sym (length-listed rest n)) in
    ⊎_elim
    (λ (passes : test n ≡ true).
    ap (λ c. flow_total p (map of (passing test n ++ cond c (n ∷ []) [])) (map rest (passing test n ++ cond c (n ∷ []) []))) passes
    ∙ ap₂ (λ (ss : List Shipment) (rs : List (List Leg)). flow_total p ss rs) (map-append of (passing test n) (n ∷ [])) (map-append rest (passing test n) (n ∷ []))
    ∙ flow-push p (map of (passing test n)) (map rest (passing test n)) (of n) (rest n) (long-thinned of rest (passing test n))
    ∙ ap₂ (λ (a b : ℕ). a + b) before (ap (λ (m : ℕ). flow_cost p m (rest n)) (thin.sizes n (omega arith)))
    ∙ sym last)
    (λ (fails : test n ≡ false).
    let gone : flow_cost p (whole n).size (rest n) ≡ 0 = ap (flow_cost p (whole n).size) (thin.none n (omega arith) fails) in
    let nothing : flow_total p (listed whole n) (listed rest n) ≡ flow_total p (listed whole n) (listed rest n) + flow_cost p (whole n).size (rest n) = omega (arith, gone) in
    ap (λ c. flow_total p (map of (passing test n ++ cond c (n ∷ []) [])) (map rest (passing test n ++ cond c (n ∷ []) []))) fails
    ∙ ap (λ (ks : List ℕ). flow_total p (map of ks) (map rest ks)) (append-nil (passing test n))
    ∙ before
    ∙ nothing
    ∙ sym last)
    (cases_Bool (test n))

-- flow doesn't depend on what else is shipped
flow-same : (p : Problem) (others ss : List Shipment) (routes : List (List Leg)) → flow_total (record p { shipments = others }) ss routes ≡ flow_total p ss routes
flow-same p others [] routes = refl
flow-same p others (s ∷ ss) [] = refl
flow-same p others (s ∷ ss) (r ∷ routes) = ap (λ n. flow_cost p s.size r + n) (flow-same p others ss routes)

-- the shipments by their numbers
pub listed-shipments : (p : Problem) → listed (shipment_at p) (length p.shipments) ≡ p.shipments
listed-shipments p =
    ext_get_or no_shipment (listed (shipment_at p) (length p.shipments)) p.shipments (length-listed (shipment_at p) (length p.shipments))
    (λ k lt. get_or-listed (shipment_at p) (length p.shipments) k no_shipment (omega (arith, lt, length-listed (shipment_at p) (length p.shipments))))

-- so both cost the same
pub cost-thinned : (p : Problem) (test : ℕ → Bool) (of : ℕ → Shipment) (rest : ℕ → List Leg) → AreThinned test of (shipment_at p) rest (length p.shipments) →
    cost (record p { shipments = map of (passing test (length p.shipments)) }) (map rest (passing test (length p.shipments))) ≡ cost p (listed rest (length p.shipments))
cost-thinned p test of rest thin =
    ap₂ (λ (a b : ℕ). a + b) departures flows
  where
    legs : all_legs (map rest (passing test (length p.shipments))) ≡ all_legs (listed rest (length p.shipments))
    legs = all_legs-thinned test of (shipment_at p) rest (length p.shipments) thin

    each : (l : Leg) →
        departure_cost (record p { shipments = map of (passing test (length p.shipments)) }) (map rest (passing test (length p.shipments))) l ≡ departure_cost p (listed rest (length p.shipments)) l
    each l =
        ap (λ (m : ℕ). (arc_at p l.arc).truck * div_ceil m (arc_at p l.arc).capacity)
        (load-thinned test of (shipment_at p) rest (length p.shipments) l thin
        ∙ ap (λ (ts : List Shipment). load ts (listed rest (length p.shipments)) l) (listed-shipments p))

    departures :
        sum_by (departure_cost (record p { shipments = map of (passing test (length p.shipments)) }) (map rest (passing test (length p.shipments)))) (distinct (all_legs (map rest (passing test (length p.shipments)))))
        ≡ sum_by (departure_cost p (listed rest (length p.shipments))) (distinct (all_legs (listed rest (length p.shipments))))
    departures =
        ap (λ (ls : List Leg). sum_by (departure_cost (record p { shipments = map of (passing test (length p.shipments)) }) (map rest (passing test (length p.shipments)))) (distinct ls)) legs
        ∙ distinct_sum_same (departure_cost (record p { shipments = map of (passing test (length p.shipments)) }) (map rest (passing test (length p.shipments))))
        (departure_cost p (listed rest (length p.shipments))) (all_legs (listed rest (length p.shipments))) (λ l has. each l)

    flows :
        flow_total (record p { shipments = map of (passing test (length p.shipments)) }) (map of (passing test (length p.shipments))) (map rest (passing test (length p.shipments)))
        ≡ flow_total p p.shipments (listed rest (length p.shipments))
    flows =
        flow-same p (map of (passing test (length p.shipments))) (map of (passing test (length p.shipments))) (map rest (passing test (length p.shipments)))
        ∙ flow-thinned p test of (shipment_at p) rest (length p.shipments) thin
        ∙ ap (λ (ts : List Shipment). flow_total p ts (listed rest (length p.shipments))) (listed-shipments p)
