-- What is left of a valid instance is one.
use Rattle.std.proofs.Common.{◌≡◌, ◌≢◌, ℕ, zero, suc, ◌+◌, ◌*◌, ◌<◌, ◌≤◌, true, false, Bool, List, [], ◌∷◌, ◌++◌, length, get_or, map, refl, sym, ap, ◌∙◌, subst, arith, append-nil, ⊎_elim}
use Rattle.std.specs.Prelude.{cond, sum_by, AllPairs}
use Rattle.std.specs.List.{AllByRecursion}
use Rattle.std.proofs.Math.Nat.{mul-le-mul_left}
use Rattle.std.proofs.lemmas.Bool.{cases_Bool}
use Rattle.std.proofs.lemmas.List.{get_or-map, length-map, map-append}
use Rattle.std.proofs.lemmas.List.Sums.{sum_by-append, sum_by-cons}
use Rattle.fp_base_lists.proofs.Elements.{AllByRecursion-get_or, AllByRecursion-map}
use Rattle.fp_model.specs.declared.limits.TheConstants.{MOST_TIMED_NODES, SCALE}
use Rattle.fp_model.specs.declared.parts.Shipment.{Shipment}
use Rattle.fp_model.specs.Numbered.{no_shipment, shipment_at}
use Rattle.fp_model.specs.Problem.{IsShipment, IsValid, Problem, alone_cost, alone_total, weight_at}
use Rattle.fp_replan_present.specs.Days.{Day}
use Rattle.fp_replan_present.specs.Plans.{listed}
use Rattle.fp_replan_present.specs.Rests.{is_left, left_numbers, left_problem, moved, passing}
use Rattle.fp_replan_present.proofs.Numbers.{PassesBelow, passing-each, passing-few, passing-up}
use Rattle.fp_replan_present.proofs.RestCosts.{listed-shipments}

-- what depends on their sizes sums to no more over some shipments than over all
sum-passing : (f : Shipment → ℕ) (test : ℕ → Bool) (of whole : ℕ → Shipment) → ((k : ℕ) → f (of k) ≡ f (whole k)) → (n : ℕ) → sum_by f (map of (passing test n)) ≤ sum_by f (listed whole n)
sum-passing f test of whole same zero = omega arith
sum-passing f test of whole same (suc n) =
    let before : sum_by f (map of (passing test n)) ≤ sum_by f (listed whole n) = sum-passing f test of whole same n in
    let last : sum_by f (listed whole n ++ (whole n ∷ [])) ≡ sum_by f (listed whole n) + sum_by f (whole n ∷ []) = sum_by-append f (listed whole n) (whole n ∷ []) in
    let one : sum_by f (of n ∷ []) ≡ sum_by f (whole n ∷ []) = sum_by-cons f (of n) [] ∙ ap (λ m. m + sum_by f []) (same n) ∙ sym (sum_by-cons f (whole n) []) in
    ⊎_elim
    (λ (passes : test n ≡ true).
    let split : sum_by f (map of (passing test n ++ (n ∷ []))) ≡ sum_by f (map of (passing test n)) + sum_by f (of n ∷ []) =
    ap (sum_by f) (map-append of (passing test n) (n ∷ [])) ∙ sum_by-append f (map of (passing test n)) (of n ∷ []) in
    subst (λ c. sum_by f (map of (passing test n ++ cond c (n ∷ []) [])) ≤ sum_by f (listed whole n ++ (whole n ∷ []))) (sym passes) (omega (arith, split, before, last, one)))
    (λ (fails : test n ≡ false).
    let none : sum_by f (map of (passing test n ++ [])) ≡ sum_by f (map of (passing test n)) = ap (λ (ks : List ℕ). sum_by f (map of ks)) (append-nil (passing test n)) in
    subst (λ c. sum_by f (map of (passing test n ++ cond c (n ∷ []) [])) ≤ sum_by f (listed whole n ++ (whole n ∷ []))) (sym fails) (omega (arith, none, before, last)))
    (cases_Bool (test n))

-- so the weight is no greater, at any scale
weight-left : (p : Problem) (day : Day) (scale : ℕ) → weight_at scale p.arcs (map (moved p day) (left_numbers p day)) ≤ weight_at scale p.arcs p.shipments
weight-left p day scale =
    let f : Shipment → ℕ = λ s. sum_by (alone_cost s.size) p.arcs in
    let fewer : sum_by f (map (moved p day) (left_numbers p day)) ≤ sum_by f (listed (shipment_at p) (length p.shipments)) =
    sum-passing f (is_left p day) (moved p day) (shipment_at p) (λ k. refl) (length p.shipments) in
    let all : sum_by f (listed (shipment_at p) (length p.shipments)) ≡ sum_by f p.shipments = ap (sum_by f) (listed-shipments p) in
    let le : alone_total p.arcs (map (moved p day) (left_numbers p day)) ≤ alone_total p.arcs p.shipments = omega (arith, fewer, all) in
    mul-le-mul_left (scale * MOST_TIMED_NODES) le

-- the names of what is left differ
names-differ : (p : Problem) (day : Day) → IsValid p → AllPairs (λ (s t : Shipment). s.name ≢ t.name) (map (moved p day) (left_numbers p day))
names-differ p day valid i j d lt within =
    let numbers : List ℕ = left_numbers p day in
    let long : j < length numbers = omega (arith, within, length-map numbers (moved p day)) in
    let first : i < length numbers = omega (arith, lt, long) in
    let a : ℕ = get_or numbers i 0 in
    let b : ℕ = get_or numbers j 0 in
    let less : a < b = passing-up (is_left p day) (length p.shipments) i j 0 lt long in
    let exists : b < length p.shipments = (AllByRecursion-get_or (PassesBelow (is_left p day) (length p.shipments)) numbers j 0 (passing-each (is_left p day) (length p.shipments)) long).0 in
    λ same.
    valid.parts.shipments_differ a b no_shipment less exists
    (ap (λ (s : Shipment). s.name) (sym (get_or-map (moved p day) numbers i 0 d first)) ∙ same ∙ ap (λ (s : Shipment). s.name) (get_or-map (moved p day) numbers j 0 d long))

pub IsValid-left : (p : Problem) (day : Day) → IsValid p → AllByRecursion (λ k. IsShipment (length p.terminals) (moved p day k)) (left_numbers p day) → IsValid (left_problem p day)
IsValid-left p day valid within = record {
  parts = record {
    few_terminals = valid.parts.few_terminals;
    few_arcs = valid.parts.few_arcs;
    few_shipments = omega (arith, valid.parts.few_shipments, length-map (left_numbers p day) (moved p day), passing-few (is_left p day) (length p.shipments));
    names = valid.parts.names;
    arcs = valid.parts.arcs;
    shipments = λ i d lt.
        AllByRecursion-get_or (IsShipment (length p.terminals)) (map (moved p day) (left_numbers p day)) i d
        (AllByRecursion-map (IsShipment (length p.terminals)) (moved p day) (left_numbers p day) within) lt;
    terminals_differ = valid.parts.terminals_differ;
    arcs_differ = valid.parts.arcs_differ;
    shipments_differ = names-differ p day valid;
    one_each = valid.parts.one_each;
    holds = valid.parts.holds;
  };
  weight = omega (arith, valid.weight, weight-left p day SCALE);
  scale = valid.scale;
  fits = omega (arith, valid.fits, weight-left p day p.scale);
}
