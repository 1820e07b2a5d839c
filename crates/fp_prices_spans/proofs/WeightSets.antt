-- The set rule over any different shipments, with or without weights.
use Rattle.std.proofs.Common.{◌≡◌, ◌≢◌, ℕ, ◌+◌, ◌*◌, ◌≤◌, Bool, true, false, List, [], ◌∷◌, length, ⊎_elim, refl, sym, ap, ◌∙◌, arith}
use Rattle.std.specs.Prelude.{sum_by, cond, filter, nat_eq, not}
use Rattle.std.specs.List.{AllByRecursion}
use Rattle.std.proofs.Math.Nat.{mul-le-mul_left}
use Rattle.std.proofs.lemmas.Bool.{cases_Bool, cond-true, cond-false, false≢true, ne_eqb, or_parts}
use Rattle.std.proofs.lemmas.List.Elements.{filter_passes, recursion_from_All}
use Rattle.std.proofs.lemmas.List.Filters.{sum_by-filter_both}
use Rattle.std.proofs.lemmas.List.Kept.{AllPairs-filter}
use Rattle.std.proofs.lemmas.List.Sums.{sum_by-cons}
use Rattle.fp_base_lists.specs.Distinct.{AreDistinct}
use Rattle.fp_base_lists.specs.Membership.{list_has}
use Rattle.fp_base_lists.proofs.Ceilings.{div_ceil_mono}
use Rattle.fp_model.specs.Numbered.{shipment_at}
use Rattle.fp_model.specs.Problem.{Problem, arc_at}
use Rattle.fp_prices.specs.declared.tables.Weight.{Weight}
use Rattle.fp_prices.specs.Prices.{weight_in}
use Rattle.fp_prices_spans.specs.SpanRules.{KeepWithin, shipments_of, size_of, trucks_for}

-- a shipment that none of the weights is of has none
weight-none : (weights : List Weight) (k : ℕ) → list_has (shipments_of weights) k ≡ false → weight_in weights k ≡ 0
weight-none [] k none = refl
weight-none (w ∷ weights) k none =
    let parts = or_parts (nat_eq w.shipment k) (list_has (shipments_of weights) k) none in
    cond-false (nat_eq w.shipment k) w.w (weight_in weights k) parts.0 ∙ weight-none weights k parts.1

-- so the weights of shipments are those of the ones that have some
weights-kept : (weights : List Weight) (set : List ℕ) → sum_by (weight_in weights) set ≡ sum_by (weight_in weights) (filter (list_has (shipments_of weights)) set)
weights-kept weights [] = refl
weights-kept weights (k ∷ set) =
    let has : Bool = list_has (shipments_of weights) k in
    let kept : List ℕ = filter (list_has (shipments_of weights)) set in
    let rest : sum_by (weight_in weights) set ≡ sum_by (weight_in weights) kept = weights-kept weights set in
    ⊎_elim
    (λ (some : has ≡ true).
    let first : sum_by (weight_in weights) (filter (list_has (shipments_of weights)) (k ∷ set)) ≡ weight_in weights k + sum_by (weight_in weights) kept =
    ap (sum_by (weight_in weights)) (cond-true has (k ∷ kept) kept some) ∙ sum_by-cons (weight_in weights) k kept in
    omega (arith, rest, first, sum_by-cons (weight_in weights) k set))
    (λ (none : has ≡ false).
    let first : sum_by (weight_in weights) (filter (list_has (shipments_of weights)) (k ∷ set)) ≡ sum_by (weight_in weights) kept =
    ap (sum_by (weight_in weights)) (cond-false has (k ∷ kept) kept none) in
    omega (arith, rest, first, weight-none weights k none, sum_by-cons (weight_in weights) k set))
    (cases_Bool has)

-- of the weights whose shipments pass a test, a shipment that passes has the same
pub weight-of_passing : (test : ℕ → Bool) (weights : List Weight) (k : ℕ) → test k ≡ true → weight_in (filter (λ (w : Weight). test w.shipment) weights) k ≡ weight_in weights k
weight-of_passing test [] k passes = refl
weight-of_passing test (w ∷ weights) k passes =
    let kept : List Weight = filter (λ (v : Weight). test v.shipment) weights in
    let rest : weight_in kept k ≡ weight_in weights k = weight-of_passing test weights k passes in
    ⊎_elim
    (λ (yes : test w.shipment ≡ true). ap (λ (l : List Weight). weight_in l k) (cond-true (test w.shipment) (w ∷ kept) kept yes) ∙ ap (λ (n : ℕ). cond (nat_eq w.shipment k) w.w n) rest)
    (λ (no : test w.shipment ≡ false).
    let other : nat_eq w.shipment k ≡ false = ne_eqb w.shipment k (λ e. false≢true (sym no ∙ ap test e ∙ passes)) in
    ap (λ (l : List Weight). weight_in l k) (cond-false (test w.shipment) (w ∷ kept) kept no) ∙ rest ∙ sym (cond-false (nat_eq w.shipment k) w.w (weight_in weights k) other))
    (cases_Bool (test w.shipment))

-- different shipments pay at most the money for their trucks, and the part of the charge
pub set-fits : (p : Problem) (arc money : ℕ) (weights : List Weight) (part : ℕ) (set : List ℕ) → KeepWithin p arc money weights part → AreDistinct set →
    sum_by (weight_in weights) set ≤ money * trucks_for p arc set + part
set-fits p arc money weights part set rule apart = by_kept (filter has set) (weights-kept weights set) (AllPairs-filter (λ j k. j ≢ k) has set apart) (recursion_from_All (λ k. has k ≡ true) (filter has set) (filter_passes has set)) sized
  where
    has : ℕ → Bool
    has = list_has (shipments_of weights)

    sized : size_of p (filter has set) ≤ size_of p set
    sized = omega (arith, sum_by-filter_both has (λ k. not (has k)) (λ k. refl) (λ k. (shipment_at p k).size) set)

    by_kept : (kept : List ℕ) → sum_by (weight_in weights) set ≡ sum_by (weight_in weights) kept → AreDistinct kept → AllByRecursion (λ k. list_has (shipments_of weights) k ≡ true) kept →
        size_of p kept ≤ size_of p set → sum_by (weight_in weights) set ≤ money * trucks_for p arc set + part
    by_kept [] same distinct all within = omega (arith, same)
    by_kept (k ∷ kept) same distinct all within =
        let fits : sum_by (weight_in weights) (k ∷ kept) ≤ money * trucks_for p arc (k ∷ kept) + part =
        rule (k ∷ kept) (record { some = λ e. omega (arith, ap length e); apart = distinct; among = all }) in
        let trucks : trucks_for p arc (k ∷ kept) ≤ trucks_for p arc set = div_ceil_mono (size_of p (k ∷ kept)) (size_of p set) (arc_at p arc).capacity within in
        omega (arith, same, fits, mul-le-mul_left money trucks)
