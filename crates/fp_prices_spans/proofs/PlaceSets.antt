-- The set rule over the places of a span's weights gives it over sets of shipments.
use Rattle.std.proofs.Common.{◌≡◌, ℕ, ◌+◌, ◌*◌, ◌<◌, ◌≤◌, Bool, true, false, cond, List, [], ◌∷◌, length, get_or, ⊎_elim, refl, sym, ap, ◌∙◌, subst, arith}
use Rattle.std.specs.Prelude.{sum_by, nat_eq, if◌then◌else◌}
use Rattle.std.specs.Int.{div_ceil}
use Rattle.std.proofs.Math.Nat.{mul-le-mul_left}
use Rattle.std.proofs.lemmas.Bool.{cases_Bool, cond-true, cond-false, eqb-false, eqb-true, ne_eqb, or_cases, or_parts}
use Rattle.std.proofs.lemmas.List.{get_or-map, length-map}
use Rattle.std.proofs.lemmas.List.Sums.{sum_by-cons, sum_by-le-sum_by}
use Rattle.fp_base_lists.specs.Below.{some_below, sum_below}
use Rattle.fp_base_lists.specs.Distinct.{AreDistinct}
use Rattle.fp_base_lists.specs.Membership.{list_has}
use Rattle.fp_base_lists.proofs.Ceilings.{div_ceil_mono}
use Rattle.fp_base_lists.proofs.CountsBelow.{some_below-true}
use Rattle.fp_base_lists.proofs.DistinctSums.{sum_by-one-le}
use Rattle.fp_base_lists.proofs.Membership.{StandsAt, StandsAt-from_list_has, list_has-first}
use Rattle.fp_base_lists.proofs.Sums.{sum_by-both, sum_by-const, sum_by-map}
use Rattle.fp_model.specs.Numbered.{shipment_at}
use Rattle.fp_model.specs.Problem.{Problem, arc_at}
use Rattle.fp_prices.specs.declared.tables.Weight.{Weight}
use Rattle.fp_prices.specs.Prices.{weight_in}
use Rattle.fp_prices_spans.specs.SpanRules.{IsSetOf, KeepWithin, WeightsAscend, shipments_of, size_of}
use Rattle.fp_base_lists.proofs.SumsBelow.{sum_below-places}

-- stands for the weight of a place that no weight has
abbrev pub no_weight : Weight
no_weight = record { shipment = 0; w = 0 }

-- the weight at a place
abbrev pub weight_at : List Weight → ℕ → Weight
weight_at weights place = get_or weights place no_weight

-- the set rule where a set is told by a test on the places of the weights, which some place passes
abbrev pub KeepPlaceRule : Problem → (arc money : ℕ) → List Weight → (part : ℕ) → Type 0
KeepPlaceRule p arc money weights part =
    (chosen : ℕ → Bool) → some_below (length weights) chosen ≡ true →
    sum_below (length weights) (λ place. if chosen place then (weight_at weights place).w else 0)
    ≤ money * div_ceil (sum_below (length weights) (λ place. if chosen place then (shipment_at p (weight_at weights place).shipment).size else 0)) (arc_at p arc).capacity + part

-- a value at one number counts among distinct numbers where it is one of them
sum_by-one_of : (x n : ℕ) (set : List ℕ) → AreDistinct set → sum_by (λ k. cond (nat_eq x k) n 0) set ≤ (if list_has set x then n else 0)
sum_by-one_of x n set apart =
    ⊎_elim
    (λ (has : list_has set x ≡ true). omega (arith, sum_by-one-le x n set apart, cond-true (list_has set x) n 0 has))
    (λ (has_not : list_has set x ≡ false). omega (arith, elsewhere set has_not))
    (cases_Bool (list_has set x))
  where
    elsewhere : (numbers : List ℕ) → list_has numbers x ≡ false → sum_by (λ k. cond (nat_eq x k) n 0) numbers ≡ 0
    elsewhere [] none = refl
    elsewhere (k ∷ numbers) none =
        let parts = or_parts (nat_eq k x) (list_has numbers x) none in
        omega (
          arith,
          elsewhere numbers parts.1,
          sum_by-cons (λ j. cond (nat_eq x j) n 0) k numbers,
          cond-false (nat_eq x k) n 0 (ne_eqb x k (λ e. eqb-false k x parts.0 (sym e))),
        )

-- what a weight adds where a set has its shipment
abbrev weight_if : List ℕ → Weight → ℕ
weight_if set w = if list_has set w.shipment then w.w else 0

-- the weights of a set are at most those at its places
weights-at_places : (weights : List Weight) (set : List ℕ) → AreDistinct set → sum_by (weight_in weights) set ≤ sum_by (weight_if set) weights
weights-at_places [] set apart = omega (arith, sum_by-const {X = ℕ} 0 set)
weights-at_places (w ∷ weights) set apart =
    let here : ℕ → ℕ = λ k. cond (nat_eq w.shipment k) w.w 0 in
    let each : sum_by (weight_in (w ∷ weights)) set ≤ sum_by (λ k. here k + weight_in weights k) set =
    sum_by-le-sum_by (weight_in (w ∷ weights)) (λ k. here k + weight_in weights k) set (λ k. first_or_later (nat_eq w.shipment k) w.w (weight_in weights k)) in
    omega (arith, each, sum_by-both here (weight_in weights) set, sum_by-one_of w.shipment w.w set apart, weights-at_places weights set apart, sum_by-cons (weight_if set) w weights)
  where
    first_or_later : (b : Bool) (m n : ℕ) → cond b m n ≤ cond b m 0 + n
    first_or_later true m n = omega arith
    first_or_later false m n = omega arith

-- values of distinct numbers that a set has sum to at most those of the set
pub values-in_set : (f : ℕ → ℕ) (numbers set : List ℕ) → AreDistinct numbers → sum_by (λ x. if list_has set x then f x else 0) numbers ≤ sum_by f set
values-in_set f numbers [] apart = omega (arith, sum_by-const {X = ℕ} 0 numbers)
values-in_set f numbers (k ∷ set) apart =
    let here : ℕ → ℕ = λ x. cond (nat_eq k x) (f k) 0 in
    let later : ℕ → ℕ = λ x. if list_has set x then f x else 0 in
    let each : sum_by (λ x. if list_has (k ∷ set) x then f x else 0) numbers ≤ sum_by (λ x. here x + later x) numbers =
    sum_by-le-sum_by (λ x. if list_has (k ∷ set) x then f x else 0) (λ x. here x + later x) numbers first_or_later in
    omega (arith, each, sum_by-both here later numbers, sum_by-one-le k (f k) numbers apart, values-in_set f numbers set apart, sum_by-cons f k set)
  where
    first_or_later : (x : ℕ) → (if list_has (k ∷ set) x then f x else 0) ≤ cond (nat_eq k x) (f k) 0 + (if list_has set x then f x else 0)
    first_or_later x =
        ⊎_elim
        (λ (has : list_has (k ∷ set) x ≡ true).
        ⊎_elim
        (λ (first : nat_eq k x ≡ true). omega (arith, cond-true (list_has (k ∷ set) x) (f x) 0 has, cond-true (nat_eq k x) (f k) 0 first, ap f (eqb-true k x first)))
        (λ (rest : list_has set x ≡ true). omega (arith, cond-true (list_has (k ∷ set) x) (f x) 0 has, cond-true (list_has set x) (f x) 0 rest))
        (or_cases (nat_eq k x) (list_has set x) has))
        (λ (has_not : list_has (k ∷ set) x ≡ false). omega (arith, cond-false (list_has (k ∷ set) x) (f x) 0 has_not))
        (cases_Bool (list_has (k ∷ set) x))

-- weights in order are of different shipments
shipments-apart : (weights : List Weight) → WeightsAscend weights → AreDistinct (shipments_of weights)
shipments-apart weights ascend i j d less lt same =
    let shipment : Weight → ℕ = λ w. w.shipment in
    let long : length (shipments_of weights) ≡ length weights = length-map weights shipment in
    let inside : j < length weights = omega (arith, lt, long) in
    omega (
      arith,
      ascend i j no_weight less inside,
      same,
      get_or-map shipment weights i no_weight d (omega (arith, less, inside)),
      get_or-map shipment weights j no_weight d inside,
    )

-- a set of shipments has the place of one of the weights
some-place : (weights : List Weight) (set : List ℕ) → IsSetOf weights set → some_below (length weights) (λ place. list_has set (weight_at weights place).shipment) ≡ true
some-place weights [] is = absurd (is.some refl)
some-place weights (k ∷ set) is =
    let shipment : Weight → ℕ = λ w. w.shipment in
    let at : StandsAt (shipments_of weights) k = StandsAt-from_list_has (shipments_of weights) k is.among.0 in
    let inside : at.place < length weights = omega (arith, at.within, length-map weights shipment) in
    let here : k ≡ (weight_at weights at.place).shipment = sym (at.is 0) ∙ get_or-map shipment weights at.place no_weight 0 inside in
    some_below-true (length weights) at.place (λ place. list_has (k ∷ set) (weight_at weights place).shipment) inside (subst (λ (n : ℕ). list_has (k ∷ set) n ≡ true) here (list_has-first k set))

-- so the rule over places gives the rule over sets
pub set_rule-by_places : (p : Problem) (arc money : ℕ) (weights : List Weight) (part : ℕ) → WeightsAscend weights → KeepPlaceRule p arc money weights part → KeepWithin p arc money weights part
set_rule-by_places p arc money weights part ascend rule set is =
    let capacity : ℕ = (arc_at p arc).capacity in
    let chosen : ℕ → Bool = λ place. list_has set (weight_at weights place).shipment in
    let size_if : Weight → ℕ = λ w. if list_has set w.shipment then (shipment_at p w.shipment).size else 0 in
    let fits : sum_below (length weights) (λ place. if chosen place then (weight_at weights place).w else 0)
    ≤ money * div_ceil (sum_below (length weights) (λ place. if chosen place then (shipment_at p (weight_at weights place).shipment).size else 0)) capacity + part =
    rule chosen (some-place weights set is) in
    let sizes : sum_by size_if weights ≤ size_of p set =
    omega (
      arith,
      values-in_set (λ k. (shipment_at p k).size) (shipments_of weights) set (shipments-apart weights ascend),
      sum_by-map (λ k. if list_has set k then (shipment_at p k).size else 0) (λ (w : Weight). w.shipment) weights,
    ) in
    let at_places : sum_below (length weights) (λ place. if chosen place then (shipment_at p (weight_at weights place).shipment).size else 0) ≡ sum_by size_if weights =
    sum_below-places size_if no_weight weights in
    let trucks : div_ceil (sum_below (length weights) (λ place. if chosen place then (shipment_at p (weight_at weights place).shipment).size else 0)) capacity ≤ div_ceil (size_of p set) capacity =
    div_ceil_mono (sum_below (length weights) (λ place. if chosen place then (shipment_at p (weight_at weights place).shipment).size else 0)) (size_of p set) capacity (omega (arith, sizes, at_places)) in
    omega (arith, weights-at_places weights set is.apart, sum_below-places (weight_if set) no_weight weights, fits, mul-le-mul_left money trucks)
