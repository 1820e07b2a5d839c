-- The set rule over weights that are all the same, of shipments of the same size.
use Rattle.std.proofs.Common.{◌≡◌, ◌≢◌, ℕ, ◌+◌, ◌*◌, ◌≤◌, true, List, [], ◌∷◌, length, refl, sym, ◌∙◌, subst, arith}
use Rattle.std.specs.Prelude.{sum_by, if◌then◌else◌}
use Rattle.std.specs.List.{AllByRecursion}
use Rattle.std.specs.Int.{div_ceil}
use Rattle.std.proofs.lemmas.Bool.{cond-true}
use Rattle.std.proofs.lemmas.List.{length-map}
use Rattle.fp_base_lists.specs.Distinct.{AreDistinct}
use Rattle.fp_base_lists.specs.Membership.{list_has}
use Rattle.fp_base_lists.proofs.Elements.{AllByRecursion-weaker}
use Rattle.fp_base_lists.proofs.Membership.{AllByRecursion-list_has}
use Rattle.fp_base_lists.proofs.Sums.{sum_by-const, sum_by-same_each}
use Rattle.fp_model.specs.Numbered.{shipment_at}
use Rattle.fp_model.specs.Problem.{Problem, arc_at}
use Rattle.fp_prices.specs.declared.tables.Weight.{Weight}
use Rattle.fp_prices.specs.Prices.{weight_in}
use Rattle.fp_prices_spans.specs.SpanRules.{KeepWithin, shipments_of, size_of}
use Rattle.fp_prices_spans.proofs.PlaceSets.{values-in_set}

some_long : (set : List ℕ) → set ≢ [] → 1 ≤ length set
some_long [] some = absurd (some refl)
some_long (k ∷ set) some = omega arith

-- different numbers, each of which is one of others, are no more than these
few-among : (others set : List ℕ) → AreDistinct set → AllByRecursion (λ k. list_has others k ≡ true) set → length set ≤ length others
few-among others set apart among =
    let ones : sum_by (λ k. if list_has others k then 1 else 0) set ≡ length set * 1 =
    sum_by-same_each (λ k. if list_has others k then 1 else 0) (λ (k : ℕ). 1) set
    (AllByRecursion-weaker (λ k. list_has others k ≡ true) (λ k. (if list_has others k then 1 else 0) ≡ 1) (λ k has. cond-true {A = ℕ} (list_has others k) 1 0 has) set among)
    ∙ sum_by-const {X = ℕ} 1 set in
    omega (arith, ones, values-in_set (λ (k : ℕ). 1) set others apart, sum_by-const {X = ℕ} 1 others)

-- it is enough to count the shipments of a set
pub by_count : (p : Problem) (arc money : ℕ) (weights : List Weight) (part weight size : ℕ) →
    AllByRecursion (λ k. (weight_in weights k ≡ weight) × ((shipment_at p k).size ≡ size)) (shipments_of weights) →
    ((m : ℕ) → 1 ≤ m → m ≤ length weights → m * weight ≤ money * div_ceil (m * size) (arc_at p arc).capacity + part) → KeepWithin p arc money weights part
by_count p arc money weights part weight size each fits set is =
    let all : AllByRecursion (λ k. (weight_in weights k ≡ weight) × ((shipment_at p k).size ≡ size)) set =
    AllByRecursion-weaker (λ k. list_has (shipments_of weights) k ≡ true) (λ k. (weight_in weights k ≡ weight) × ((shipment_at p k).size ≡ size))
    (λ k has. AllByRecursion-list_has (λ j. (weight_in weights j ≡ weight) × ((shipment_at p j).size ≡ size)) (shipments_of weights) k each has) set is.among in
    let total : sum_by (weight_in weights) set ≡ length set * weight =
    sum_by-same_each (weight_in weights) (λ (k : ℕ). weight) set
    (AllByRecursion-weaker (λ k. (weight_in weights k ≡ weight) × ((shipment_at p k).size ≡ size)) (λ k. weight_in weights k ≡ weight) (λ k h. h.0) set all)
    ∙ sum_by-const weight set in
    let sizes : size_of p set ≡ length set * size =
    sum_by-same_each (λ k. (shipment_at p k).size) (λ (k : ℕ). size) set
    (AllByRecursion-weaker (λ k. (weight_in weights k ≡ weight) × ((shipment_at p k).size ≡ size)) (λ k. (shipment_at p k).size ≡ size) (λ k h. h.1) set all)
    ∙ sum_by-const size set in
    let few : length set ≤ length weights = omega (arith, few-among (shipments_of weights) set is.apart is.among, length-map weights (λ (w : Weight). w.shipment)) in
    let held : length set * weight ≤ money * div_ceil (size_of p set) (arc_at p arc).capacity + part =
    subst (λ (n : ℕ). length set * weight ≤ money * div_ceil n (arc_at p arc).capacity + part) (sym sizes) (fits (length set) (some_long set is.some) few) in
    omega (arith, total, held)
