-- What the trucks cost over the set bits is what the trucks of the departures of the forced chains cost.
use Rattle.std.proofs.Common.{◌≡◌, ◌≢◌, ℕ, ◌+◌, ◌*◌, ◌<◌, Bool, true, false, ◌||◌, List, [], ◌∷◌, get_or, ⊎_elim, sym, ap, ◌∙◌, subst, arith}
use Rattle.std.specs.Prelude.{if◌then◌else◌, sum_by}
use Rattle.std.specs.Int.{div_ceil}
use Rattle.std.specs.List.{AllByRecursion}
use Rattle.std.proofs.lemmas.Bool.{cases_Bool, cond-false, cond-true, false_from_ne_true, or_right}
use Rattle.std.proofs.lemmas.List.Sums.{sum_by-cons}
use Rattle.fp_base_lists.proofs.SumsBelow.{sum_below-same, sum_below-zero, sum_below-changed}
use Rattle.fp_model.specs.declared.parts.Leg.{Leg}
use Rattle.fp_model.specs.Costs.{all_legs, departure_cost, departures_cost, distinct, has_leg, load, same_leg}
use Rattle.fp_model.specs.Problem.{Problem, arc_at}
use Rattle.fp_model.proofs.Distinct.{same_leg-refl, same_leg-true}
use Rattle.fp_longestarcs.specs.Networks.{IsClass, IsNetwork, TimedNetwork, class_count, class_number}
use Rattle.fp_longestarcs.proofs.ClassNumbers.{number-within}
use Rattle.fp_allowed.specs.Bits.{bit_of}
use Rattle.fp_allowed.specs.Listing.{class_at}
use Rattle.fp_allowed.proofs.ListedClasses.{class_at-number}
use Rattle.fp_prices.specs.declared.classes.bases.ForcedClasses.{ForcedClasses}
use Rattle.fp_prices.specs.Forced.{AreForcedClasses, row_cost, truck_cost_at}
use Rattle.fp_base_lists.specs.Below.{sum_below}
use Rattle.fp_prices.proofs.NumberedClasses.{number-class}

module _ (net : TimedNetwork) (valid : IsNetwork net) (cost : Leg → ℕ) where
  -- what the class with a number adds, where it is among legs
  abbrev among : List Leg → ℕ → ℕ
  among legs n = if has_leg (class_at net n) legs then cost (class_at net n) else 0

  -- the sum over the numbers of classes among legs is that over the distinct legs
  sum-legs : (legs : List Leg) → AllByRecursion (IsClass net) legs → sum_below (class_count net) (among legs) ≡ sum_by cost (distinct legs)
  sum-legs [] all = sum_below-zero (class_count net)
  sum-legs (x ∷ legs) all =
      let rest : sum_below (class_count net) (among legs) ≡ sum_by cost (distinct legs) = sum-legs legs all.1 in
      ⊎_elim
      (λ (again : has_leg x legs ≡ true).
      let same : sum_below (class_count net) (among (x ∷ legs)) ≡ sum_below (class_count net) (among legs) =
      sum_below-same (class_count net) (among (x ∷ legs)) (among legs) (λ i h. ap (λ (b : Bool). if b then cost (class_at net i) else 0) (told-again (class_at net i) again)) in
      same ∙ rest ∙ ap (sum_by cost) (sym (cond-true (has_leg x legs) (distinct legs) (x ∷ distinct legs) again)))
      (λ (new : has_leg x legs ≡ false).
      let at : ℕ = class_number net x in
      let is : class_at net at ≡ x = class_at-number net x valid all.0 in
      let before : among legs at ≡ 0 = cond-false (has_leg (class_at net at) legs) (cost (class_at net at)) 0 (ap (λ (c : Leg). has_leg c legs) is ∙ new) in
      let first : among (x ∷ legs) at ≡ cost x =
      cond-true (has_leg (class_at net at) (x ∷ legs)) (cost (class_at net at)) 0 (subst (λ (c : Leg). (same_leg c x || has_leg c legs) ≡ true) (sym is) (ap (λ (b : Bool). b || has_leg x legs) (same_leg-refl x))) ∙ ap cost is in
      let changed : sum_below (class_count net) (among (x ∷ legs)) ≡ sum_below (class_count net) (among legs) + among (x ∷ legs) at =
      sum_below-changed (class_count net) at (among legs) (among (x ∷ legs)) (number-within net x valid all.0) (λ i h apart. ap (λ (b : Bool). if b then cost (class_at net i) else 0) (told-other i h apart)) before in
      let whole : sum_by cost (distinct (x ∷ legs)) ≡ cost x + sum_by cost (distinct legs) = ap (sum_by cost) (cond-false (has_leg x legs) (distinct legs) (x ∷ distinct legs) new) ∙ sum_by-cons cost x (distinct legs) in
      omega (arith, changed, first, rest, whole))
      (cases_Bool (has_leg x legs))
    where
      told-again : (c : Leg) → has_leg x legs ≡ true → has_leg c (x ∷ legs) ≡ has_leg c legs
      told-again c again =
          ⊎_elim
          (λ (here : same_leg c x ≡ true). let e : c ≡ x = same_leg-true c x here in
          subst (λ (b : Leg). has_leg b (x ∷ legs) ≡ has_leg b legs) (sym e) (or_right (same_leg x x) (has_leg x legs) again ∙ sym again))
          (λ (other : same_leg c x ≡ false). ap (λ (b : Bool). b || has_leg c legs) other)
          (cases_Bool (same_leg c x))

      told-other : (i : ℕ) → i < class_count net → i ≢ class_number net x → has_leg (class_at net i) (x ∷ legs) ≡ has_leg (class_at net i) legs
      told-other i h apart =
          ap (λ (b : Bool). b || has_leg (class_at net i) legs)
          (false_from_ne_true (same_leg (class_at net i) x) (λ t. apart (sym (number-class net i valid h).1 ∙ ap (class_number net) (same_leg-true (class_at net i) x t))))

-- what the trucks cost over the set bits
pub row_cost-chains : (p : Problem) (net : TimedNetwork) (chains : List (List Leg)) (forced : ForcedClasses) → IsNetwork net → AreForcedClasses p net chains forced →
    row_cost p net forced.loads.items forced.row ≡ departures_cost p chains (all_legs chains)
row_cost-chains p net chains forced valid are =
    ap (λ (n : ℕ). sum_below n (λ i. if bit_of forced.row i then truck_cost_at p net forced.loads.items i else 0)) are.row_long ∙
    sum_below-same (class_count net) (λ i. if bit_of forced.row i then truck_cost_at p net forced.loads.items i else 0) (among net valid (departure_cost p chains) (all_legs chains)) each ∙
    sum-legs net valid (departure_cost p chains) (all_legs chains) are.classes
  where
    each : (i : ℕ) → i < class_count net → (if bit_of forced.row i then truck_cost_at p net forced.loads.items i else 0) ≡ among net valid (departure_cost p chains) (all_legs chains) i
    each i h =
        let c : Leg = class_at net i in
        let at = number-class net i valid h in
        let bit : bit_of forced.row i ≡ has_leg c (all_legs chains) = ap (bit_of forced.row) (sym at.1) ∙ are.told c at.0 in
        let own : get_or forced.loads.items i 0 ≡ load p.shipments chains c = ap (λ (n : ℕ). get_or forced.loads.items n 0) (sym at.1) ∙ are.loads c at.0 in
        ap (λ (b : Bool). if b then truck_cost_at p net forced.loads.items i else 0) bit ∙
        ap (λ (n : ℕ). if has_leg c (all_legs chains) then (arc_at p c.arc).truck * div_ceil n (arc_at p c.arc).capacity else 0) own
