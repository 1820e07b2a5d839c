-- What the trucks of the forced chains cost, class by class.
use Rattle.std.proofs.Common.{◌≡◌, ◌≢◌, ℕ, suc, ◌+◌, ◌-◌, ◌*◌, ◌^◌, ◌<◌, ◌≤◌, Bool, true, false, ◌||◌, List, [], ◌∷◌, ⊎_elim, sym, ap, ◌∙◌, subst, arith}
use Rattle.std.specs.Prelude.{if◌then◌else◌, sum_by}
use Rattle.std.specs.Int.{div_ceil}
use Rattle.std.specs.List.{AllByRecursion}
use Rattle.std.proofs.Math.Nat.{mul-le-mul_left}
use Rattle.std.proofs.lemmas.Bool.{cases_Bool, cond-false, cond-true, false_from_ne_true, or_right}
use Rattle.std.proofs.lemmas.List.Sums.{sum_by-cons}
use Rattle.fp_base_lists.specs.Below.{sum_below}
use Rattle.fp_base_lists.specs.Numbered.{AllZipFrom}
use Rattle.fp_base_lists.proofs.Elements.{AllByRecursion-append, AllByRecursion-weaker}
use Rattle.fp_base_lists.proofs.SumsBelow.{sum_below-changed, sum_below-has, sum_below-same, sum_below-zero}
use Rattle.fp_model.specs.declared.parts.Arc.{Arc}
use Rattle.fp_model.specs.declared.parts.Leg.{Leg}
use Rattle.fp_model.specs.declared.parts.Shipment.{Shipment}
use Rattle.fp_model.specs.Costs.{all_legs, departure_cost, departures_cost, distinct, has_leg, load, same_leg}
use Rattle.fp_model.specs.Problem.{IsValid, Problem, alone_total, arc_at}
use Rattle.fp_model.proofs.Distinct.{same_leg-refl, same_leg-true}
use Rattle.fp_flatnet.specs.Tables.{windows_in}
use Rattle.fp_longestarcs.specs.Networks.{IsClass, IsNetwork, TimedNetwork, class_count, class_number, points_in}
use Rattle.fp_longestarcs.specs.Whole.{IsWholeNetwork}
use Rattle.fp_longestarcs.proofs.ClassNumbers.{number-within}
use Rattle.fp_allowed.specs.Allowed.{AreForced}
use Rattle.fp_allowed.specs.Listing.{class_at}
use Rattle.fp_allowed.proofs.ListedClasses.{class_at-number}
use Rattle.fp_prices.specs.LeafPricings.{AreChainsOf, allowed_at}
use Rattle.fp_prices.specs.Leaves.{IsChain}
use Rattle.fp_prices.specs.Rounds.{LeafModel}
use Rattle.fp_prices.proofs.NumberedClasses.{number-class}
use Rattle.fp_prices.proofs.SmallBounds.{bases-small}
use Rattle.fp_prices_spans.specs.SpanCosts.{base_of}
use Rattle.fp_prices_spans.proofs.AllowedInNetwork.{allowed-class}

module _ (net : TimedNetwork) (valid : IsNetwork net) (cost : Leg → ℕ) where
  -- what the class with a number adds, where it is among legs
  abbrev pub among : List Leg → ℕ → ℕ
  among legs n = if has_leg (class_at net n) legs then cost (class_at net n) else 0

  -- the sum over the numbers of classes among legs is that over the distinct legs
  sum-legs : (legs : List Leg) → AllByRecursion (IsClass net) legs → sum_below (class_count net) (among legs) ≡ sum_by cost (distinct legs)
  sum-legs [] all = sum_below-zero (class_count net)
  sum-legs (x ∷ legs) all =
      let rest : sum_below (class_count net) (among legs) ≡ sum_by cost (distinct legs) = sum-legs legs all.1 in
      ⊎_elim
      (λ (again : has_leg x legs ≡ true).
      let same : sum_below (class_count net) (among (x ∷ legs)) ≡ sum_below (class_count net) (among legs) =
      sum_below-same (class_count net) (among (x ∷ legs)) (among legs) (λ i h. ap (λ (b : Bool). if b then cost (class_at net i) else 0) (told-again (class_at net i) again)) in
      same ∙ rest ∙ ap (sum_by cost) (sym (cond-true (has_leg x legs) (distinct legs) (x ∷ distinct legs) again)))
      (λ (new : has_leg x legs ≡ false).
      let at : ℕ = class_number net x in
      let is : class_at net at ≡ x = class_at-number net x valid all.0 in
      let before : among legs at ≡ 0 = cond-false (has_leg (class_at net at) legs) (cost (class_at net at)) 0 (ap (λ (c : Leg). has_leg c legs) is ∙ new) in
      let first : among (x ∷ legs) at ≡ cost x =
      cond-true (has_leg (class_at net at) (x ∷ legs)) (cost (class_at net at)) 0 (subst (λ (c : Leg). (same_leg c x || has_leg c legs) ≡ true) (sym is) (ap (λ (b : Bool). b || has_leg x legs) (same_leg-refl x))) ∙ ap cost is in
      let changed : sum_below (class_count net) (among (x ∷ legs)) ≡ sum_below (class_count net) (among legs) + among (x ∷ legs) at =
      sum_below-changed (class_count net) at (among legs) (among (x ∷ legs)) (number-within net x valid all.0) (λ i h apart. ap (λ (b : Bool). if b then cost (class_at net i) else 0) (told-other i h apart)) before in
      let whole : sum_by cost (distinct (x ∷ legs)) ≡ cost x + sum_by cost (distinct legs) = ap (sum_by cost) (cond-false (has_leg x legs) (distinct legs) (x ∷ distinct legs) new) ∙ sum_by-cons cost x (distinct legs) in
      omega (arith, changed, first, rest, whole))
      (cases_Bool (has_leg x legs))
    where
      told-again : (c : Leg) → has_leg x legs ≡ true → has_leg c (x ∷ legs) ≡ has_leg c legs
      told-again c again =
          ⊎_elim
          (λ (here : same_leg c x ≡ true). let e : c ≡ x = same_leg-true c x here in
          subst (λ (b : Leg). has_leg b (x ∷ legs) ≡ has_leg b legs) (sym e) (or_right (same_leg x x) (has_leg x legs) again ∙ sym again))
          (λ (other : same_leg c x ≡ false). ap (λ (b : Bool). b || has_leg c legs) other)
          (cases_Bool (same_leg c x))

      told-other : (i : ℕ) → i < class_count net → i ≢ class_number net x → has_leg (class_at net i) (x ∷ legs) ≡ has_leg (class_at net i) legs
      told-other i h apart =
          ap (λ (b : Bool). b || has_leg (class_at net i) legs)
          (false_from_ne_true (same_leg (class_at net i) x) (λ t. apart (sym (number-class net i valid h).1 ∙ ap (class_number net) (same_leg-true (class_at net i) x t))))

-- forced classes are allowed
forced-allowed : (p : Problem) (allowed : Leg → Bool) (there : ℕ) (met : List ℕ) (here : ℕ) (chain : List Leg) → AreForced p allowed there met here chain → AllByRecursion (λ c. allowed c ≡ true) chain
forced-allowed p allowed there met here [] forced = tt
forced-allowed p allowed there met here (c ∷ chain) forced = (forced.2.is_allowed, forced-allowed p allowed there (here ∷ met) (arc_at p c.arc).to chain forced.3)

chain-allowed : (p : Problem) (allowed : Leg → Bool) (forced : Bool) (s : Shipment) (chain : List Leg) → IsChain p allowed forced s chain → AllByRecursion (λ c. allowed c ≡ true) chain
chain-allowed p allowed true s chain is = forced-allowed p allowed s.to [] s.from chain is.forced
chain-allowed p allowed false s chain is = subst (AllByRecursion (λ c. allowed c ≡ true)) (sym is) tt

-- so the classes of all chains are the network's
chains-classes : (p : Problem) (net : TimedNetwork) (allowed : ℕ → Leg → Bool) (forced : Bool) → ((k : ℕ) (c : Leg) → allowed k c ≡ true → IsClass net c) → (i : ℕ) (shipments : List Shipment) (chains : List (List Leg)) →
    AllZipFrom (λ k. IsChain p (allowed k) forced) i shipments chains → AllByRecursion (IsClass net) (all_legs chains)
chains-classes p net allowed forced classes i [] [] are = tt
chains-classes p net allowed forced classes i [] (chain ∷ chains) are = absurd are
chains-classes p net allowed forced classes i (s ∷ shipments) [] are = absurd are
chains-classes p net allowed forced classes i (s ∷ shipments) (chain ∷ chains) are =
    AllByRecursion-append (IsClass net) chain (all_legs chains)
    (AllByRecursion-weaker (λ c. allowed i c ≡ true) (IsClass net) (classes i) chain (chain-allowed p (allowed i) forced s chain are.0)) (chains-classes p net allowed forced classes (i + 1) shipments chains are.1)

-- the cost of a departure, read part by part
pub departure-is : (p : Problem) (chains : List (List Leg)) (c : Leg) (arc : Arc) (loaded truck capacity needed : ℕ) → arc ≡ arc_at p c.arc → loaded ≡ load p.shipments chains c → truck ≡ arc.truck → capacity ≡ arc.capacity →
    needed ≡ div_ceil loaded capacity → truck * needed ≡ departure_cost p chains c
departure-is p chains c arc loaded truck capacity needed arc_is loaded_is truck_is capacity_is needed_is =
    ap (λ (n : ℕ). n * needed) (truck_is ∙ ap (λ (a : Arc). a.truck) arc_is)
    ∙ ap (λ (n : ℕ). (arc_at p c.arc).truck * n) (needed_is ∙ ap (λ (n : ℕ). div_ceil n capacity) loaded_is ∙ ap (div_ceil (load p.shipments chains c)) (capacity_is ∙ ap (λ (a : Arc). a.capacity) arc_is))

module _ (leaf : LeafModel) (forced : Bool) (chains : List (List Leg)) (whole : IsWholeNetwork leaf.setting.problem leaf.setting.network) (are : AreChainsOf leaf forced chains) where
  abbrev own : Problem
  own = leaf.setting.problem

  abbrev net : TimedNetwork
  net = leaf.setting.network

  -- what the class with a number adds to the bases
  abbrev pub base_at : ℕ → ℕ
  base_at = base_of own net chains

  -- all classes together
  pub bases-sum : sum_below (class_count net) base_at ≡ departures_cost own chains (all_legs chains)
  bases-sum =
      sum-legs net whole.valid (departure_cost own chains) (all_legs chains)
      (chains-classes own net (allowed_at leaf) forced (λ k c h. allowed-class own net (windows_in leaf.setting.windows) leaf.sides k c whole h) 0 own.shipments chains are)

  pub bases-least : departures_cost own chains (all_legs chains) ≤ alone_total own.arcs own.shipments
  bases-least = bases-small own (windows_in leaf.setting.windows) (points_in net) leaf.sides forced chains are

  -- the classes so far and the next one
  pub bases-part : (n : ℕ) → n < class_count net → sum_below n base_at + base_at n ≤ alone_total own.arcs own.shipments
  bases-part n within =
      let rest : suc n + (class_count net - suc n) ≡ class_count net = omega (arith, within) in
      let part : sum_below n base_at + base_at n ≤ sum_below (class_count net) base_at =
      subst (λ (k : ℕ). sum_below n base_at + base_at n ≤ sum_below k base_at) rest (sum_below-has base_at n (class_count net - suc n)) in
      omega (arith, part, bases-sum, bases-least)

  -- scaled, they fit
  pub bases-fit : IsValid own → (n : ℕ) → n < class_count net → own.scale * sum_below n base_at + own.scale * base_at n < 2 ^ 127
  bases-fit valid n within =
      let all : own.scale * (sum_below n base_at + base_at n) ≤ own.scale * alone_total own.arcs own.shipments = mul-le-mul_left own.scale (bases-part n within) in
      omega (arith, all, valid.fits)
