-- The trucks of the departures that pass a test hold their users.
use Rattle.std.proofs.Common.{◌≡◌, ℕ, ◌≤◌, Bool, true, false, List, length, ⊎_elim, sym, ap, ◌∙◌, arith}
use Rattle.std.specs.Prelude.{sum_by, if◌then◌else◌}
use Rattle.std.specs.List.{AllByRecursion}
use Rattle.std.specs.Int.{div_ceil}
use Rattle.std.proofs.lemmas.Bool.{cases_Bool, cond-true, cond-false}
use Rattle.fp_base_lists.specs.Distinct.{AreDistinct}
use Rattle.fp_base_lists.specs.Numbered.{AllFrom}
use Rattle.fp_base_lists.proofs.Ceilings.{div_ceil_mono, div_ceil-sum_by, div_ceil-zero}
use Rattle.fp_base_lists.proofs.Elements.{AllByRecursion-weaker}
use Rattle.fp_base_lists.proofs.Sums.{sum_by-const, sum_by-same}
use Rattle.fp_model.specs.declared.parts.Leg.{Leg}
use Rattle.fp_model.specs.Costs.{all_legs, distinct, load, trucks}
use Rattle.fp_model.specs.Problem.{Problem, arc_at}
use Rattle.fp_model.specs.Routes.{arcs_of}
use Rattle.fp_model.proofs.Distinct.{distinct_sum}
use Rattle.fp_prices.proofs.PlanBounds.{size_at}
use Rattle.fp_prices.proofs.TakenByClasses.{NoneTwiceInAny, paid, paid-le, users}
use Rattle.fp_prices.proofs.Users.{AgreesFrom, users-size}
use Rattle.fp_prices_spans.specs.SpanRules.{size_of, trucks_for}
use Rattle.fp_prices_spans.proofs.PassingUsers.{OnePasses, one-passes, paid-users, users_by}

-- what is known of the routes of a plan, one for each shipment; it allows for each shipment some legs, all that its route has
pub record ArePlanRoutes (p : Problem) (allowed : ℕ → Leg → Bool) (routes : List (List Leg)) : Type 0 where
  pub long : length routes ≡ length p.shipments
  pub sizes : AgreesFrom (size_at p) 0 p.shipments
  pub once : NoneTwiceInAny routes
  pub arcs_once : AllByRecursion (λ legs. AreDistinct (arcs_of legs)) routes
  pub allows : AllFrom (λ k legs. AllByRecursion (λ l. allowed k l ≡ true) legs) 0 routes

-- all departures that pass a test are by an arc
abbrev pub AreBy : ℕ → (Leg → Bool) → Type 0
AreBy arc test = (l : Leg) → test l ≡ true → l.arc ≡ arc

-- the trucks of a departure that passes a test
abbrev pub tested_trucks : Problem → List (List Leg) → (Leg → Bool) → Leg → ℕ
tested_trucks p routes test l = if test l then trucks p routes l else 0

module _ (p : Problem) (allowed : ℕ → Leg → Bool) (routes : List (List Leg)) (are : ArePlanRoutes p allowed routes) (arc : ℕ) (test : Leg → Bool) (by : AreBy arc test) where
  -- a route has at most one of them
  pub one-each : AllByRecursion (OnePasses test) routes
  one-each = AllByRecursion-weaker (λ legs. AreDistinct (arcs_of legs)) (OnePasses test) (λ legs apart. one-passes test arc legs by apart) routes are.arcs_once

  tested_load : (l : Leg) → sum_by (λ k. if test l then size_at p k else 0) (users 0 routes l) ≡ (if test l then load p.shipments routes l else 0)
  tested_load l =
      ⊎_elim
      (λ (yes : test l ≡ true).
      sum_by-same (λ k. if test l then size_at p k else 0) (size_at p) (λ k. cond-true (test l) (size_at p k) 0 yes) (users 0 routes l)
      ∙ users-size (size_at p) 0 p.shipments routes l are.long are.sizes ∙ sym (cond-true (test l) (load p.shipments routes l) 0 yes))
      (λ (no : test l ≡ false).
      let none : sum_by (λ k. if test l then size_at p k else 0) (users 0 routes l) ≡ sum_by (λ (k : ℕ). 0) (users 0 routes l) =
      sum_by-same (λ k. if test l then size_at p k else 0) (λ (k : ℕ). 0) (λ k. cond-false (test l) (size_at p k) 0 no) (users 0 routes l) in
      omega (arith, none, sum_by-const {X = ℕ} 0 (users 0 routes l), cond-false (test l) (load p.shipments routes l) 0 no))
      (cases_Bool (test l))

  loads-held : (l : Leg) → div_ceil (if test l then load p.shipments routes l else 0) (arc_at p arc).capacity ≡ tested_trucks p routes test l
  loads-held l =
      let amount : ℕ = load p.shipments routes l in
      ⊎_elim
      (λ (yes : test l ≡ true).
      ap (λ (n : ℕ). div_ceil n (arc_at p arc).capacity) (cond-true (test l) amount 0 yes)
      ∙ ap (λ (a : ℕ). div_ceil amount (arc_at p a).capacity) (sym (by l yes)) ∙ sym (cond-true (test l) (trucks p routes l) 0 yes))
      (λ (no : test l ≡ false).
      ap (λ (n : ℕ). div_ceil n (arc_at p arc).capacity) (cond-false (test l) amount 0 no)
      ∙ div_ceil-zero (arc_at p arc).capacity ∙ sym (cond-false (test l) (trucks p routes l) 0 no))
      (cases_Bool (test l))

  -- their trucks are at least as many as hold all shipments that use them
  pub trucks-hold : trucks_for p arc (users_by test 0 routes) ≤ distinct_sum (tested_trucks p routes test) (all_legs routes)
  trucks-hold =
      let all : List Leg = all_legs routes in
      let capacity : ℕ = (arc_at p arc).capacity in
      let set : List ℕ = users_by test 0 routes in
      let loaded : Leg → ℕ = λ l. if test l then load p.shipments routes l else 0 in
      let sized : paid (λ l k. if test l then size_at p k else 0) 0 routes ≡ size_of p set = paid-users test (size_at p) 0 routes one-each in
      let by_legs : paid (λ l k. if test l then size_at p k else 0) 0 routes ≤ distinct_sum (λ l. sum_by (λ k. if test l then size_at p k else 0) (users 0 routes l)) all =
      paid-le (λ l k. if test l then size_at p k else 0) all 0 routes are.once (λ k h. h) in
      let each : distinct_sum (λ l. sum_by (λ k. if test l then size_at p k else 0) (users 0 routes l)) all ≡ distinct_sum loaded all =
      sum_by-same (λ l. sum_by (λ k. if test l then size_at p k else 0) (users 0 routes l)) loaded tested_load (distinct all) in
      let more : div_ceil (size_of p set) capacity ≤ div_ceil (distinct_sum loaded all) capacity =
      div_ceil_mono (size_of p set) (distinct_sum loaded all) capacity (omega (arith, sized, by_legs, each)) in
      let apart : div_ceil (distinct_sum loaded all) capacity ≤ sum_by (λ l. div_ceil (loaded l) capacity) (distinct all) = div_ceil-sum_by loaded capacity (distinct all) in
      let same : sum_by (λ l. div_ceil (loaded l) capacity) (distinct all) ≡ distinct_sum (tested_trucks p routes test) all =
      sum_by-same (λ l. div_ceil (loaded l) capacity) (tested_trucks p routes test) loads-held (distinct all) in
      omega (arith, more, apart, same)
