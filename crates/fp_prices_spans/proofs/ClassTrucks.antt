-- The trucks of the departures of a plan, gathered by their classes.
use Rattle.std.proofs.Common.{◌≡◌, ℕ, ◌+◌, ◌*◌, ◌≤◌, Bool, true, false, List, [], ◌∷◌, length, map, ⊎_elim, refl, sym, ap, ◌∙◌, subst, arith}
use Rattle.std.specs.Prelude.{sum_by, if◌then◌else◌, ◌||◌}
use Rattle.std.specs.List.{list_any}
use Rattle.std.specs.Int.{div_ceil}
use Rattle.std.proofs.lemmas.Bool.{cases_Bool, cond-true, cond-false, false≢true, or_cases, or_left, or_right}
use Rattle.std.proofs.lemmas.List.Folds.{list_any-append}
use Rattle.std.proofs.lemmas.List.Sums.{sum_by-le-sum_by}
use Rattle.fp_base_lists.proofs.Ceilings.{div_ceil-zero}
use Rattle.fp_base_lists.proofs.Sums.{sum_by-same, sum_by-scaled, sum_by-swap}
use Rattle.fp_model.specs.declared.parts.Leg.{Leg}
use Rattle.fp_model.specs.Costs.{all_legs, distinct, has_leg, load, same_leg, trucks}
use Rattle.fp_model.specs.Problem.{Problem, arc_at}
use Rattle.fp_model.proofs.Bounds.{load-outside}
use Rattle.fp_model.proofs.Distinct.{distinct_sum, one-le, same_leg-comm, same_leg-refl, same_leg-true, term-le}
use Rattle.fp_prices.proofs.PlanBounds.{size_at}
use Rattle.fp_prices.proofs.TakenByClasses.{users}
use Rattle.fp_prices.proofs.Users.{users-size}
use Rattle.fp_prices_spans.specs.SpanRules.{size_of}
use Rattle.fp_prices_spans.proofs.DepartureTrucks.{AreBy, ArePlanRoutes, tested_trucks, trucks-hold}
use Rattle.fp_prices_spans.proofs.PassingUsers.{users_by}

any-map : (test : Leg → Bool) (f : Leg → Leg) (legs : List Leg) → list_any test (map f legs) ≡ list_any (λ l. test (f l)) legs
any-map test f [] = refl
any-map test f (l ∷ legs) = ap (λ (b : Bool). test (f l) || b) (any-map test f legs)

-- the class of a leg that the routes have is one of their classes
class-had : (f : Leg → Leg) (l : Leg) (routes : List (List Leg)) → has_leg l (all_legs routes) ≡ true → has_leg (f l) (all_legs (map (map f) routes)) ≡ true
class-had f l [] h = absurd (false≢true h)
class-had f l (legs ∷ routes) h =
    let first : Bool = has_leg (f l) (map f legs) in
    let rest : Bool = has_leg (f l) (all_legs (map (map f) routes)) in
    list_any-append (same_leg (f l)) (map f legs) (all_legs (map (map f) routes))
    ∙ ⊎_elim
    (λ (here : has_leg l legs ≡ true). or_left first rest (in_legs legs here))
    (λ (later : has_leg l (all_legs routes) ≡ true). or_right first rest (class-had f l routes later))
    (or_cases (has_leg l legs) (has_leg l (all_legs routes)) (sym (list_any-append (same_leg l) legs (all_legs routes)) ∙ h))
  where
    in_legs : (some : List Leg) → has_leg l some ≡ true → has_leg (f l) (map f some) ≡ true
    in_legs [] here = absurd (false≢true here)
    in_legs (k ∷ some) here =
        ⊎_elim
        (λ (same : same_leg l k ≡ true).
        or_left (same_leg (f l) (f k)) (has_leg (f l) (map f some)) (subst (λ (e : Leg). same_leg (f l) (f e) ≡ true) (same_leg-true l k same) (same_leg-refl (f l))))
        (λ (later : has_leg l some ≡ true). or_right (same_leg (f l) (f k)) (has_leg (f l) (map f some)) (in_legs some later))
        (or_cases (same_leg l k) (has_leg l some) here)

-- the users of a class are the shipments with a departure of the class
users-of_class : (f : Leg → Leg) (c : Leg) (i : ℕ) (routes : List (List Leg)) → users_by (λ l. same_leg c (f l)) i routes ≡ users i (map (map f) routes) c
users-of_class f c i [] = refl
users-of_class f c i (legs ∷ routes) =
    let others : List ℕ = users (i + 1) (map (map f) routes) c in
    ap (λ (l : List ℕ). if list_any (λ k. same_leg c (f k)) legs then i ∷ l else l) (users-of_class f c (i + 1) routes)
    ∙ ap (λ (b : Bool). if b then i ∷ others else others) (sym (any-map (same_leg c) f legs))

-- the trucks of the departures of a class
abbrev pub class_trucks : Problem → (Leg → Leg) → List (List Leg) → Leg → ℕ
class_trucks p f routes c = distinct_sum (tested_trucks p routes (λ l. same_leg c (f l))) (all_legs routes)

module _ (p : Problem) (f : Leg → Leg) (routes : List (List Leg)) (keeps : (l : Leg) → (f l).arc ≡ l.arc) where
  -- are at least those of the class
  pub class_trucks-hold : (allowed : ℕ → Leg → Bool) → ArePlanRoutes p allowed routes → (c : Leg) → trucks p (map (map f) routes) c ≤ class_trucks p f routes c
  class_trucks-hold allowed are c =
      let test : Leg → Bool = λ l. same_leg c (f l) in
      let by : AreBy c.arc test = λ l same. sym (keeps l) ∙ ap (λ (e : Leg). e.arc) (sym (same_leg-true c (f l) same)) in
      let long : length (map (map f) routes) ≡ length p.shipments = map_long routes ∙ are.long in
      let loaded : size_of p (users_by test 0 routes) ≡ load p.shipments (map (map f) routes) c =
      ap (sum_by (size_at p)) (users-of_class f c 0 routes) ∙ users-size (size_at p) 0 p.shipments (map (map f) routes) c long are.sizes in
      omega (arith, trucks-hold p allowed routes are c.arc test by, ap (λ (n : ℕ). div_ceil n (arc_at p c.arc).capacity) loaded)
    where
      map_long : (some : List (List Leg)) → length (map (map f) some) ≡ length some
      map_long [] = refl
      map_long (legs ∷ some) = omega (arith, map_long some)

  module _ (g : Leg → ℕ) where
    abbrev all : List Leg
    all = all_legs routes

    abbrev classes : List Leg
    classes = all_legs (map (map f) routes)

    -- what a departure takes of a class, so much for each truck
    abbrev part : Leg → Leg → ℕ
    part c l = g c * tested_trucks p routes (λ k. same_leg c (f k)) l

    abbrev own : Leg → ℕ
    own l = g (f l) * trucks p routes l

    swapped : distinct_sum (λ c. g c * class_trucks p f routes c) classes ≡ sum_by (λ l. sum_by (λ c. part c l) (distinct classes)) (distinct all)
    swapped =
        sum_by-same (λ c. g c * class_trucks p f routes c) (λ c. sum_by (part c) (distinct all))
        (λ c. sym (sum_by-scaled (g c) (tested_trucks p routes (λ k. same_leg c (f k))) (distinct all))) (distinct classes)
        ∙ sym (sum_by-swap part (distinct classes) (distinct all))

    of_own : (c l : Leg) → same_leg c (f l) ≡ true → part c l ≡ own l
    of_own c l same =
        ap (λ (n : ℕ). g c * n) (cond-true (same_leg c (f l)) (trucks p routes l) 0 same) ∙ ap (λ (e : Leg). g e * trucks p routes l) (same_leg-true c (f l) same)

    -- so much for each truck of each class is at most that for the trucks of the departures, each by its class
    pub classes-le : distinct_sum (λ c. g c * class_trucks p f routes c) classes ≤ distinct_sum (λ l. g (f l) * trucks p routes l) all
    classes-le =
        omega (
          arith,
          swapped,
          sum_by-le-sum_by (λ l. sum_by (λ c. part c l) (distinct classes)) own (distinct all)
              (λ l.
              let one : sum_by (λ c. part c l) (distinct classes) ≡ sum_by (λ c. if same_leg (f l) c then own l else 0) (distinct classes) =
              sum_by-same (λ c. part c l) (λ c. if same_leg (f l) c then own l else 0) (single l) (distinct classes) in
              omega (arith, one, one-le (f l) (own l) classes)),
        )
      where
        single : (l c : Leg) → part c l ≡ (if same_leg (f l) c then own l else 0)
        single l c =
            ⊎_elim
            (λ (yes : same_leg c (f l) ≡ true). of_own c l yes ∙ sym (cond-true (same_leg (f l) c) (own l) 0 (same_leg-comm (f l) c ∙ yes)))
            (λ (no : same_leg c (f l) ≡ false).
            ap (λ (n : ℕ). g c * n) (cond-false (same_leg c (f l)) (trucks p routes l) 0 no) ∙ (let e : g c * 0 ≡ 0 = omega arith in e)
            ∙ sym (cond-false (same_leg (f l) c) (own l) 0 (same_leg-comm (f l) c ∙ no)))
            (cases_Bool (same_leg c (f l)))

    -- and at least that
    pub classes-ge : distinct_sum (λ l. g (f l) * trucks p routes l) all ≤ distinct_sum (λ c. g c * class_trucks p f routes c) classes
    classes-ge = omega (arith, swapped, sum_by-le-sum_by own (λ l. sum_by (λ c. part c l) (distinct classes)) (distinct all) each)
      where
        each : (l : Leg) → own l ≤ sum_by (λ c. part c l) (distinct classes)
        each l =
            ⊎_elim
            (λ (had : has_leg l all ≡ true).
            omega (arith, term-le (λ c. part c l) (f l) classes (class-had f l routes had), of_own (f l) l (same_leg-refl (f l))))
            (λ (not_had : has_leg l all ≡ false).
            let none : trucks p routes l ≡ 0 = ap (λ (n : ℕ). div_ceil n (arc_at p l.arc).capacity) (load-outside p.shipments routes l not_had) ∙ div_ceil-zero (arc_at p l.arc).capacity in
            omega (arith, ap (λ (n : ℕ). g (f l) * n) none))
            (cases_Bool (has_leg l all))
