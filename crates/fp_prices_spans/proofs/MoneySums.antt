-- The spans that hold for a class have together at most the cost of a truck.
use Rattle.std.proofs.Common.{◌≡◌, ℕ, ◌+◌, ◌*◌, ◌<◌, ◌≤◌, Bool, true, false, ◌||◌, List, [], ◌∷◌, ⊎_elim, refl, sym, ◌∙◌, subst, arith}
use Rattle.std.specs.Prelude.{sum_by, ◌&&◌, nat_eq, nat_le, nat_lt, if◌then◌else◌}
use Rattle.std.specs.List.{AllByRecursion}
use Rattle.std.proofs.lemmas.Bool.{and_from, and_parts, cases_Bool, cases_lt, cond-true, cond-false, eq-eqb, eqb-true, le-leb, leb-true, lt-ltb, ltb-true, false≢true, or_cases, or_parts}
use Rattle.std.proofs.lemmas.List.Sums.{sum_by-cons}
use Rattle.fp_base_lists.proofs.Elements.{AllByRecursion-weaker}
use Rattle.fp_model.specs.declared.parts.Leg.{Leg}
use Rattle.fp_model.specs.Costs.{all_legs, has_leg}
use Rattle.fp_model.specs.Problem.{Problem, arc_at}
use Rattle.fp_prices_spans.specs.Spans.{ClassSpan}
use Rattle.fp_prices_spans.specs.SpanPrices.{holds, is_held, money_at, most_paid}
use Rattle.fp_prices_spans.specs.SpanRules.{KeepsMoneyRule}

-- what it says that a span holds for a class
pub record IsHeldBy (span : ClassSpan) (c : Leg) : Type 0 where
  pub arc : span.arc ≡ c.arc
  pub from : span.point ≤ c.depart
  pub before : c.depart < span.until

pub holds-true : (span : ClassSpan) (c : Leg) → holds span c ≡ true → IsHeldBy span c
holds-true span c h =
    let parts = and_parts (nat_eq span.arc c.arc) (nat_le span.point c.depart && nat_lt c.depart span.until) h in
    let points = and_parts (nat_le span.point c.depart) (nat_lt c.depart span.until) parts.1 in
    record { arc = eqb-true span.arc c.arc parts.0; from = leb-true span.point c.depart points.0; before = ltb-true c.depart span.until points.1 }

pub holds-from : (span : ClassSpan) (c : Leg) → IsHeldBy span c → holds span c ≡ true
holds-from span c is =
    and_from (nat_eq span.arc c.arc) (nat_le span.point c.depart && nat_lt c.depart span.until) (eq-eqb span.arc c.arc is.arc)
    (and_from (nat_le span.point c.depart) (nat_lt c.depart span.until) (le-leb span.point c.depart is.from) (lt-ltb c.depart span.until is.before))

-- the last point at which a span begins that holds for a class, where P is known of each point at which one of the arc begins
record IsLastPoint (P : ℕ → Type 0) (spans : List ClassSpan) (c : Leg) : Type 0 where
  point : ℕ
  known : P point
  before : point ≤ c.depart
  last : AllByRecursion (λ span. holds span c ≡ true → span.point ≤ point) spans

last-point : (P : ℕ → Type 0) (spans : List ClassSpan) (c : Leg) → AllByRecursion (λ span. span.arc ≡ c.arc → P span.point) spans → is_held spans c ≡ true → IsLastPoint P spans c
last-point P [] c knows held = absurd (false≢true held)
last-point P (span ∷ spans) c knows held =
    ⊎_elim
    (λ (later : is_held spans c ≡ true).
    let rest : IsLastPoint P spans c = last-point P spans c knows.1 later in
    ⊎_elim
    (λ (here : holds span c ≡ true).
    let is : IsHeldBy span c = holds-true span c here in
    ⊎_elim
    (λ (less : rest.point < span.point). record {
      point = span.point;
      known = knows.0 is.arc;
      before = is.from;
      last = (
        λ h. omega arith,
        AllByRecursion-weaker (λ (s : ClassSpan). holds s c ≡ true → s.point ≤ rest.point) (λ s. holds s c ≡ true → s.point ≤ span.point) (λ s below h. omega (arith, below h, less)) spans rest.last,
      );
    })
    (λ (more : span.point ≤ rest.point). record { point = rest.point; known = rest.known; before = rest.before; last = (λ h. more, rest.last) })
    (cases_lt rest.point span.point))
    (λ (not_here : holds span c ≡ false). record {
      point = rest.point;
      known = rest.known;
      before = rest.before;
      last = (λ h. absurd (false≢true (sym not_here ∙ h)), rest.last);
    })
    (cases_Bool (holds span c)))
    (λ (none_later : is_held spans c ≡ false).
    let here : holds span c ≡ true = first_holds (holds span c) (is_held spans c) held none_later in
    let is : IsHeldBy span c = holds-true span c here in
    record {
      point = span.point;
      known = knows.0 is.arc;
      before = is.from;
      last = (λ h. omega arith, none_holds spans none_later);
    })
    (cases_Bool (is_held spans c))
  where
    first_holds : (a b : Bool) → (a || b) ≡ true → b ≡ false → a ≡ true
    first_holds a b any none = ⊎_elim (λ (h : a ≡ true). h) (λ (h : b ≡ true). absurd (false≢true (sym none ∙ h))) (or_cases a b any)

    none_holds : (rest : List ClassSpan) → is_held rest c ≡ false → AllByRecursion (λ (s : ClassSpan). holds s c ≡ true → s.point ≤ span.point) rest
    none_holds [] none = tt
    none_holds (s ∷ rest) none =
        let parts = or_parts (holds s c) (is_held rest c) none in
        (λ h. absurd (false≢true (sym parts.0 ∙ h)), none_holds rest parts.1)

-- at an earlier class of the arc, not before any of their points, at least the same spans hold
money-le : (spans : List ClassSpan) (c e : Leg) → e.arc ≡ c.arc → e.depart ≤ c.depart → AllByRecursion (λ span. holds span c ≡ true → span.point ≤ e.depart) spans → money_at spans c ≤ money_at spans e
money-le [] c e arc earlier last = omega arith
money-le (span ∷ spans) c e arc earlier last =
    let rest : money_at spans c ≤ money_at spans e = money-le spans c e arc earlier last.1 in
    let at_c : money_at (span ∷ spans) c ≡ (if holds span c then span.money else 0) + money_at spans c =
    sum_by-cons (λ (s : ClassSpan). if holds s c then s.money else 0) span spans in
    let at_e : money_at (span ∷ spans) e ≡ (if holds span e then span.money else 0) + money_at spans e =
    sum_by-cons (λ (s : ClassSpan). if holds s e then s.money else 0) span spans in
    ⊎_elim
    (λ (held : holds span c ≡ true).
    let is : IsHeldBy span c = holds-true span c held in
    let still : holds span e ≡ true = holds-from span e (record { arc = is.arc ∙ sym arc; from = last.0 held; before = omega (arith, earlier, is.before) }) in
    omega (arith, rest, at_c, at_e, cond-true (holds span c) span.money 0 held, cond-true (holds span e) span.money 0 still))
    (λ (not_held : holds span c ≡ false). omega (arith, rest, at_c, at_e, cond-false (holds span c) span.money 0 not_held))
    (cases_Bool (holds span c))

-- a sum over the spans that hold, where none holds
pub held-none : (f : ClassSpan → ℕ) (spans : List ClassSpan) (c : Leg) → is_held spans c ≡ false → sum_by (λ span. if holds span c then f span else 0) spans ≡ 0
held-none f [] c none = refl
held-none f (span ∷ spans) c none =
    let parts = or_parts (holds span c) (is_held spans c) none in
    omega (arith, sum_by-cons (λ (s : ClassSpan). if holds s c then f s else 0) span spans, cond-false (holds span c) (f span) 0 parts.0, held-none f spans c parts.1)

-- the money rule at the points of all spans holds at every class
pub money-fits : (p : Problem) (spans : List ClassSpan) (c : Leg) → AllByRecursion (KeepsMoneyRule p spans) spans → money_at spans c ≤ p.scale * (arc_at p c.arc).truck
money-fits p spans c rule =
    let Fits : ℕ → Type 0 = λ q. money_at spans (record { arc = c.arc; depart = q }) ≤ p.scale * (arc_at p c.arc).truck in
    ⊎_elim
    (λ (held : is_held spans c ≡ true).
    let knows : AllByRecursion (λ (span : ClassSpan). span.arc ≡ c.arc → Fits span.point) spans =
    AllByRecursion-weaker (KeepsMoneyRule p spans) (λ span. span.arc ≡ c.arc → Fits span.point)
    (λ span keeps same. subst (λ (a : ℕ). money_at spans (record { arc = a; depart = span.point }) ≤ p.scale * (arc_at p a).truck) same keeps) spans rule in
    let at : IsLastPoint Fits spans c = last-point Fits spans c knows held in
    omega (arith, at.known, money-le spans c (record { arc = c.arc; depart = at.point }) refl at.before at.last))
    (λ (none : is_held spans c ≡ false). omega (arith, held-none (λ (span : ClassSpan). span.money) spans c none))
    (cases_Bool (is_held spans c))

-- so no more is paid for a truck of any class than it costs
pub most_paid-fits : (p : Problem) (spans : List ClassSpan) (chains : List (List Leg)) (c : Leg) → AllByRecursion (KeepsMoneyRule p spans) spans →
    most_paid p spans chains c ≤ p.scale * (arc_at p c.arc).truck
most_paid-fits p spans chains c rule = by_tests (has_leg c (all_legs chains)) (is_held spans c)
  where
    by_tests : (free held : Bool) →
        (if free then p.scale * (arc_at p c.arc).truck else (if held then money_at spans c else p.scale * (arc_at p c.arc).truck)) ≤ p.scale * (arc_at p c.arc).truck
    by_tests true held = omega arith
    by_tests false true = money-fits p spans c rule
    by_tests false false = omega arith
