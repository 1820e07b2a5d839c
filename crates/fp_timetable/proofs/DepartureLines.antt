-- The truck lines of routes are certain, and the sum over them is what the departures cost.
use Rattle.std.proofs.Common.{◌≡◌, ℕ, ◌*◌, Bool, true, false, ◌||◌, List, [], ◌∷◌, map, ⊎_elim, refl, sym, ap, ap₂, ◌∙◌, subst, arith}
use Rattle.std.specs.Prelude.{sum_by}
use Rattle.std.specs.List.{AllByRecursion}
use Rattle.std.proofs.lemmas.Bool.{cases_Bool, cond-false, false_from_ne_true, false≢true, or_cases, or_left}
use Rattle.std.proofs.lemmas.List.Elements.{recursion_from_All}
use Rattle.fp_model.specs.declared.parts.Leg.{Leg}
use Rattle.fp_model.specs.Costs.{all_legs, departure_cost, departures_cost, distinct, has_leg, load, same_leg, trucks}
use Rattle.fp_model.specs.Problem.{Problem, arc_at}
use Rattle.fp_model.proofs.Distinct.{distinct_sum-occur, same_leg-refl, same_leg-true}
use Rattle.fp_base_lists.proofs.Sums.{sum_by-map, sum_by-same_each}
use Rattle.fp_timetable.specs.declared.lines.TruckLine.{TruckLine}
use Rattle.fp_timetable.specs.Lines.{AreTruckLines, departure, line_cost}
use Rattle.fp_base_lists.specs.Order.{Precedes}
use Rattle.fp_timetable.specs.Order.{no_line}
use Rattle.fp_timetable.proofs.Pairs.{EachPair, EachPair-AllPairs}

-- one departure stands before another
abbrev IsBefore : Leg → Leg → Type 0
IsBefore k l = Precedes k.depart k.arc l.depart l.arc

-- none stands before itself
not-itself : (k : Leg) → IsBefore k k → ⊥
not-itself k before = ⊎_elim (λ less. omega (arith, less)) (λ same. omega (arith, same.1)) before

-- neither of two stands before the other
not-both : (k l : Leg) → IsBefore k l → IsBefore l k → ⊥
not-both k l first second =
    ⊎_elim
    (λ less. ⊎_elim (λ more. omega (arith, less, more)) (λ same. omega (arith, less, same.0)) second)
    (λ same. ⊎_elim (λ more. omega (arith, same.0, more)) (λ also. omega (arith, same.1, also.1)) second)
    first

-- a leg that later ones have stands after the first
has-after : (k l : Leg) (legs : List Leg) → AllByRecursion (IsBefore l) legs → has_leg k legs ≡ true → IsBefore l k
has-after k l [] all has = absurd (false≢true has)
has-after k l (m ∷ legs) all has =
    ⊎_elim
    (λ (here : same_leg k m ≡ true). subst (IsBefore l) (sym (same_leg-true k m here)) all.0)
    (λ (later : has_leg k legs ≡ true). has-after k l legs all.1 later)
    (or_cases (same_leg k m) (has_leg k legs) has)

not-after : (k : Leg) (legs : List Leg) → AllByRecursion (IsBefore k) legs → has_leg k legs ≡ false
not-after k legs all = false_from_ne_true (has_leg k legs) (λ has. not-itself k (has-after k k legs all has))

has-itself : (k : Leg) (legs : List Leg) → has_leg k (k ∷ legs) ≡ true
has-itself k legs = or_left (same_leg k k) (has_leg k legs) (same_leg-refl k)

-- departures that stand in order and are the same are in the same order
same-departures : (xs ys : List Leg) → EachPair IsBefore xs → EachPair IsBefore ys → ((k : Leg) → has_leg k xs ≡ has_leg k ys) → xs ≡ ys
same-departures [] [] first second same = refl
same-departures [] (y ∷ ys) first second same = absurd (false≢true (same y ∙ has-itself y ys))
same-departures (x ∷ xs) [] first second same = absurd (false≢true (sym (same x) ∙ has-itself x xs))
same-departures (x ∷ xs) (y ∷ ys) first second same =
    let head : x ≡ y =
    ⊎_elim
    (λ (h : same_leg x y ≡ true). same_leg-true x y h)
    (λ (in_ys : has_leg x ys ≡ true).
    ⊎_elim
    (λ (h : same_leg y x ≡ true). sym (same_leg-true y x h))
    (λ (in_xs : has_leg y xs ≡ true). absurd (not-both x y (has-after y x xs first.0 in_xs) (has-after x y ys second.0 in_ys)))
    (or_cases (same_leg y x) (has_leg y xs) (same y ∙ has-itself y ys)))
    (or_cases (same_leg x y) (has_leg x ys) (sym (same x) ∙ has-itself x xs)) in
    let rest : (k : Leg) → has_leg k xs ≡ has_leg k ys =
    λ k.
    ⊎_elim
    (λ (h : same_leg k x ≡ true).
    let is : k ≡ x = same_leg-true k x h in
    subst (λ (l : Leg). has_leg l xs ≡ false) (sym is) (not-after x xs first.0)
    ∙ sym (subst (λ (l : Leg). has_leg l ys ≡ false) (sym (is ∙ head)) (not-after y ys second.0)))
    (λ (h : same_leg k x ≡ false).
    sym (ap (λ (b : Bool). b || has_leg k xs) h) ∙ same k ∙ ap (λ (b : Bool). b || has_leg k ys) (subst (λ (l : Leg). same_leg k l ≡ false) head h))
    (cases_Bool (same_leg k x)) in
    ap₂ (λ (l : Leg) (legs : List Leg). l ∷ legs) head (same-departures xs ys first.1 second.1 rest)

-- departures of lines in order are in order
each-departure : (t : TruckLine) (lines : List TruckLine) → AllByRecursion (λ (u : TruckLine). Precedes t.depart t.arc u.depart u.arc) lines → AllByRecursion (IsBefore (departure t)) (map departure lines)
each-departure t [] all = tt
each-departure t (u ∷ lines) all = (all.0, each-departure t lines all.1)

departures-ascend : (lines : List TruckLine) → EachPair (λ (t u : TruckLine). Precedes t.depart t.arc u.depart u.arc) lines → EachPair IsBefore (map departure lines)
departures-ascend [] pairs = tt
departures-ascend (t ∷ lines) pairs = (each-departure t lines pairs.0, departures-ascend lines pairs.1)

in-order : (p : Problem) (R : List (List Leg)) (lines : List TruckLine) → AreTruckLines p R lines → EachPair IsBefore (map departure lines)
in-order p R lines are = departures-ascend lines (EachPair-AllPairs (λ (t u : TruckLine). Precedes t.depart t.arc u.depart u.arc) lines no_line are.ascending)

-- the line of a departure
abbrev line_of : Problem → List (List Leg) → Leg → TruckLine
line_of p R k = record { arc = k.arc; depart = k.depart; trucks = trucks p R k; load = load p.shipments R k }

lines-told : (p : Problem) (R : List (List Leg)) (lines : List TruckLine) → AllByRecursion (λ (t : TruckLine). t.trucks ≡ trucks p R (departure t)) lines →
    AllByRecursion (λ (t : TruckLine). t.load ≡ load p.shipments R (departure t)) lines → lines ≡ map (line_of p R) (map departure lines)
lines-told p R [] told loads = refl
lines-told p R (t ∷ lines) told loads =
    let whole : ℕ → ℕ → TruckLine = λ n m. record { arc = t.arc; depart = t.depart; trucks = n; load = m } in
    ap₂ (λ (u : TruckLine) (us : List TruckLine). u ∷ us) (ap₂ whole told.0 loads.0) (lines-told p R lines told.1 loads.1)

told-lines : (p : Problem) (R : List (List Leg)) (lines : List TruckLine) → AreTruckLines p R lines → lines ≡ map (line_of p R) (map departure lines)
told-lines p R lines are =
    lines-told p R lines (recursion_from_All (λ (t : TruckLine). t.trucks ≡ trucks p R (departure t)) lines are.trucks)
    (recursion_from_All (λ (t : TruckLine). t.load ≡ load p.shipments R (departure t)) lines are.loads)

-- routes have one list of truck lines
pub AreTruckLines-unique : (p : Problem) (R : List (List Leg)) (xs ys : List TruckLine) → AreTruckLines p R xs → AreTruckLines p R ys → xs ≡ ys
AreTruckLines-unique p R xs ys first second =
    told-lines p R xs first
    ∙ ap (map (line_of p R)) (same-departures (map departure xs) (map departure ys) (in-order p R xs first) (in-order p R ys second) (λ k. first.departures k ∙ sym (second.departures k)))
    ∙ sym (told-lines p R ys second)

-- departures in order are distinct
distinct-once : (legs : List Leg) → EachPair IsBefore legs → distinct legs ≡ legs
distinct-once [] pairs = refl
distinct-once (k ∷ legs) pairs =
    cond-false (has_leg k legs) (distinct legs) (k ∷ distinct legs) (not-after k legs pairs.0) ∙ ap (λ (ls : List Leg). k ∷ ls) (distinct-once legs pairs.1)

-- the trucks of the lines cost what those of the departures do
pub sum-lines : (p : Problem) (R : List (List Leg)) (lines : List TruckLine) → AreTruckLines p R lines → sum_by (line_cost p) lines ≡ departures_cost p R (all_legs R)
sum-lines p R lines are =
    sum_by-same_each (line_cost p) (λ (t : TruckLine). departure_cost p R (departure t)) lines
    (costs-told lines (recursion_from_All (λ (t : TruckLine). t.trucks ≡ trucks p R (departure t)) lines are.trucks))
    ∙ sym (sum_by-map (departure_cost p R) departure lines)
    ∙ sym (ap (sum_by (departure_cost p R)) (distinct-once (map departure lines) (in-order p R lines are)))
    ∙ distinct_sum-occur (departure_cost p R) (map departure lines) (all_legs R) are.departures
  where
    costs-told : (us : List TruckLine) → AllByRecursion (λ (t : TruckLine). t.trucks ≡ trucks p R (departure t)) us → AllByRecursion (λ (t : TruckLine). line_cost p t ≡ departure_cost p R (departure t)) us
    costs-told [] all = tt
    costs-told (t ∷ us) all = (ap (λ (n : ℕ). (arc_at p t.arc).truck * n) all.0, costs-told us all.1)
