-- A split at a terminal divides the departures left there.
use Rattle.std.proofs.Common.{◌≡◌, ℕ, zero, suc, ◌+◌, ◌<◌, ◌≤◌, Bool, true, false, ◌&&◌, List, [], ◌∷◌, ◌++◌, length, ⊎_elim, refl, sym, ap, ◌∙◌, subst, arith}
use Rattle.std.specs.Prelude.{nat_eq, nat_le, nat_lt, not, Option, Some, None, IsSomeAnd}
use Rattle.std.proofs.Math.Bool.{and-true}
use Rattle.std.proofs.lemmas.Bool.{and_from, cases_Bool, cases_eq, cases_lt, cond-false, cond-true, eq-eqb, eqb-true, le-leb, le-ltb, lt-leb, lt-ltb}
use Rattle.std.proofs.lemmas.List.Folds.{list_all-append}
use Rattle.fp_model.specs.declared.parts.Leg.{Leg}
use Rattle.fp_model.specs.Problem.{Problem}
use Rattle.fp_flatnet.specs.declared.window_tables.Window.{Window}
use Rattle.fp_tree.specs.declared.sides.Side.{Side}
use Rattle.fp_tree.specs.declared.sides.Split.{Split}
use Rattle.fp_tree.specs.declared.sides.Split.TheVariants.{ByArc, ByTime, ByTrucks, ByWay}
use Rattle.fp_tree.specs.Sides.{Exit, first_of_split, second_of_split}
use Rattle.fp_allowed.specs.Allowed.{exit_of, meets, meets_all, tails_of}
use Rattle.fp_allowed.specs.Departures.{IsSplitAt, departures_below, departures_in, departures_left, is_departure}
use Rattle.fp_allowed.proofs.AllowedClasses.{HasMoment}
use Rattle.fp_base_lists.proofs.CountsBelow.{count_below-divided, count_below-some, one_if}

-- what meets sides and one more
pub meets_all_push : (k : ℕ) (sides : List Side) (side : Side) (e : Exit) → meets_all k (sides ++ (side ∷ [])) e ≡ (meets_all k sides e && meets k e side)
meets_all_push k sides side e = list_all-append (meets k e) sides (side ∷ []) ∙ ap (λ (b : Bool). meets_all k sides e && b) (and-true (meets k e side))

-- a leg that leaves the terminal of a split meets one of its sides
one_side : (p : Problem) (k terminal : ℕ) (split : Split) (c : Leg) → IsSplitAt p k terminal split → tails_of p c.arc ≡ terminal → meets k (exit_of p c) (second_of_split split terminal) ≡ not (meets k (exit_of p c) (first_of_split split))
one_side p k terminal (ByArc shipment arc) c at leaves =
    rw (eq-eqb k shipment (sym at.0), eq-eqb (tails_of p c.arc) terminal leaves) (twice (nat_eq c.arc arc))
  where
    twice : (b : Bool) → b ≡ not (not b)
    twice true = refl
    twice false = refl
one_side p k terminal (ByTime shipment place at) c is leaves =
    rw (eq-eqb k shipment (sym is.0), eq-eqb (tails_of p c.arc) place (leaves ∙ sym is.1)) not_before
  where
    not_before : nat_le at c.depart ≡ not (nat_lt c.depart at)
    not_before =
        ⊎_elim
        (λ (early : c.depart < at). rw (lt-leb at c.depart early, lt-ltb c.depart at early) refl)
        (λ (late : at ≤ c.depart). rw (le-leb at c.depart late, le-ltb c.depart at late) refl)
        (cases_lt c.depart at)
one_side p k terminal (ByTrucks arc point until most) c at leaves = absurd at
one_side p k terminal (ByWay shipment arc) c at leaves =
    rw (eq-eqb k shipment (sym at.0), eq-eqb (tails_of p c.arc) (tails_of p arc) (leaves ∙ sym at.2)) (twice (nat_eq c.arc arc))
  where
    twice : (b : Bool) → not (not b && true) ≡ not (not b)
    twice true = refl
    twice false = refl

-- a test and one more, or one more that is its opposite
opposites : (lo all first second : Bool) → second ≡ not first → one_if (lo && (all && first)) + one_if (lo && (all && second)) ≡ one_if (lo && all)
opposites lo all first second is = rw is (by lo all first)
  where
    by : (a b c : Bool) → one_if (a && (b && c)) + one_if (a && (b && not c)) ≡ one_if (a && b)
    by true true true = refl
    by true true false = refl
    by true false c = refl
    by false b c = refl

module _ (p : Problem) (windows : ℕ → ℕ → Option Window) (sides : List Side) (k terminal : ℕ) (split : Split) (at : IsSplitAt p k terminal split) where
  abbrev with_first : List Side
  with_first = sides ++ (first_of_split split ∷ [])

  abbrev with_second : List Side
  with_second = sides ++ (second_of_split split terminal ∷ [])

  -- the departures by one arc
  in_divided : (arc : ℕ) (o : Option Window) → tails_of p arc ≡ terminal → departures_in p with_first k arc o + departures_in p with_second k arc o ≡ departures_in p sides k arc o
  in_divided arc None leaves = refl
  in_divided arc (Some w) leaves =
      count_below-divided (w.hi + 1) (is_departure p with_first k arc w) (is_departure p with_second k arc w) (is_departure p sides k arc w)
      (λ m.
      let e : Exit = exit_of p (record { arc = arc; depart = m }) in
      rw (meets_all_push k sides (first_of_split split) e, meets_all_push k sides (second_of_split split terminal) e)
      (opposites (nat_le w.lo m) (meets_all k sides e) (meets k e (first_of_split split)) (meets k e (second_of_split split terminal)) (one_side p k terminal split (record { arc = arc; depart = m }) at leaves)))

  below_divided : (a : ℕ) → departures_below p windows with_first k terminal a + departures_below p windows with_second k terminal a ≡ departures_below p windows sides k terminal a
  below_divided zero = refl
  below_divided (suc a) =
      let first : ℕ = departures_in p with_first k a (windows k a) in
      let second : ℕ = departures_in p with_second k a (windows k a) in
      let whole : ℕ = departures_in p sides k a (windows k a) in
      ⊎_elim
      (λ (here : nat_eq (tails_of p a) terminal ≡ true).
      let all : first + second ≡ whole = in_divided a (windows k a) (eqb-true (tails_of p a) terminal here) in
      omega (arith, below_divided a, all, cond-true (nat_eq (tails_of p a) terminal) first 0 here, cond-true (nat_eq (tails_of p a) terminal) second 0 here, cond-true (nat_eq (tails_of p a) terminal) whole 0 here))
      (λ (away : nat_eq (tails_of p a) terminal ≡ false).
      omega (arith, below_divided a, cond-false (nat_eq (tails_of p a) terminal) first 0 away, cond-false (nat_eq (tails_of p a) terminal) second 0 away, cond-false (nat_eq (tails_of p a) terminal) whole 0 away))
      (cases_Bool (nat_eq (tails_of p a) terminal))

  -- the departures of the two sides are together those that were left
  pub departures_left_divided : departures_left p windows with_first k terminal + departures_left p windows with_second k terminal ≡ departures_left p windows sides k terminal
  departures_left_divided = below_divided (length p.arcs)

-- a whole moment in the window of an arc that meets the sides is a departure left
departure_in : (p : Problem) (points : ℕ → List ℕ) (sides : List Side) (k : ℕ) (c : Leg) (o : Option Window) → IsSomeAnd o (HasMoment p points sides k c) → 1 ≤ departures_in p sides k c.arc o
departure_in p points sides k c None has = absurd has
departure_in p points sides k c (Some w) has =
    count_below-some (w.hi + 1) has.moment (is_departure p sides k c.arc w) (omega (arith, has.before))
    (and_from (nat_le w.lo has.moment) (meets_all k sides (exit_of p (record { arc = c.arc; depart = has.moment }))) (le-leb w.lo has.moment has.after) has.met)

departure_below : (p : Problem) (windows : ℕ → ℕ → Option Window) (points : ℕ → List ℕ) (sides : List Side) (k terminal : ℕ) (c : Leg) (a : ℕ) → c.arc < a → tails_of p c.arc ≡ terminal →
    IsSomeAnd (windows k c.arc) (HasMoment p points sides k c) → 1 ≤ departures_below p windows sides k terminal a
departure_below p windows points sides k terminal c zero h leaves has = absurd (omega (arith, h))
departure_below p windows points sides k terminal c (suc a) h leaves has =
    ⊎_elim
    (λ (same : c.arc ≡ a).
    let here : nat_eq (tails_of p a) terminal ≡ true = eq-eqb (tails_of p a) terminal (sym (ap (tails_of p) same) ∙ leaves) in
    let some : 1 ≤ departures_in p sides k a (windows k a) = subst (λ (n : ℕ). 1 ≤ departures_in p sides k n (windows k n)) same (departure_in p points sides k c (windows k c.arc) has) in
    omega (arith, some, cond-true (nat_eq (tails_of p a) terminal) (departures_in p sides k a (windows k a)) 0 here))
    (λ (other : c.arc ≡ a → ⊥). omega (arith, departure_below p windows points sides k terminal c a (omega (arith, h, other)) leaves has))
    (cases_eq c.arc a)

-- so where an allowed class leaves the terminal there is a departure left
pub departure_left : (p : Problem) (windows : ℕ → ℕ → Option Window) (points : ℕ → List ℕ) (sides : List Side) (k terminal : ℕ) (c : Leg) → c.arc < length p.arcs → tails_of p c.arc ≡ terminal →
    IsSomeAnd (windows k c.arc) (HasMoment p points sides k c) → 1 ≤ departures_left p windows sides k terminal
departure_left p windows points sides k terminal c exists leaves has = departure_below p windows points sides k terminal c (length p.arcs) exists leaves has
