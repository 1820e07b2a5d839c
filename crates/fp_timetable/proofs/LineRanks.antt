-- Leg lines have different places in the order.
use Rattle.std.proofs.Common.{◌≡◌, ◌≢◌, ℕ, zero, suc, ◌+◌, ◌^◌, ◌<◌, ◌≤◌, Bool, false, List, [], ◌∷◌, ◌++◌, length, map, get_or, ⊎_elim, sym, ◌∙◌, arith, eq-eqb}
use Rattle.std.specs.Prelude.{AllPairs}
use Rattle.std.specs.List.{AllByRecursion, IsDistinct}
use Rattle.std.specs.List.Sorted.{IsNonDecreasingBy, IsPermutation}
use Rattle.std.proofs.Math.Dec.{eqb}
use Rattle.std.proofs.lemmas.Bool.{eqb-false, ne_eqb}
use Rattle.std.proofs.lemmas.Bool.Decides.{eqb_tells}
use Rattle.std.proofs.lemmas.Map.Keys.{IsDistinct-IsPermutation}
use Rattle.fp_model.specs.declared.parts.Leg.{Leg}
use Rattle.fp_model.specs.Problem.{Problem}
use Rattle.fp_base_lists.proofs.Elements.{AllByRecursion-weaker, AllByRecursion-get_or, AllByRecursion-append, AllByRecursion-map, AllByRecursion-always}
use Rattle.fp_timetable.specs.declared.lines.LegLine.{LegLine}
use Rattle.fp_timetable.specs.Lines.{leg_line}
use Rattle.fp_timetable.specs.Order.{lines_from, rank_of}
use Rattle.fp_timetable.proofs.DepartureLoads.{AllRise}
use Rattle.fp_timetable.proofs.LegTimes.{Rise}

-- the place of a leg line in the order
abbrev pub leg_rank : LegLine → ℕ
leg_rank l = rank_of l.depart l.shipment

-- whether two leg lines have the same place
abbrev pub same_rank : LegLine → LegLine → Bool
same_rank k l = eqb (leg_rank k) (leg_rank l)

-- a leg line of a shipment from a number on
abbrev IsFrom : ℕ → LegLine → Type 0
IsFrom i l = (i ≤ l.shipment) × (l.shipment < 2 ^ 32)

IsFrom-lines : (p : Problem) (i : ℕ) (routes : List (List Leg)) → i + length routes < 2 ^ 32 → AllByRecursion (IsFrom i) (lines_from p i routes)
IsFrom-lines p i [] few = tt
IsFrom-lines p i (legs ∷ routes) few =
    AllByRecursion-append (IsFrom i) (map (leg_line p i) legs) (lines_from p (i + 1) routes)
    (AllByRecursion-map (IsFrom i) (leg_line p i) legs (AllByRecursion-always (λ l. IsFrom i (leg_line p i l)) (λ l. (omega arith, omega (arith, few))) legs))
    (AllByRecursion-weaker (IsFrom (i + 1)) (IsFrom i) (λ l h. (omega (arith, h.0), h.1)) (lines_from p (i + 1) routes) (IsFrom-lines p (i + 1) routes (omega (arith, few))))

distinct-append : (xs ys : List LegLine) → IsDistinct same_rank xs → IsDistinct same_rank ys → AllByRecursion (λ x. AllByRecursion (λ y. same_rank x y ≡ false) ys) xs → IsDistinct same_rank (xs ++ ys)
unfolding IsDistinct
distinct-append [] ys first second cross = second
distinct-append (x ∷ xs) ys first second cross =
    (AllByRecursion-append (λ y. same_rank x y ≡ false) xs ys first.0 cross.0, distinct-append xs ys first.1 second cross.1)

distinct-route : (p : Problem) (i : ℕ) (legs : List Leg) → Rise legs → IsDistinct same_rank (map (leg_line p i) legs)
unfolding IsDistinct
distinct-route p i [] rise = tt
distinct-route p i (l ∷ legs) rise = (
  AllByRecursion-map (λ y. same_rank (leg_line p i l) y ≡ false) (leg_line p i) legs
      (AllByRecursion-weaker (λ (m : Leg). l.depart < m.depart) (λ m. same_rank (leg_line p i l) (leg_line p i m) ≡ false)
      (λ m h. ne_eqb (rank_of l.depart i) (rank_of m.depart i) (λ e. omega (arith, e, h))) legs rise.0),
  distinct-route p i legs rise.1,
)

distinct-lines : (p : Problem) (i : ℕ) (routes : List (List Leg)) → i + length routes < 2 ^ 32 → AllRise routes → IsDistinct same_rank (lines_from p i routes)
unfolding IsDistinct
distinct-lines p i [] few rise = tt
distinct-lines p i (legs ∷ routes) few rise =
    distinct-append (map (leg_line p i) legs) (lines_from p (i + 1) routes)
    (distinct-route p i legs rise.0)
    (distinct-lines p (i + 1) routes (omega (arith, few)) rise.1)
    (AllByRecursion-map (λ x. AllByRecursion (λ y. same_rank x y ≡ false) (lines_from p (i + 1) routes)) (leg_line p i) legs
    (AllByRecursion-always (λ l. AllByRecursion (λ y. same_rank (leg_line p i l) y ≡ false) (lines_from p (i + 1) routes))
    (λ l.
    AllByRecursion-weaker (IsFrom (i + 1)) (λ y. same_rank (leg_line p i l) y ≡ false)
    (λ y h. ne_eqb (rank_of l.depart i) (rank_of y.depart y.shipment) (λ e. omega (arith, e, h.0, h.1, few)))
    (lines_from p (i + 1) routes) (IsFrom-lines p (i + 1) routes (omega (arith, few))))
    legs))

distinct-at : (lines : List LegLine) (i j : ℕ) (d : LegLine) → IsDistinct same_rank lines → i < j → j < length lines → leg_rank (get_or lines i d) ≢ leg_rank (get_or lines j d)
unfolding IsDistinct
distinct-at [] i j d apart less lt = absurd (omega (arith, lt))
distinct-at (l ∷ lines) i zero d apart less lt = absurd (omega (arith, less))
distinct-at (l ∷ lines) zero (suc j) d apart less lt =
    eqb-false (leg_rank l) (leg_rank (get_or lines j d)) (AllByRecursion-get_or (λ m. same_rank l m ≡ false) lines j d apart.0 (omega (arith, lt)))
distinct-at (l ∷ lines) (suc i) (suc j) d apart less lt = distinct-at lines i j d apart.1 (omega (arith, less)) (omega (arith, lt))

flip : (k l : LegLine) → same_rank k l ≡ same_rank l k
flip k l =
    ⊎_elim
    (λ yes. yes.0 ∙ sym (eq-eqb (leg_rank l) (leg_rank k) (sym yes.1)))
    (λ no. no.0 ∙ sym (ne_eqb (leg_rank l) (leg_rank k) (λ e. no.1 (sym e))))
    (eqb_tells (leg_rank k) (leg_rank l))

-- lines of all legs, put in order, are apart in their order
pub rising-lines : (p : Problem) (routes : List (List Leg)) (lines : List LegLine) → length routes < 2 ^ 32 → AllRise routes → IsPermutation (lines_from p 0 routes) lines →
    IsNonDecreasingBy leg_rank lines → AllPairs (λ k l. leg_rank k < leg_rank l) lines
rising-lines p routes lines few rise moved sorted i j d less lt =
    let apart : IsDistinct same_rank lines = IsDistinct-IsPermutation same_rank flip (lines_from p 0 routes) lines moved (distinct-lines p 0 routes (omega (arith, few)) rise) in
    omega (arith, sorted i j d (omega (arith, less)) lt, distinct-at lines i j d apart less lt)
