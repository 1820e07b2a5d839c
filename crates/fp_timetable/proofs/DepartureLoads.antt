-- What the lines carry at a departure is its load.
use Rattle.std.proofs.Common.{◌≡◌, ℕ, ◌+◌, ◌<◌, Bool, true, false, ◌||◌, List, [], ◌∷◌, length, map, ⊎_elim, refl, sym, ap, ◌∙◌, subst, arith}
use Rattle.std.specs.Prelude.{sum_by, if◌then◌else◌}
use Rattle.std.specs.List.{AllByRecursion}
use Rattle.std.proofs.lemmas.Bool.{cases_Bool, cond-true, cond-false, or_left}
use Rattle.std.proofs.lemmas.List.Sums.{sum_by-append, sum_by-cons}
use Rattle.fp_model.specs.declared.parts.Leg.{Leg}
use Rattle.fp_model.specs.declared.parts.Shipment.{Shipment}
use Rattle.fp_model.specs.Costs.{has_leg, load, same_leg}
use Rattle.fp_model.specs.Numbered.{shipment_at}
use Rattle.fp_model.specs.Problem.{Problem}
use Rattle.fp_model.proofs.Distinct.{same_leg-true}
use Rattle.fp_base_lists.proofs.Sums.{sum_by-map}
use Rattle.fp_timetable.specs.declared.lines.LegLine.{LegLine}
use Rattle.fp_timetable.specs.Lines.{leg_line, line_leg}
use Rattle.fp_timetable.specs.Order.{lines_from, size_on}
use Rattle.fp_timetable.proofs.LegTimes.{Rise}

-- a departure is not among legs that all leave later
pub not-later : (k : Leg) (legs : List Leg) → AllByRecursion (λ (m : Leg). k.depart < m.depart) legs → has_leg k legs ≡ false
not-later k [] later = refl
not-later k (m ∷ legs) later =
    ⊎_elim
    (λ (h : same_leg k m ≡ true).
    let same : k.depart ≡ m.depart = ap (λ (l : Leg). l.depart) (same_leg-true k m h) in
    absurd (omega (arith, same, later.0)))
    (λ (h : same_leg k m ≡ false). ap (λ (b : Bool). b || has_leg k legs) h ∙ not-later k legs later.1)
    (cases_Bool (same_leg k m))

-- legs that rise have a departure once
once : (size : ℕ) (k : Leg) (legs : List Leg) → Rise legs → sum_by (λ (l : Leg). if same_leg k l then size else 0) legs ≡ (if has_leg k legs then size else 0)
once size k [] rise = refl
once size k (l ∷ legs) rise =
    let f : Leg → ℕ = λ (l : Leg). if same_leg k l then size else 0 in
    let later : sum_by f legs ≡ (if has_leg k legs then size else 0) = once size k legs rise.1 in
    ⊎_elim
    (λ (h : same_leg k l ≡ true).
    let is : k ≡ l = same_leg-true k l h in
    let none : has_leg k legs ≡ false = subst (λ (m : Leg). has_leg m legs ≡ false) (sym is) (not-later l legs rise.0) in
    let here : has_leg k (l ∷ legs) ≡ true = or_left (same_leg k l) (has_leg k legs) h in
    omega (arith, sum_by-cons f l legs, later, cond-true (same_leg k l) size 0 h, cond-false (has_leg k legs) size 0 none, cond-true (has_leg k (l ∷ legs)) size 0 here))
    (λ (h : same_leg k l ≡ false).
    let same : has_leg k (l ∷ legs) ≡ has_leg k legs = ap (λ (b : Bool). b || has_leg k legs) h in
    let value : (if has_leg k (l ∷ legs) then size else 0) ≡ (if has_leg k legs then size else 0) = ap (λ (b : Bool). if b then size else 0) same in
    omega (arith, sum_by-cons f l legs, later, cond-false (same_leg k l) size 0 h, value))
    (cases_Bool (same_leg k l))

-- shipments stand in the problem from a number on
abbrev pub ShipmentsFrom : Problem → ℕ → List Shipment → Type 0
ShipmentsFrom p i [] = Unit {0}
ShipmentsFrom p i (s ∷ shipments) = (shipment_at p i ≡ s) × ShipmentsFrom p (i + 1) shipments

-- each route rises
abbrev pub AllRise : List (List Leg) → Type 0
AllRise routes = AllByRecursion Rise routes

pub size_on-lines : (p : Problem) (i : ℕ) (shipments : List Shipment) (routes : List (List Leg)) (k : Leg) → length routes ≡ length shipments → ShipmentsFrom p i shipments → AllRise routes →
    size_on p k (lines_from p i routes) ≡ load shipments routes k
size_on-lines p i [] [] k long stand rise = refl
size_on-lines p i [] (legs ∷ routes) k long stand rise = absurd (omega (arith, long))
size_on-lines p i (s ∷ shipments) [] k long stand rise = absurd (omega (arith, long))
size_on-lines p i (s ∷ shipments) (legs ∷ routes) k long stand rise =
    let f : LegLine → ℕ = λ (l : LegLine). if same_leg k (line_leg l) then (shipment_at p l.shipment).size else 0 in
    let front : List LegLine = map (leg_line p i) legs in
    let own : sum_by f front ≡ sum_by (λ (l : Leg). if same_leg k l then (shipment_at p i).size else 0) legs = sum_by-map f (leg_line p i) legs in
    let size : (shipment_at p i).size ≡ s.size = ap (λ (t : Shipment). t.size) stand.0 in
    let here : (if has_leg k legs then (shipment_at p i).size else 0) ≡ (if has_leg k legs then s.size else 0) = ap (λ (n : ℕ). if has_leg k legs then n else 0) size in
    omega (
      arith,
      sum_by-append f front (lines_from p (i + 1) routes),
      own,
      once (shipment_at p i).size k legs rise.0,
      here,
      size_on-lines p (i + 1) shipments routes k (omega (arith, long)) stand.1 rise.1,
    )
