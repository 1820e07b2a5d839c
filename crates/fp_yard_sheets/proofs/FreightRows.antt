-- The legs that go by a line are those of the shipments whose routes have the line's leg.
use Rattle.std.proofs.Common.{◌≡◌, ◌≢◌, ◌∙◌, ℕ, suc, ◌+◌, ◌<◌, ◌≤◌, Bool, true, false, cond, List, [], ◌∷◌, ◌++◌, length, map, get_or, ⊎_elim, refl, sym, ap, ap₂, append_assoc, arith, eq-eqb, eqb-true}
use Rattle.std.specs.Prelude.{nat_eq, ◌||◌}
use Rattle.std.proofs.Math.Nat.{eq-or-lt_of_le}
use Rattle.std.proofs.lemmas.Bool.{cases_Bool, cases_lt, eqb-false}
use Rattle.std.proofs.lemmas.List.{map-append}
use Rattle.fp_model.specs.declared.parts.Leg.{Leg}
use Rattle.fp_model.specs.declared.parts.Member.{Member}
use Rattle.fp_model.specs.declared.parts.Shipment.{Shipment}
use Rattle.fp_model.specs.Costs.{has_leg, same_leg}
use Rattle.fp_model.specs.Numbered.{no_shipment, shipment_at}
use Rattle.fp_model.specs.Problem.{Problem}
use Rattle.fp_model.proofs.Distinct.{same_leg-refl, same_leg-true}
use Rattle.fp_records.specs.Text.{line_of, lines_of}
use Rattle.fp_timetable.specs.declared.lines.TruckLine.{TruckLine}
use Rattle.fp_timetable.specs.Lines.{departure}
use Rattle.fp_timetable.specs.Order.{no_line}
use Rattle.fp_yard.specs.Freight.{legs_by, members_by}
use Rattle.fp_yard.specs.Journeys.{AreInOrder}
use Rattle.fp_yard.specs.Schedules.{IsFreightOf, IsJourney, Schedule, journey_at, leg_of, line_at}
use Rattle.fp_yard.proofs.FreightOf.{IsFreightOf-members, IsFreightOf-unique, none-on}
use Rattle.fp_yard_sheets.specs.Freight.{IsOver, member_fields, routes_of}
use Rattle.fp_yard_sheets.specs.Rows.{load_fields, load_row, load_rows, out_fields, out_rows, tail_of}

-- of two lines in order the legs differ
legs-differ : (lines : List TruckLine) (m n : ℕ) → AreInOrder lines → m < n → n < length lines → leg_of lines m ≢ leg_of lines n
legs-differ lines m n order less lt same =
    let departs : (leg_of lines m).depart ≡ (leg_of lines n).depart = ap (λ (l : Leg). l.depart) same in
    let arcs : (leg_of lines m).arc ≡ (leg_of lines n).arc = ap (λ (l : Leg). l.arc) same in
    ⊎_elim (λ before. omega (arith, before, departs)) (λ together. omega (arith, together.1, arcs)) (order m n no_line less lt)

same-line : (lines : List TruckLine) (m n : ℕ) → AreInOrder lines → m < length lines → n < length lines → leg_of lines m ≡ leg_of lines n → m ≡ n
same-line lines m n order first second same =
    ⊎_elim (λ (less : m < n). absurd (legs-differ lines m n order less second same))
    (λ (le : n ≤ m).
    ⊎_elim (λ (is : n ≡ m). sym is) (λ (less : n < m). absurd (legs-differ lines n m order less first (sym same))) (eq-or-lt_of_le le))
    (cases_lt m n)

-- the lines of a journey exist and rise
record Rises (lines : List TruckLine) (journey : List ℕ) : Type 0 where
  exist : (n : ℕ) → n < length journey → get_or journey n 0 < length lines
  rising : (m n : ℕ) → m < n → n < length journey → get_or journey m 0 < get_or journey n 0

rest-rises : (lines : List TruckLine) (l : ℕ) (journey : List ℕ) → Rises lines (l ∷ journey) → Rises lines journey
rest-rises lines l journey are = record {
  exist = λ n lt. are.exist (suc n) (omega (arith, lt));
  rising = λ m n less lt. are.rising (suc m) (suc n) (omega (arith, less)) (omega (arith, lt));
}

-- the row of a shipment is that of its leg by the line, if it has one
row-leg : (p : Problem) (lines : List TruckLine) (line k i : ℕ) (journey : List ℕ) → AreInOrder lines → line < length lines → Rises lines journey →
    load_row (leg_of lines line) (shipment_at p k) (map (leg_of lines) journey) ≡ map (member_fields p) (legs_by line k i journey)
row-leg p lines line k i [] order lt are = refl
row-leg p lines line k i (l ∷ journey) order lt are =
    let leg : Leg = leg_of lines line in
    let s : Shipment = shipment_at p k in
    let m : Member = record { shipment = k; leg = i } in
    ⊎_elim
    (λ (yes : nat_eq l line ≡ true).
    let is : l ≡ line = eqb-true l line yes in
    let own : same_leg leg (leg_of lines l) ≡ true = ap (λ (n : ℕ). same_leg leg (leg_of lines n)) is ∙ same_leg-refl leg in
    let rest : legs_by line k (i + 1) journey ≡ [] =
    none-on line k (i + 1) journey (λ n within same. omega (arith, are.rising 0 (suc n) (omega arith) (omega (arith, within)), is, same)) in
    ap (λ (b : Bool). cond (b || has_leg leg (map (leg_of lines) journey)) (load_fields s ∷ []) []) own
    ∙ sym (ap₂ (λ (b : Bool) (ms : List Member). map (member_fields p) (cond b (m ∷ []) [] ++ ms)) yes rest))
    (λ (no : nat_eq l line ≡ false).
    let other : same_leg leg (leg_of lines l) ≡ false =
    ⊎_elim
    (λ (same : same_leg leg (leg_of lines l) ≡ true).
    absurd (eqb-false l line no (sym (same-line lines line l order lt (are.exist 0 (omega arith)) (same_leg-true leg (leg_of lines l) same)))))
    (λ (apart : same_leg leg (leg_of lines l) ≡ false). apart)
    (cases_Bool (same_leg leg (leg_of lines l))) in
    ap (λ (b : Bool). cond (b || has_leg leg (map (leg_of lines) journey)) (load_fields s ∷ []) []) other
    ∙ row-leg p lines line k (i + 1) journey order lt (rest-rises lines l journey are)
    ∙ sym (ap (λ (b : Bool). map (member_fields p) (cond b (m ∷ []) [] ++ legs_by line k (i + 1) journey)) no))
    (cases_Bool (nat_eq l line))

-- the rows of shipments of which the first has the number k
rows-legs : (p : Problem) (lines : List TruckLine) (line k : ℕ) (shipments : List Shipment) (journeys : List (List ℕ)) → AreInOrder lines → line < length lines →
    length journeys ≡ length shipments → ((n : ℕ) → n < length shipments → get_or shipments n no_shipment ≡ shipment_at p (k + n)) →
    ((n : ℕ) → n < length journeys → Rises lines (get_or journeys n [])) →
    load_rows (leg_of lines line) shipments (map (map (leg_of lines)) journeys) ≡ map (member_fields p) (members_by line k journeys)
rows-legs p lines line k [] [] order lt long at are = refl
rows-legs p lines line k [] (journey ∷ journeys) order lt long at are = absurd (omega (arith, long))
rows-legs p lines line k (s ∷ shipments) [] order lt long at are = absurd (omega (arith, long))
rows-legs p lines line k (s ∷ shipments) (journey ∷ journeys) order lt long at are =
    let leg : Leg = leg_of lines line in
    let first : s ≡ shipment_at p k = at 0 (omega arith) ∙ ap (shipment_at p) (omega arith) in
    ap₂ (λ (x y : List (List (List ℕ))). x ++ y)
    (ap (λ (t : Shipment). load_row leg t (map (leg_of lines) journey)) first ∙ row-leg p lines line k 0 journey order lt (are 0 (omega arith)))
    (rows-legs p lines line (k + 1) shipments journeys order lt (omega (arith, long))
    (λ n within. at (suc n) (omega (arith, within)) ∙ ap (shipment_at p) (omega arith)) (λ n within. are (suc n) (omega (arith, within))))
    ∙ sym (map-append (member_fields p) (legs_by line k 0 journey) (members_by line (k + 1) journeys))

-- the freight of a line: the shipments that have its leg, by number
load_rows-freight : (p : Problem) (lines : List TruckLine) (s : Schedule) (line : ℕ) (members : List Member) → IsOver p lines s → line < length lines → IsFreightOf s line members →
    load_rows (leg_of lines line) p.shipments (routes_of lines s) ≡ map (member_fields p) members
load_rows-freight p lines s line members over lt are =
    rows-legs p lines line 0 p.shipments s.journeys over.order lt over.journeys (λ n within. ap (shipment_at p) (omega arith))
    (λ n within.
    let is : IsJourney s (journey_at s n) = over.sound.journeys n within in
    record { exist = λ i in_it. omega (arith, is.exist i in_it, over.tails); rising = is.rising })
    ∙ ap (map (member_fields p)) (IsFreightOf-unique s line (members_by line 0 s.journeys) members (IsFreightOf-members s line over.sound) are)

-- the text of a line that leaves a terminal, with its freight
pub out-text : (p : Problem) (lines : List TruckLine) (s : Schedule) (v line : ℕ) (members : List Member) (before : List ℕ) → IsOver p lines s → line < length lines →
    IsFreightOf s line members → tail_of p (line_at lines line) ≡ v →
    (before ++ line_of (out_fields p (line_at lines line))) ++ lines_of (map (member_fields p) members) ≡ before ++ lines_of (out_rows p (routes_of lines s) v (line_at lines line))
out-text p lines s v line members before over lt are leaves =
    let t : TruckLine = line_at lines line in
    append_assoc before (line_of (out_fields p t)) (lines_of (map (member_fields p) members))
    ∙ ap (λ (rows : List (List (List ℕ))). before ++ (line_of (out_fields p t) ++ lines_of rows)) (sym (load_rows-freight p lines s line members over lt are))
    ∙ ap (λ (b : Bool). before ++ lines_of (cond b (out_fields p t ∷ load_rows (departure t) p.shipments (routes_of lines s)) [])) (sym (eq-eqb (tail_of p t) v leaves))
