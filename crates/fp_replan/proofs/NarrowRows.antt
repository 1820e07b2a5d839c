-- The rows of windows once arcs were shut off and the kept legs' windows narrowed.
use Rattle.std.proofs.Common.{◌≡◌, ◌≢◌, ℕ, ◌+◌, ◌*◌, ◌<◌, ◌≤◌, true, false, Bool, cond, List, [], ◌∷◌, ◌++◌, length, map, take, drop, refl, sym, ap, ◌∙◌, subst, arith, le_refl, eq-eqb, ⊎_elim}
use Rattle.std.specs.Prelude.{nat_eq, Option, Some, None, IsSomeAnd, slice_index, slice_index_or, not, ◌&&◌, ◌==◌, filter}
use Rattle.std.specs.List.{AllByRecursion, list_any}
use Rattle.std.proofs.Math.Nat.{le_of_mul-le-mul_left}
use Rattle.std.proofs.lemmas.Bool.{and_parts, cases_Bool, false≢true, ne_eqb, not-true, or_left, or_parts, or_right}
use Rattle.std.proofs.lemmas.Bool.Decides.{eqb_tells}
use Rattle.std.proofs.lemmas.List.{drop_more, get_or-map, map-append, take-append-drop}
use Rattle.std.proofs.lemmas.List.Elements.{filter-append}
use Rattle.std.proofs.lemmas.Slice.Zip.{AllZip-long}
use Rattle.fp_base_lists.specs.Membership.{list_has}
use Rattle.fp_base_lists.proofs.Elements.{AllByRecursion-from_map, AllByRecursion-push, AllByRecursion-weaker}
use Rattle.fp_base_lists.proofs.Membership.{list_has-append, list_has-cons_cases, list_has-first, list_has-rest, list_has-apart}
use Rattle.fp_base_lists.proofs.Numbered.{AllFrom-get_or_zero}
use Rattle.fp_model.specs.declared.parts.Leg.{Leg}
use Rattle.fp_model.specs.declared.parts.Shipment.{Shipment}
use Rattle.fp_model.specs.Numbered.{no_shipment, route_at, shipment_at}
use Rattle.fp_model.specs.Problem.{Problem, arc_at, no_arc}
use Rattle.fp_model.specs.Routes.{Carries, arcs_of, ends_of}
use Rattle.fp_flatnet.specs.declared.window_tables.Window.{Window}
use Rattle.fp_flatnet.specs.Belonging.{BelongsTo}
use Rattle.fp_flatnet.specs.Tables.{CanNarrow, WindowTable, narrowed, tail_of, windows_in}
use Rattle.fp_flatnet.specs.Windows.{AreWindows, CoverPlans, IsInside, IsWindowOrNone, LiesWithin}
use Rattle.fp_flatnet.proofs.WindowEntries.{entry-exists, entry-set_other, entry-set_same}
use Rattle.fp_replan.specs.declared.kept.Kept.{Kept}
use Rattle.fp_replan.specs.Beginnings.{AreBeginnings, IsBeginning}
use Rattle.fp_replan.specs.KeptLegs.{AreKept, BeginWith, CanKeep, kept_of, leg_of, no_kept, place_after, places_seen, scaled}
use Rattle.fp_replan.specs.KeptWindows.{AreNarrow, CanBeKept, CanNarrowAll, IsKeptRow, StaysOff, shut_off, touches, window_at}
use Rattle.fp_replan.proofs.KeptBeginnings.{IsBeginning-kept, kept_of-other, kept_of-same}
use Rattle.fp_replan.proofs.KeptRoutes.{IsRowFrom}
use Rattle.fp_replan.proofs.ListParts.{AllByRecursion-left, AllByRecursion-right, list_any-each, list_any-none}
use Rattle.fp_replan.proofs.RoutesOff.{off-no_arc, one-leaves}
use Rattle.fp_base_lists.proofs.Distinct.{list_has-others}

-- where a list has a number, the list of the images has its image
list_has-map : (f : ℕ → ℕ) (numbers : List ℕ) (n : ℕ) → list_has numbers n ≡ true → list_has (map f numbers) (f n) ≡ true
list_has-map f [] n has = absurd (false≢true has)
list_has-map f (m ∷ numbers) n has =
    ⊎_elim
    (λ (here : m ≡ n). subst (λ k. list_has (map f (m ∷ numbers)) (f k) ≡ true) here (list_has-first (f m) (map f numbers)))
    (λ (later : list_has numbers n ≡ true). list_has-rest (f m) (map f numbers) (f n) (list_has-map f numbers n later))
    (list_has-cons_cases m numbers n has)

-- a shipment goes by the arc of a leg that can be kept for the first time
pub fresh-arc : (p : Problem) (before : List Kept) (x : Kept) → CanKeep p before x → list_has (arcs_of (kept_of before x.shipment)) x.arc ≡ false
fresh-arc p before x can =
    let s : Shipment = shipment_at p x.shipment in
    let legs : List Leg = kept_of before x.shipment in
    let here : ℕ = place_after p s.from legs in
    let to : ℕ = (arc_at p x.arc).to in
    let parts = and_parts (((arc_at p x.arc).from == here) && not (here == s.to)) (not (list_has (places_seen p s.from legs) to)) can.on in
    let new : list_has (places_seen p s.from legs) to ≡ false = not-true (list_has (places_seen p s.from legs) to) parts.1 in
    ⊎_elim
    (λ (has : list_has (arcs_of legs) x.arc ≡ true).
    absurd (false≢true (sym new ∙ list_has-rest s.from (ends_of p (arcs_of legs)) to (list_has-map (λ a. (arc_at p a).to) (arcs_of legs) x.arc has))))
    (λ (none : list_has (arcs_of legs) x.arc ≡ false). none)
    (cases_Bool (list_has (arcs_of legs) x.arc))

-- the kept legs of a shipment around one of them
kept_of-around : (kept : List Kept) (i : ℕ) → i < length kept → (x : Kept) → x ≡ slice_index_or kept i no_kept →
    kept_of kept x.shipment ≡ kept_of (take i kept) x.shipment ++ (leg_of x ∷ kept_of (drop (i + 1) kept) x.shipment)
kept_of-around kept i lt x is =
    let k : ℕ = x.shipment in
    let test : Kept → Bool = λ (y : Kept). y.shipment == k in
    let whole : kept ≡ take i kept ++ (x ∷ drop (i + 1) kept) =
    sym (take-append-drop i kept) ∙ ap (λ (ks : List Kept). take i kept ++ ks) (drop_more kept i no_kept lt ∙ ap (λ (y : Kept). y ∷ drop (i + 1) kept) (sym is)) in
    let second : filter test (x ∷ drop (i + 1) kept) ≡ x ∷ filter test (drop (i + 1) kept) =
    ap (λ b. cond b (x ∷ filter test (drop (i + 1) kept)) (filter test (drop (i + 1) kept))) (eq-eqb k k refl) in
    ap (λ (ks : List Kept). kept_of ks k) whole
    ∙ ap (map leg_of) (filter-append test (take i kept) (x ∷ drop (i + 1) kept) ∙ ap (λ (ks : List Kept). filter test (take i kept) ++ ks) second)
    ∙ map-append leg_of (filter test (take i kept)) (x ∷ filter test (drop (i + 1) kept))

-- what holds of each kept leg of its shipment holds of a kept leg
pub each-kept : (P : Leg → Type 0) (kept : List Kept) (i : ℕ) → i < length kept → AllByRecursion P (kept_of kept (slice_index_or kept i no_kept).shipment) →
    P (leg_of (slice_index_or kept i no_kept))
each-kept P kept i lt all =
    let x : Kept = slice_index_or kept i no_kept in
    let around = subst (AllByRecursion P) (kept_of-around kept i lt x refl) all in
    (AllByRecursion-right P (kept_of (take i kept) x.shipment) (leg_of x ∷ kept_of (drop (i + 1) kept) x.shipment) around).0

-- a shipment goes by the arcs of its kept legs
each-has : (legs : List Leg) → AllByRecursion (λ (l : Leg). list_has (arcs_of legs) l.arc ≡ true) legs
each-has [] = tt
each-has (l ∷ legs) = (
  list_has-first l.arc (arcs_of legs),
  AllByRecursion-weaker (λ (m : Leg). list_has (arcs_of legs) m.arc ≡ true) (λ (m : Leg). list_has (arcs_of (l ∷ legs)) m.arc ≡ true)
      (λ m has. list_has-rest l.arc (arcs_of legs) m.arc has) legs (each-has legs),
)

pub kept-has : (kept : List Kept) (i : ℕ) → i < length kept → list_has (arcs_of (kept_of kept (slice_index_or kept i no_kept).shipment)) (slice_index_or kept i no_kept).arc ≡ true
kept-has kept i lt =
    let k : ℕ = (slice_index_or kept i no_kept).shipment in
    each-kept (λ (l : Leg). list_has (arcs_of (kept_of kept k)) l.arc ≡ true) kept i lt (each-has (kept_of kept k))

-- a time of a denominator inside a window is inside it
inside-fits : (d time : ℕ) (o : Option Window) → 1 ≤ d → IsSomeAnd o (IsInside d (d * time)) → IsSomeAnd o (λ w. (w.lo ≤ time) × (time ≤ time) × (time ≤ w.hi))
inside-fits d time None some inside = absurd inside
inside-fits d time (Some w) some inside =
    (le_of_mul-le-mul_left inside.0 (omega (arith, some)), le_refl time, le_of_mul-le-mul_left inside.1 (omega (arith, some)))

-- kept legs with which legs begin that lie within windows leave within theirs
pub kept-fits : (windows : ℕ → ℕ → Option Window) (d k : ℕ) (front legs : List Leg) → 1 ≤ d → BeginWith d front legs → LiesWithin windows d k legs →
    AllByRecursion (λ (l : Leg). IsSomeAnd (windows k l.arc) (λ w. (w.lo ≤ l.depart) × (l.depart ≤ l.depart) × (l.depart ≤ w.hi))) front
kept-fits windows d k front legs some begin within =
    let P : Leg → Type 0 = λ (l : Leg). IsSomeAnd (windows k l.arc) (IsInside d l.depart) in
    let whole : AllByRecursion P (map (scaled d) front ++ begin.0) = subst (AllByRecursion P) begin.1 within in
    let first : AllByRecursion (λ (l : Leg). P (scaled d l)) front = AllByRecursion-from_map P (scaled d) front (AllByRecursion-left P (map (scaled d) front) begin.0 whole) in
    AllByRecursion-weaker (λ (l : Leg). P (scaled d l)) (λ (l : Leg). IsSomeAnd (windows k l.arc) (λ w. (w.lo ≤ l.depart) × (l.depart ≤ l.depart) × (l.depart ≤ w.hi)))
    (λ l inside. inside-fits d l.depart (windows k l.arc) some inside) front first

-- one more window narrowed
pub AreNarrow-push : (p : Problem) (before : ℕ → ℕ → Option Window) (table : WindowTable) (front : List Kept) (x : Kept) →
    CanNarrow table x.shipment x.arc x.depart x.depart → CanKeep p front x → AreNarrow front before (windows_in table) →
    AreNarrow (front ++ (x ∷ [])) before (windows_in (narrowed table x.shipment x.arc x.depart x.depart))
AreNarrow-push p before table front x fits can are = record { narrow = narrow_now; same = same_now }
  where
    after : ℕ → ℕ → Option Window
    after = windows_in (narrowed table x.shipment x.arc x.depart x.depart)

    there : (x.shipment < length table.rows) × (x.arc < length (slice_index_or table.rows x.shipment []))
    there = entry-exists table x.shipment x.arc (λ w. (w.lo ≤ x.depart) × (x.depart ≤ x.depart) × (x.depart ≤ w.hi)) fits

    elsewhere : (k a : ℕ) → ((k ≡ x.shipment) × (a ≡ x.arc) → ⊥) → windows_in (narrowed table x.shipment x.arc x.depart x.depart) k a ≡ windows_in table k a
    elsewhere k a apart = entry-set_other table.rows x.shipment x.arc k a (Some (window_at x.depart)) there.0 apart

    here : windows_in (narrowed table x.shipment x.arc x.depart x.depart) x.shipment x.arc ≡ Some (window_at x.depart)
    here = entry-set_same table.rows x.shipment x.arc (Some (window_at x.depart)) there.0 there.1

    old : (k : ℕ) → AllByRecursion (λ (l : Leg). (k ≡ x.shipment) × (l.arc ≡ x.arc) → ⊥) (kept_of front k) →
        AllByRecursion (λ (l : Leg). windows_in (narrowed table x.shipment x.arc x.depart x.depart) k l.arc ≡ Some (window_at l.depart)) (kept_of front k)
    old k apart = stay (kept_of front k) apart (are.narrow k)
      where
        stay : (legs : List Leg) → AllByRecursion (λ (l : Leg). (k ≡ x.shipment) × (l.arc ≡ x.arc) → ⊥) legs → AllByRecursion (λ (l : Leg). windows_in table k l.arc ≡ Some (window_at l.depart)) legs →
            AllByRecursion (λ (l : Leg). windows_in (narrowed table x.shipment x.arc x.depart x.depart) k l.arc ≡ Some (window_at l.depart)) legs
        stay [] others was = tt
        stay (l ∷ legs) others was = (elsewhere k l.arc others.0 ∙ was.0, stay legs others.1 was.1)

    narrow_now : (k : ℕ) → AllByRecursion (λ (l : Leg). windows_in (narrowed table x.shipment x.arc x.depart x.depart) k l.arc ≡ Some (window_at l.depart)) (kept_of (front ++ (x ∷ [])) k)
    narrow_now k =
        let P : Leg → Type 0 = λ (l : Leg). windows_in (narrowed table x.shipment x.arc x.depart x.depart) k l.arc ≡ Some (window_at l.depart) in
        ⊎_elim
        (λ (own : (nat_eq x.shipment k ≡ true) × (x.shipment ≡ k)).
        let fresh : AllByRecursion (λ m. m ≢ x.arc) (arcs_of (kept_of front k)) =
        list_has-apart (arcs_of (kept_of front k)) x.arc (subst (λ n. list_has (arcs_of (kept_of front n)) x.arc ≡ false) own.1 (fresh-arc p front x can)) in
        let apart : AllByRecursion (λ (l : Leg). (k ≡ x.shipment) × (l.arc ≡ x.arc) → ⊥) (kept_of front k) =
        AllByRecursion-weaker (λ (l : Leg). l.arc ≢ x.arc) (λ (l : Leg). (k ≡ x.shipment) × (l.arc ≡ x.arc) → ⊥) (λ l ne both. ne both.1) (kept_of front k)
        (AllByRecursion-from_map (λ m. m ≢ x.arc) (λ (l : Leg). l.arc) (kept_of front k) fresh) in
        subst (AllByRecursion P) (sym (kept_of-same front x k own.1))
        (AllByRecursion-push P (kept_of front k) (leg_of x) (old k apart)
        (subst (λ n. windows_in (narrowed table x.shipment x.arc x.depart x.depart) n x.arc ≡ Some (window_at x.depart)) own.1 here)))
        (λ (other : (nat_eq x.shipment k ≡ false) × (x.shipment ≢ k)).
        let apart : AllByRecursion (λ (l : Leg). (k ≡ x.shipment) × (l.arc ≡ x.arc) → ⊥) (kept_of front k) = each_apart (kept_of front k) (λ e. other.1 (sym e)) in
        subst (AllByRecursion P) (sym (kept_of-other front x k other.0)) (old k apart))
        (eqb_tells x.shipment k)
      where
        each_apart : (legs : List Leg) → k ≢ x.shipment → AllByRecursion (λ (l : Leg). (k ≡ x.shipment) × (l.arc ≡ x.arc) → ⊥) legs
        each_apart [] ne = tt
        each_apart (l ∷ legs) ne = ((λ both. ne both.0), each_apart legs ne)

    same_now : (k a : ℕ) → list_has (arcs_of (kept_of (front ++ (x ∷ [])) k)) a ≡ false → windows_in (narrowed table x.shipment x.arc x.depart x.depart) k a ≡ before k a
    same_now k a none =
        ⊎_elim
        (λ (own : (nat_eq x.shipment k ≡ true) × (x.shipment ≡ k)).
        let arcs : arcs_of (kept_of (front ++ (x ∷ [])) k) ≡ arcs_of (kept_of front k) ++ (x.arc ∷ []) =
        ap arcs_of (kept_of-same front x k own.1) ∙ map-append (λ (l : Leg). l.arc) (kept_of front k) (leg_of x ∷ []) in
        let parts = or_parts (list_has (arcs_of (kept_of front k)) a) (list_has (x.arc ∷ []) a)
        (sym (list_has-append (arcs_of (kept_of front k)) (x.arc ∷ []) a) ∙ ap (λ (xs : List ℕ). list_has xs a) (sym arcs) ∙ none) in
        let last = or_parts (x.arc == a) false parts.1 in
        elsewhere k a (λ both. false≢true (sym last.0 ∙ eq-eqb x.arc a (sym both.1))) ∙ are.same k a parts.0)
        (λ (other : (nat_eq x.shipment k ≡ false) × (x.shipment ≢ k)).
        elsewhere k a (λ both. other.1 (sym both.0))
        ∙ are.same k a (subst (λ (ls : List Leg). list_has (arcs_of ls) a ≡ false) (kept_of-other front x k other.0) none))
        (eqb_tells x.shipment k)

-- an arc that stays off the tails of legs touches none
off-touches : (p : Problem) (a : ℕ) (legs : List Leg) → AllByRecursion (StaysOff p a) legs → AllByRecursion (λ (l : Leg). touches p a l ≡ false) legs
off-touches p a [] off = tt
off-touches p a (l ∷ legs) off =
    (rw (ne_eqb (arc_at p a).from (arc_at p l.arc).from off.0.0, ne_eqb (arc_at p a).to (arc_at p l.arc).from off.0.1) refl, off-touches p a legs off.1)

-- a row whose other arcs were shut off, and whose kept legs' windows were narrowed
pub IsRowFrom-narrow : (p : Problem) (kept : List Kept) (base shut windows : ℕ → ℕ → Option Window) → AreKept p kept →
    ((k a : ℕ) → k < length p.shipments → a < length p.arcs → shut k a ≡ cond (shut_off p (kept_of kept k) a) None (base k a)) → AreNarrow kept shut windows →
    (k : ℕ) → k < length p.shipments → IsRowFrom p (kept_of kept k) (base k) (windows k)
IsRowFrom-narrow p kept base shut windows are closed narrow k lt = record {
  kept = narrow.narrow k;
  leaving = λ a exists.
      ⊎_elim
      (λ (has : list_has (arcs_of (kept_of kept k)) a ≡ true).
      AllByRecursion-weaker (λ (l : Leg). (arc_at p a).from ≡ (arc_at p l.arc).from → a ≡ l.arc) (λ (l : Leg). (arc_at p a).from ≡ (arc_at p l.arc).from → a ≢ l.arc → windows k a ≡ None)
      (λ l only same differ. absurd (differ (only same))) (kept_of kept k)
      (one-leaves p (shipment_at p k).from (kept_of kept k) (place_after p (shipment_at p k).from (kept_of kept k)) a begin.leads begin.once has))
      (λ (none : list_has (arcs_of (kept_of kept k)) a ≡ false).
      AllByRecursion-weaker (λ (l : Leg). touches p a l ≡ true → list_any (touches p a) (kept_of kept k) ≡ true)
      (λ (l : Leg). (arc_at p a).from ≡ (arc_at p l.arc).from → a ≢ l.arc → windows k a ≡ None)
      (λ l some same differ. shut_so a exists none (some (or_left ((arc_at p a).from == (arc_at p l.arc).from) ((arc_at p a).to == (arc_at p l.arc).from) (eq-eqb (arc_at p a).from (arc_at p l.arc).from same))))
      (kept_of kept k) (list_any-each (touches p a) (kept_of kept k)))
      (cases_Bool (list_has (arcs_of (kept_of kept k)) a));
  entering = λ a exists none.
      AllByRecursion-weaker (λ (l : Leg). touches p a l ≡ true → list_any (touches p a) (kept_of kept k) ≡ true)
      (λ (l : Leg). (arc_at p a).to ≡ (arc_at p l.arc).from → windows k a ≡ None)
      (λ l some same. shut_so a exists none (some (or_right ((arc_at p a).from == (arc_at p l.arc).from) ((arc_at p a).to == (arc_at p l.arc).from) (eq-eqb (arc_at p a).to (arc_at p l.arc).from same))))
      (kept_of kept k) (list_any-each (touches p a) (kept_of kept k));
  other = λ a exists off.
      let none : list_has (arcs_of (kept_of kept k)) a ≡ false = list_has-others (arcs_of (kept_of kept k)) a (off-no_arc p (kept_of kept k) a off) in
      let no_touch : list_any (touches p a) (kept_of kept k) ≡ false = list_any-none (touches p a) (kept_of kept k) (off-touches p a (kept_of kept k) off) in
      narrow.same k a none ∙ closed k a lt exists ∙ rw (none, no_touch) refl;
}
  where
    begin : IsBeginning p (shipment_at p k) (kept_of kept k)
    begin = IsBeginning-kept p kept k are

    shut_so : (a : ℕ) → a < length p.arcs → list_has (arcs_of (kept_of kept k)) a ≡ false → list_any (touches p a) (kept_of kept k) ≡ true → windows k a ≡ None
    shut_so a exists none some = narrow.same k a none ∙ closed k a lt exists ∙ rw (none, some) refl

-- with the windows of the problem as the others, it is the row of the kept windows
pub IsKeptRow-row : (p : Problem) (legs : List Leg) (k : ℕ) (base : ℕ → ℕ → Option Window) (windows : ℕ → Option Window) → AreWindows p base → k < length p.shipments →
    IsRowFrom p legs (base k) windows → IsKeptRow p (shipment_at p k) legs windows
IsKeptRow-row p legs k base windows are lt row = record {
  kept = row.kept;
  leaving = row.leaving;
  entering = row.entering;
  other = λ a exists off.
      subst (IsWindowOrNone p (shipment_at p k) a) (sym (row.other a exists off))
      (AllFrom-get_or_zero (λ i (s : Shipment). (b : ℕ) → b < length p.arcs → IsWindowOrNone p s b (base i b)) p.shipments no_shipment k are lt a exists);
}

-- the anchor of a narrowed window is the place of the kept leg
pub anchor-place : (p : Problem) (table : WindowTable) (x : Kept) → BelongsTo p table → x.arc < length p.arcs → slice_index table.tails x.arc ≡ (arc_at p x.arc).from
anchor-place p table x belongs lt = ap (λ (tails : List ℕ). slice_index tails x.arc) belongs.tails ∙ get_or-map tail_of p.arcs x.arc no_arc 0 lt

-- the arcs that kept legs shut off, by the kept legs themselves
pub shut-kept : (p : Problem) (kept : List Kept) (count : ℕ) (beginnings others : List (List Leg)) (base shut : ℕ → ℕ → Option Window) → AreBeginnings kept count beginnings →
    others ≡ beginnings → count ≡ length p.shipments →
    ((k a : ℕ) → k < length p.shipments → a < length p.arcs → shut k a ≡ cond (shut_off p (route_at others k) a) None (base k a)) →
    (k a : ℕ) → k < length p.shipments → a < length p.arcs → shut k a ≡ cond (shut_off p (kept_of kept k) a) None (base k a)
shut-kept p kept count beginnings others base shut are same all rows k a lt exists =
    rows k a lt exists
    ∙ ap (λ (lists : List (List Leg)). cond (shut_off p (route_at lists k) a) None (base k a)) same
    ∙ ap (λ (legs : List Leg). cond (shut_off p legs a) None (base k a)) (are.exact k (omega (arith, lt, all)))

-- where some plan keeps the legs each of them leaves within its window, and is not shut off
pub CanNarrowAll-kept : (p : Problem) (kept : List Kept) (base : ℕ → ℕ → Option Window) (table : WindowTable) → AreKept p kept → CanBeKept p kept → CoverPlans p base →
    ((k a : ℕ) → k < length p.shipments → a < length p.arcs → windows_in table k a ≡ cond (shut_off p (kept_of kept k) a) None (base k a)) → CanNarrowAll kept table
CanNarrowAll-kept p kept base table are can covers rows i lt =
    let x : Kept = slice_index_or kept i no_kept in
    let k : ℕ = x.shipment in
    let d : ℕ = can.0 in
    let routes : List (List Leg) = can.1 in
    let exists : CanKeep p (take i kept) x = are i lt in
    let there : k < length routes = omega (arith, exists.shipment, AllZip-long (Carries p d) p.shipments routes can.3) in
    let within : LiesWithin base d k (route_at routes k) = AllFrom-get_or_zero (LiesWithin base d) routes [] k (covers d routes can.2 can.3) there in
    let begin : BeginWith d (kept_of kept k) (route_at routes k) = AllFrom-get_or_zero (λ j legs. BeginWith d (kept_of kept j) legs) routes [] k can.4 there in
    let P : Leg → Type 0 = λ (l : Leg). IsSomeAnd (base k l.arc) (λ w. (w.lo ≤ l.depart) × (l.depart ≤ l.depart) × (l.depart ≤ w.hi)) in
    let fits : P (leg_of x) = each-kept P kept i lt (kept-fits base d k (kept_of kept k) (route_at routes k) can.2 begin within) in
    let same : windows_in table k x.arc ≡ base k x.arc =
    rows k x.arc exists.shipment exists.arc ∙ ap (λ b. cond (not b && list_any (touches p x.arc) (kept_of kept k)) None (base k x.arc)) (kept-has kept i lt) in
    subst (λ (o : Option Window). IsSomeAnd o (λ w. (w.lo ≤ x.depart) × (x.depart ≤ x.depart) × (x.depart ≤ w.hi))) (sym same) fits

-- a kept leg that has not been narrowed yet still can be
pub CanNarrow-next : (p : Problem) (kept : List Kept) (i : ℕ) (before table : WindowTable) → i < length kept → AreKept p kept → CanNarrowAll kept before →
    AreNarrow (take i kept) (windows_in before) (windows_in table) →
    CanNarrow table (slice_index_or kept i no_kept).shipment (slice_index_or kept i no_kept).arc (slice_index_or kept i no_kept).depart (slice_index_or kept i no_kept).depart
CanNarrow-next p kept i before table lt are can narrow =
    let x : Kept = slice_index_or kept i no_kept in
    let same : windows_in table x.shipment x.arc ≡ windows_in before x.shipment x.arc = narrow.same x.shipment x.arc (fresh-arc p (take i kept) x (are i lt)) in
    subst (λ (o : Option Window). IsSomeAnd o (λ w. (w.lo ≤ x.depart) × (x.depart ≤ x.depart) × (x.depart ≤ w.hi))) (sym same) (can i lt)
