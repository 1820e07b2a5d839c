-- An instance has one table of windows.
use Rattle.std.proofs.Common.{◌≡◌, ℕ, ◌+◌, ◌<◌, List, [], length, refl, sym, ap, ◌∙◌, arith, rules}
use Rattle.std.specs.Prelude.{Option, Some, None, All, slice_index_or}
use Rattle.std.proofs.lemmas.List.{ext_get_or}
use Rattle.fp_base_lists.proofs.Numbered.{AllFrom-get_or_zero}
use Rattle.fp_model.specs.declared.parts.Shipment.{Shipment}
use Rattle.fp_model.specs.Numbered.{no_shipment, shipment_at}
use Rattle.fp_model.specs.Problem.{Problem, arc_at}
use Rattle.fp_flatnet.specs.declared.window_tables.Window.{Window}
use Rattle.fp_flatnet.specs.Belonging.{BelongsTo}
use Rattle.fp_flatnet.specs.Tables.{WindowTable, windows_in}
use Rattle.fp_flatnet.specs.Windows.{IsWindow, IsWindowOrNone, time_after, time_before}
use Rattle.fp_flatnet.proofs.LeastWalks.{IsLeastTime-unique}
use Rattle.fp_app.specs.Checks.{AreWindowsOf}

-- a shipment and an arc have one window
IsWindow_unique : (p : Problem) (s : Shipment) (a : ℕ) (v w : Window) → IsWindow p s a v → IsWindow p s a w → v ≡ w
IsWindow_unique p s a v w one two =
    let before : one.before ≡ two.before = IsLeastTime-unique p s.from (arc_at p a).from one.before two.before one.to_tail two.to_tail in
    let after : one.after ≡ two.after = IsLeastTime-unique p (arc_at p a).to s.to one.after two.after one.from_head two.from_head in
    let begins : time_before p s a one.before ≡ time_before p s a two.before = ap (time_before p s a) before in
    let ends : time_after p s a one.after ≡ time_after p s a two.after = ap (time_after p s a) after in
    let lo : v.lo ≡ w.lo = one.lo ∙ ap (λ (n : ℕ). s.release + n) begins ∙ sym two.lo in
    let hi : v.hi ≡ w.hi = same-rest v.hi w.hi (time_after p s a one.after) (time_after p s a two.after) s.due one.hi two.hi ends in
    same-parts v w lo hi
  where
    same-rest : (x y t u n : ℕ) → x + t ≡ n → y + u ≡ n → t ≡ u → x ≡ y
    same-rest x y t u n one two same = omega (arith, one, two, same)

    same-parts : (v w : Window) → v.lo ≡ w.lo → v.hi ≡ w.hi → v ≡ w
    same-parts v w lo hi = ap (λ (n : ℕ). record { lo = n; hi = v.hi }) lo ∙ ap (λ (n : ℕ). record { lo = w.lo; hi = n }) hi

-- or none
pub IsWindowOrNone_unique : (p : Problem) (s : Shipment) (a : ℕ) (o q : Option Window) → IsWindowOrNone p s a o → IsWindowOrNone p s a q → o ≡ q
IsWindowOrNone_unique p s a None None one two = refl
IsWindowOrNone_unique p s a None (Some w) one two = absurd (one w two)
IsWindowOrNone_unique p s a (Some v) None one two = absurd (two v one)
IsWindowOrNone_unique p s a (Some v) (Some w) one two = ap Some (IsWindow_unique p s a v w one two)

-- two tables have the same entry for a shipment and an arc
windows_in_same : (p : Problem) (one two : WindowTable) → AreWindowsOf p one → AreWindowsOf p two → (k a : ℕ) → k < length p.shipments → a < length p.arcs →
    windows_in one k a ≡ windows_in two k a
windows_in_same p one two first second k a ship arc =
    IsWindowOrNone_unique p (shipment_at p k) a (windows_in one k a) (windows_in two k a)
    (AllFrom-get_or_zero (λ (k : ℕ) (s : Shipment). (a : ℕ) → a < length p.arcs → IsWindowOrNone p s a (windows_in one k a)) p.shipments no_shipment k first.exact ship a arc)
    (AllFrom-get_or_zero (λ (k : ℕ) (s : Shipment). (a : ℕ) → a < length p.arcs → IsWindowOrNone p s a (windows_in two k a)) p.shipments no_shipment k second.exact ship a arc)

-- the row of a shipment is as long as there are arcs
length-row : (p : Problem) (table : WindowTable) → BelongsTo p table → (k : ℕ) → k < length p.shipments → length (slice_index_or table.rows k []) ≡ length p.arcs
length-row p table belongs k ship = long table.rows k belongs.arcs (omega (arith, ship, belongs.shipments))
  where
    long : (rows : List (List (Option Window))) (k : ℕ) → All (λ row. length row ≡ length p.arcs) rows → k < length rows → length (slice_index_or rows k []) ≡ length p.arcs
    long rows k all lt = search rules

-- tables of an instance are one that have the same windows and the same anchors
pub same-tables : (p : Problem) (one two : WindowTable) → BelongsTo p one → BelongsTo p two → one.anchors ≡ two.anchors →
    ((k a : ℕ) → k < length p.shipments → a < length p.arcs → windows_in one k a ≡ windows_in two k a) → one ≡ two
same-tables p one two first second anchors same =
    let long : length one.rows ≡ length two.rows = omega (arith, first.shipments, second.shipments) in
    let rows : one.rows ≡ two.rows = ext_get_or [] one.rows two.rows long (λ k lt.
    let ship : k < length p.shipments = omega (arith, lt, first.shipments) in
    ext_get_or None (slice_index_or one.rows k []) (slice_index_or two.rows k [])
    (length-row p one first k ship ∙ sym (length-row p two second k ship))
    (λ a at. same k a ship (omega (arith, at, length-row p one first k ship)))) in
    same-table one two (first.tails ∙ sym second.tails) rows anchors
  where
    same-table : (one two : WindowTable) → one.tails ≡ two.tails → one.rows ≡ two.rows → one.anchors ≡ two.anchors → one ≡ two
    same-table one two tails rows anchors =
        ap (λ (x : List ℕ). record one { tails = x }) tails
        ∙ ap (λ (x : List (List (Option Window))). record two { rows = x; anchors = one.anchors }) rows
        ∙ ap (λ x. record two { anchors = x }) anchors

-- so the tables of its windows are one
pub AreWindowsOf_unique : (p : Problem) (one two : WindowTable) → AreWindowsOf p one → AreWindowsOf p two → one ≡ two
AreWindowsOf_unique p one two first second =
    same-tables p one two first.belongs second.belongs (first.unanchored ∙ sym second.unanchored) (windows_in_same p one two first second)
