-- The windows made of the rows of all shipments.
use Rattle.std.proofs.Common.{◌≡◌, ℕ, ◌+◌, ◌<◌, List, [], Some, None, Option, length, map, refl, sym, ap, ◌∙◌, subst, arith, le_refl}
use Rattle.std.specs.Prelude.{slice_index_or, IfSome}
use Rattle.std.specs.declared.alloc.Global.{Global}
use Rattle.std.specs.declared.vec.Vec.{Vec}
use Rattle.std.proofs.lemmas.List.{get_or-map, get_or_default, length-map}
use Rattle.std.proofs.lemmas.List.Elements.{All-nil}
use Rattle.fp_model.specs.declared.parts.Shipment.{Shipment}
use Rattle.fp_model.specs.Numbered.{no_shipment, shipment_at}
use Rattle.fp_model.specs.Problem.{Problem, IsValid}
use Rattle.fp_base_lists.proofs.Numbered.{AllFrom-from_get_or}
use Rattle.fp_timenodes.specs.declared.places.Place.{Place}
use Rattle.fp_timenodes.specs.Points.{IsPlace}
use Rattle.fp_flatnet.specs.declared.window_tables.Window.{Window}
use Rattle.fp_flatnet.specs.Belonging.{AreNarrower, BelongsTo, IsNarrowed}
use Rattle.fp_flatnet.specs.Tables.{WindowTable, AreFull, tail_of, windows_in, row_lists}
use Rattle.fp_flatnet.specs.Windows.{AreWindows, AreWindowRows, IsWindowOrNone, IsWindowRow}
use Rattle.fp_flatnet.proofs.WindowEntries.{length-row_lists}

-- such rows are full
pub AreFull-window_rows : (p : Problem) (tails : List ℕ) (rows : List (Vec (Option Window) Global)) → AreWindowRows p (row_lists rows) → tails ≡ map tail_of p.arcs → AreFull tails rows
AreFull-window_rows p tails rows are same =
    λ k d lt.
    let there : k < length p.shipments = omega (arith, lt, are.one_each, length-row_lists rows) in
    let row : IsWindowRow p (shipment_at p k) (slice_index_or (row_lists rows) k []) = are.exact k there in
    let items : Vec (Option Window) Global → List (Option Window) = λ r. r.items in
    let here : slice_index_or (row_lists rows) k [] ≡ (slice_index_or rows k d).items = get_or-map items rows k d [] lt in
    ap (λ (r : List (Option Window)). length r) (sym here) ∙ row.one_each ∙ sym (length-map p.arcs tail_of) ∙ ap (λ (ts : List ℕ). length ts) (sym same)

-- and so are rows of an instance that are narrower
pub AreFull-narrower : (p : Problem) (tails : List ℕ) (rows : List (Vec (Option Window) Global)) → AreNarrower p (row_lists rows) → tails ≡ map tail_of p.arcs → AreFull tails rows
AreFull-narrower p tails rows are same =
    λ k d lt.
    let items : Vec (Option Window) Global → List (Option Window) = λ r. r.items in
    let there : k < length (row_lists rows) = omega (arith, lt, length-row_lists rows) in
    let here : slice_index_or (row_lists rows) k [] ≡ (slice_index_or rows k d).items = get_or-map items rows k d [] lt in
    ap (λ (r : List (Option Window)). length r) (sym here) ∙ are.arcs k [] there ∙ sym (length-map p.arcs tail_of) ∙ ap (λ (ts : List ℕ). length ts) (sym same)

-- the rows of all shipments tell the windows of the problem
pub AreWindows-window_rows : (p : Problem) (table : WindowTable) → AreWindowRows p table.rows → AreWindows p (windows_in table)
AreWindows-window_rows p table are =
    AllFrom-from_get_or (λ k (s : Shipment). (a : ℕ) → a < length p.arcs → IsWindowOrNone p s a (windows_in table k a)) p.shipments no_shipment 0
    (λ k lt.
    let same : k ≡ 0 + k = omega arith in
    subst (λ (n : ℕ). (a : ℕ) → a < length p.arcs → IsWindowOrNone p (shipment_at p k) a (windows_in table n a)) same (λ a there. (are.exact k lt).exact a there))

-- a window of the problem lies inside itself
itself : (p : Problem) (s : Shipment) (a : ℕ) (anchors : List Place) (o : Option Window) → IsWindowOrNone p s a o → IfSome o (IsNarrowed p s a anchors)
itself p s a anchors None is = tt
itself p s a anchors (Some w) is = record {
  wide = w;
  is_window = is;
  lo = le_refl w.lo;
  some = is.some;
  hi = le_refl w.hi;
  anchored = λ later. absurd (later refl);
}

-- they belong to the instance
pub BelongsTo-window_rows : (p : Problem) (table : WindowTable) → IsValid p → AreWindowRows p table.rows → table.tails ≡ map tail_of p.arcs → table.anchors ≡ [] → BelongsTo p table
BelongsTo-window_rows p table valid are same none = record {
  valid = valid;
  tails = same;
  shipments = are.one_each;
  arcs = λ k d lt.
      let there : k < length p.shipments = omega (arith, lt, are.one_each) in
      subst (λ (r : List (Option Window)). length r ≡ length p.arcs) (get_or_default table.rows k [] d lt) (are.exact k there).one_each;
  narrowed = λ k a k_lt a_lt. itself p (shipment_at p k) a table.anchors (windows_in table k a) ((are.exact k k_lt).exact a a_lt);
  few_anchors = rw none (omega arith);
  places = rw none (All-nil (IsPlace (length p.terminals)));
}
