-- Windows that belong to an instance still do after a window is narrowed or closed.
use Rattle.std.proofs.Common.{◌≡◌, ◌≢◌, ℕ, ◌≤◌, ◌<◌, true, false, List, [], ◌∷◌, ◌++◌, Some, None, Option, length, refl, sym, ap, ◌∙◌, subst, arith, ⊎_elim, length-append, length-set}
use Rattle.std.specs.Prelude.{slice_index, slice_index_or, slice_set, nat_eq, All, Contains, IsSomeAnd, IfSome}
use Rattle.std.proofs.lemmas.Bool.Decides.{eqb_tells}
use Rattle.std.proofs.lemmas.List.{get_or-map, length-map}
use Rattle.std.proofs.lemmas.List.Elements.{All-push, All-set, Contains-append_left, Contains-append_right}
use Rattle.fp_model.specs.declared.parts.Shipment.{Shipment}
use Rattle.fp_model.specs.Numbered.{no_shipment, shipment_at}
use Rattle.fp_model.specs.Problem.{Problem, no_arc, arc_at}
use Rattle.fp_timenodes.specs.declared.places.Place.{Place}
use Rattle.fp_timenodes.specs.Points.{IsPlace}
use Rattle.fp_flatnet.specs.declared.window_tables.TheConstants.{MOST_ANCHORS}
use Rattle.fp_flatnet.specs.declared.window_tables.Window.{Window}
use Rattle.fp_flatnet.specs.Belonging.{BelongsTo, IsNarrowed}
use Rattle.fp_flatnet.specs.Tables.{WindowTable, CanNarrow, tail_of, windows_in, with_entry, narrowed, closed}
use Rattle.fp_flatnet.proofs.WindowEntries.{entry-exists, entry-set_same, entry-set_other}

-- what was narrowed still is where there are more anchors
more-anchors : (p : Problem) (s : Shipment) (a : ℕ) (anchors others : List Place) (o : Option Window) → ((x : Place) → Contains anchors x → Contains others x) →
    IfSome o (IsNarrowed p s a anchors) → IfSome o (IsNarrowed p s a others)
more-anchors p s a anchors others None keeps is = tt
more-anchors p s a anchors others (Some w) keeps is = record {
  wide = is.wide;
  is_window = is.is_window;
  lo = is.lo;
  some = is.some;
  hi = is.hi;
  anchored = λ later. keeps (record { terminal = (arc_at p a).from; at = w.lo }) (is.anchored later);
}

-- a table with another entry, whose window has its anchor, belongs too
BelongsTo-with_entry : (p : Problem) (table : WindowTable) (k a : ℕ) (o : Option Window) (anchors : List Place) → BelongsTo p table → k < length table.rows → a < length (slice_index_or table.rows k []) →
    ((x : Place) → Contains table.anchors x → Contains anchors x) → length anchors ≤ MOST_ANCHORS → All (IsPlace (length p.terminals)) anchors →
    IfSome o (IsNarrowed p (shipment_at p k) a anchors) → BelongsTo p (record { tails = table.tails; rows = with_entry table.rows k a o; anchors = anchors })
BelongsTo-with_entry p table k a o anchors belongs shipment arc keeps few places new =
    let row : List (Option Window) = slice_index_or table.rows k [] in
    let long : length (slice_set row a o) ≡ length p.arcs = length-set row a o ∙ belongs.arcs k [] shipment in record {
      valid = belongs.valid;
      tails = belongs.tails;
      shipments = length-set table.rows k (slice_set row a o) ∙ belongs.shipments;
      arcs = All-set (λ (r : List (Option Window)). length r ≡ length p.arcs) table.rows k (slice_set row a o) long belongs.arcs;
      narrowed = each;
      few_anchors = few;
      places = places;
    }
  where
    each : (l b : ℕ) → l < length p.shipments → b < length p.arcs →
        IfSome (slice_index_or (slice_index_or (with_entry table.rows k a o) l []) b None) (IsNarrowed p (shipment_at p l) b anchors)
    each l b l_lt b_lt =
        let other : ((l ≡ k) × (b ≡ a) → ⊥) → IfSome (slice_index_or (slice_index_or (with_entry table.rows k a o) l []) b None) (IsNarrowed p (shipment_at p l) b anchors) =
        λ apart.
        subst (λ (x : Option Window). IfSome x (IsNarrowed p (shipment_at p l) b anchors)) (sym (entry-set_other table.rows k a l b o shipment apart))
        (more-anchors p (shipment_at p l) b table.anchors anchors (windows_in table l b) keeps (belongs.narrowed l b l_lt b_lt)) in
        ⊎_elim
        (λ (row : (nat_eq l k ≡ true) × (l ≡ k)).
        ⊎_elim
        (λ (entry : (nat_eq b a ≡ true) × (b ≡ a)).
        let P : ℕ → ℕ → Type 0 = λ m c. IfSome (slice_index_or (slice_index_or (with_entry table.rows k a o) m []) c None) (IsNarrowed p (shipment_at p m) c anchors) in
        let here : P k a = subst (λ (x : Option Window). IfSome x (IsNarrowed p (shipment_at p k) a anchors)) (sym (entry-set_same table.rows k a o shipment arc)) new in
        subst (λ (m : ℕ). P m b) (sym row.1) (subst (λ (c : ℕ). P k c) (sym entry.1) here))
        (λ (entry : (nat_eq b a ≡ false) × (b ≢ a)). other (λ same. entry.1 same.1))
        (eqb_tells b a))
        (λ (row : (nat_eq l k ≡ false) × (l ≢ k)). other (λ same. row.1 same.0))
        (eqb_tells l k)

-- a window that was narrowed once more, with its start an anchor
narrowed-more : (p : Problem) (s : Shipment) (a lo hi : ℕ) (anchors : List Place) (tail : ℕ) (o : Option Window) → tail ≡ (arc_at p a).from →
    IsSomeAnd o (λ w. (w.lo ≤ lo) × (lo ≤ hi) × (hi ≤ w.hi)) → IfSome o (IsNarrowed p s a anchors) →
    IsNarrowed p s a (anchors ++ (record { terminal = tail; at = lo } ∷ [])) (record { lo = lo; hi = hi })
narrowed-more p s a lo hi anchors tail None same can is = absurd can
narrowed-more p s a lo hi anchors tail (Some w) same can is = record {
  wide = is.wide;
  is_window = is.is_window;
  lo = omega (arith, is.lo, can.0);
  some = can.1;
  hi = omega (arith, is.hi, can.2);
  anchored = λ later.
      let place : ℕ → Place = λ terminal. record { terminal = terminal; at = lo } in
      let there : Contains (place tail ∷ []) (place tail) = (0, omega arith, refl) in
      subst (λ (t : ℕ). Contains (anchors ++ (place tail ∷ [])) (place t)) same (Contains-append_right anchors (place tail ∷ []) (place tail) there);
}

-- a narrowed window begins before the due time
narrowed-due : (p : Problem) (s : Shipment) (a lo hi : ℕ) (anchors : List Place) (o : Option Window) →
    IsSomeAnd o (λ w. (w.lo ≤ lo) × (lo ≤ hi) × (hi ≤ w.hi)) → IfSome o (IsNarrowed p s a anchors) → lo ≤ s.due
narrowed-due p s a lo hi anchors None can is = absurd can
narrowed-due p s a lo hi anchors (Some w) can is = omega (arith, can.1, can.2, is.hi, is.is_window.hi)

pub BelongsTo-narrowed : (p : Problem) (table : WindowTable) (k a lo hi : ℕ) → BelongsTo p table → CanNarrow table k a lo hi → length table.anchors < MOST_ANCHORS →
    BelongsTo p (narrowed table k a lo hi)
BelongsTo-narrowed p table k a lo hi belongs can few =
    let there = entry-exists table k a (λ w. (w.lo ≤ lo) × (lo ≤ hi) × (hi ≤ w.hi)) can in
    let shipment : k < length p.shipments = omega (arith, there.0, belongs.shipments) in
    let arc : a < length p.arcs = omega (arith, there.1, belongs.arcs k [] there.0) in
    let tail : slice_index table.tails a ≡ (arc_at p a).from =
    ap (λ (tails : List ℕ). slice_index tails a) belongs.tails ∙ get_or-map tail_of p.arcs a no_arc 0 arc in
    let was : IfSome (windows_in table k a) (IsNarrowed p (shipment_at p k) a table.anchors) = belongs.narrowed k a shipment arc in
    let anchor : Place = record { terminal = slice_index table.tails a; at = lo } in
    let in_time : lo ≤ (shipment_at p k).due = narrowed-due p (shipment_at p k) a lo hi table.anchors (windows_in table k a) can was in
    let is_place : IsPlace (length p.terminals) anchor = (
      omega (arith, tail, (belongs.valid.parts.arcs a no_arc arc).from),
      omega (arith, in_time, (belongs.valid.parts.shipments k no_shipment shipment).within.due),
    ) in
    BelongsTo-with_entry p table k a (Some (record { lo = lo; hi = hi })) (table.anchors ++ (anchor ∷ [])) belongs there.0 there.1
    (λ x contains. Contains-append_left table.anchors (anchor ∷ []) x contains)
    (omega (arith, few, length-append table.anchors (anchor ∷ [])))
    (All-push (IsPlace (length p.terminals)) table.anchors anchor belongs.places is_place)
    (narrowed-more p (shipment_at p k) a lo hi table.anchors (slice_index table.tails a) (windows_in table k a) tail can was)

-- the rows of windows that belong are as long as their tails
belonging-row : (p : Problem) (table : WindowTable) (k a : ℕ) → BelongsTo p table → k < length table.rows → a < length table.tails → a < length (slice_index_or table.rows k [])
belonging-row p table k a belongs shipment arc =
    let tails : length table.tails ≡ length p.arcs = ap (λ (xs : List ℕ). length xs) belongs.tails ∙ length-map p.arcs tail_of in
    omega (arith, arc, tails, belongs.arcs k [] shipment)

pub BelongsTo-closed : (p : Problem) (table : WindowTable) (k a : ℕ) → BelongsTo p table → k < length table.rows → a < length table.tails → BelongsTo p (closed table k a)
BelongsTo-closed p table k a belongs shipment arc =
    BelongsTo-with_entry p table k a None table.anchors belongs shipment (belonging-row p table k a belongs shipment arc) (λ x contains. contains) belongs.few_anchors belongs.places tt
