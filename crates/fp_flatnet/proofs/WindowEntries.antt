-- Entries of a table of windows, and what stays where one is changed.
use Rattle.std.proofs.Common.{◌≡◌, ◌≢◌, ℕ, ◌≤◌, ◌<◌, true, false, List, [], ◌∷◌, None, Option, length, refl, sym, ap, ◌∙◌, subst, arith, ⊎_elim, get_or-set_other, get_or-set_same}
use Rattle.std.specs.Prelude.{slice_index_or, slice_set, nat_eq, IsSomeAnd}
use Rattle.std.specs.declared.alloc.Global.{Global}
use Rattle.std.specs.declared.vec.Vec.{Vec}
use Rattle.std.specs.Vec.{with_item}
use Rattle.std.proofs.lemmas.Bool.{cases_lt}
use Rattle.std.proofs.lemmas.Bool.Decides.{eqb_tells}
use Rattle.std.proofs.lemmas.List.{get_or-map, get_or_past, map-set}
use Rattle.fp_timenodes.specs.declared.places.Place.{Place}
use Rattle.fp_flatnet.specs.declared.window_tables.Window.{Window}
use Rattle.fp_flatnet.specs.Tables.{WindowTable, AreFull, CanNarrow, windows_in, with_entry, row_lists}

-- setting an entry of the rows, and what it does to them as lists
pub row_lists-set : (rows : List (Vec (Option Window) Global)) (k a : ℕ) (o : Option Window) (v : Vec (Option Window) Global) → k < length rows →
    row_lists (slice_set rows k (with_item (slice_index_or rows k v) a o)) ≡ with_entry (row_lists rows) k a o
row_lists-set rows k a o v lt =
    let items : Vec (Option Window) Global → List (Option Window) = λ r. r.items in
    map-set items rows k (with_item (slice_index_or rows k v) a o)
    ∙ ap (λ (row : List (Option Window)). slice_set (row_lists rows) k (slice_set row a o)) (sym (get_or-map items rows k v [] lt))

-- full rows as lists
full-row : (tails : List ℕ) (rows : List (Vec (Option Window) Global)) (k : ℕ) (v : Vec (Option Window) Global) → AreFull tails rows → k < length rows →
    length (slice_index_or (row_lists rows) k []) ≡ length tails
full-row tails rows k v full lt =
    let items : Vec (Option Window) Global → List (Option Window) = λ r. r.items in
    ap (λ (row : List (Option Window)). length row) (get_or-map items rows k v [] lt) ∙ full k v lt

-- what has an entry exists
pub entry-exists : (table : WindowTable) (k a : ℕ) (P : Window → Type 0) → IsSomeAnd (windows_in table k a) P →
    (k < length table.rows) × (a < length (slice_index_or table.rows k []))
entry-exists table k a P some =
    let row : List (Option Window) = slice_index_or table.rows k [] in
    let arc : a < length row =
    ⊎_elim
    (λ (lt : a < length row). lt)
    (λ (past : length row ≤ a).
    let none : windows_in table k a ≡ None = get_or_past row a None past in
    absurd (subst (λ (o : Option Window). IsSomeAnd o P) none some))
    (cases_lt a (length row)) in
    let shipment : k < length table.rows =
    ⊎_elim
    (λ (lt : k < length table.rows). lt)
    (λ (past : length table.rows ≤ k).
    let none : length row ≡ 0 = ap (λ (r : List (Option Window)). length r) (get_or_past table.rows k [] past) in
    absurd (omega (arith, none, arc)))
    (cases_lt k (length table.rows)) in
    (shipment, arc)

-- the entry that was set
pub entry-set_same : (rows : List (List (Option Window))) (k a : ℕ) (o : Option Window) → k < length rows → a < length (slice_index_or rows k []) →
    slice_index_or (slice_index_or (with_entry rows k a o) k []) a None ≡ o
entry-set_same rows k a o shipment arc =
    ap (λ (row : List (Option Window)). slice_index_or row a None) (get_or-set_same rows k (slice_set (slice_index_or rows k []) a o) [] shipment)
    ∙ get_or-set_same (slice_index_or rows k []) a o None arc

-- each other entry stays
pub entry-set_other : (rows : List (List (Option Window))) (k a l b : ℕ) (o : Option Window) → k < length rows → ((l ≡ k) × (b ≡ a) → ⊥) →
    slice_index_or (slice_index_or (with_entry rows k a o) l []) b None ≡ slice_index_or (slice_index_or rows l []) b None
entry-set_other rows k a l b o shipment apart =
    ⊎_elim
    (λ (here : (nat_eq l k ≡ true) × (l ≡ k)).
    let other : b ≢ a = λ e. apart (here.1, e) in
    let row : slice_index_or (with_entry rows k a o) l [] ≡ slice_set (slice_index_or rows k []) a o =
    ap (λ (n : ℕ). slice_index_or (with_entry rows k a o) n []) here.1 ∙ get_or-set_same rows k (slice_set (slice_index_or rows k []) a o) [] shipment in
    ap (λ (r : List (Option Window)). slice_index_or r b None) row
    ∙ get_or-set_other (slice_index_or rows k []) a b o None other
    ∙ ap (λ (n : ℕ). slice_index_or (slice_index_or rows n []) b None) (sym here.1))
    (λ (there : (nat_eq l k ≡ false) × (l ≢ k)).
    ap (λ (r : List (Option Window)). slice_index_or r b None) (get_or-set_other rows k l (slice_set (slice_index_or rows k []) a o) [] there.1))
    (eqb_tells l k)

-- full rows as a table
abbrev pub table_of : List ℕ → List (Vec (Option Window) Global) → List Place → WindowTable
table_of tails rows anchors = record { tails = tails; rows = row_lists rows; anchors = anchors }

pub length-row_lists : (rows : List (Vec (Option Window) Global)) → length (row_lists rows) ≡ length rows
length-row_lists [] = refl
length-row_lists (r ∷ rows) = omega (arith, length-row_lists rows)

-- each row of full rows, as a list, is as long as the tails
pub full-rows : (tails : List ℕ) (rows : List (Vec (Option Window) Global)) → AreFull tails rows → (k : ℕ) → k < length rows → length (slice_index_or (row_lists rows) k []) ≡ length tails
full-rows tails [] full k lt = absurd (omega (arith, lt))
full-rows tails (r ∷ rows) full k lt = full-row tails (r ∷ rows) k r full lt

-- where a window can be narrowed there are the shipment and the arc
pub can_narrow-exists : (tails : List ℕ) (rows : List (Vec (Option Window) Global)) (anchors : List Place) (k a lo hi : ℕ) → AreFull tails rows →
    CanNarrow (table_of tails rows anchors) k a lo hi → (k < length rows) × (a < length (slice_index_or (row_lists rows) k [])) × (a < length tails)
can_narrow-exists tails rows anchors k a lo hi full can =
    let there = entry-exists (table_of tails rows anchors) k a (λ w. (w.lo ≤ lo) × (lo ≤ hi) × (hi ≤ w.hi)) can in
    let shipment : k < length rows = omega (arith, there.0, length-row_lists rows) in
    (shipment, there.1, omega (arith, there.1, full-rows tails rows full k shipment))
