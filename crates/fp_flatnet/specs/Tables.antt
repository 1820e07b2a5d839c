-- Windows as a table, with the places at which narrowed windows begin.
use Rattle.std.specs.Prelude.{ℕ, ◌≡◌, ◌≤◌, List, [], ◌∷◌, ◌++◌, length, map, Option, Some, None, All, IsSomeAnd, slice_index, slice_index_or, slice_set}
use Rattle.std.specs.declared.alloc.Global.{Global}
use Rattle.std.specs.declared.vec.Vec.{Vec}
use Rattle.fp_model.specs.declared.parts.Arc.{Arc}
use Rattle.fp_timenodes.specs.declared.places.Place.{Place}
use Rattle.fp_flatnet.specs.declared.window_tables.Window.{Window}

-- the tails of the arcs, for each shipment a row with each arc's window if there is one, and the
-- anchors
pub record WindowTable : Type 0 where
  pub tails : List ℕ
  pub rows : List (List (Option Window))
  pub anchors : List Place

-- the tail of an arc
abbrev pub tail_of : Arc → ℕ
tail_of arc = arc.from

-- rows as lists
abbrev pub row_lists : List (Vec (Option Window) Global) → List (List (Option Window))
row_lists rows = map (λ (r : Vec (Option Window) Global). r.items) rows

-- each row has as many entries as there are tails
abbrev pub AreFull : List ℕ → List (Vec (Option Window) Global) → Type 0
AreFull tails rows = All (λ (r : Vec (Option Window) Global). length r.items ≡ length tails) rows

-- the window of a shipment and an arc, and none where there is no such shipment or arc
abbrev pub windows_in : WindowTable → ℕ → ℕ → Option Window
windows_in table k a = slice_index_or (slice_index_or table.rows k []) a None

-- rows in which one entry is another one
abbrev pub with_entry : List (List (Option Window)) → ℕ → ℕ → Option Window → List (List (Option Window))
with_entry rows k a o = slice_set rows k (slice_set (slice_index_or rows k []) a o)

-- the pair has a window, and the times from lo to hi lie inside it
abbrev pub CanNarrow : WindowTable → ℕ → ℕ → ℕ → ℕ → Type 0
CanNarrow table k a lo hi = IsSomeAnd (windows_in table k a) (λ w. (w.lo ≤ lo) × (lo ≤ hi) × (hi ≤ w.hi))

-- the table with the window of a pair narrowed, and its start an anchor at the arc's tail
abbrev pub narrowed : WindowTable → ℕ → ℕ → ℕ → ℕ → WindowTable
narrowed table k a lo hi = record table {
  rows = with_entry table.rows k a (Some (record { lo = lo; hi = hi }));
  anchors = table.anchors ++ (record { terminal = slice_index table.tails a; at = lo } ∷ []);
}

-- the table with no window for a pair
abbrev pub closed : WindowTable → ℕ → ℕ → WindowTable
closed table k a = record table { rows = with_entry table.rows k a None }
