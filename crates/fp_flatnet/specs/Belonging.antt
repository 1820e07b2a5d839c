-- Tables of windows that fit an instance, and those that belong to it. Windows that belong begin at
-- anchors where they don't begin as the problem's do; windows that only fit need none.
use Rattle.std.specs.Prelude.{ℕ, ◌≡◌, ◌≢◌, ◌≤◌, ◌<◌, List, [], length, map, All, Contains, IfSome, Option, None, slice_index_or}
use Rattle.fp_model.specs.declared.parts.Shipment.{Shipment}
use Rattle.fp_model.specs.Numbered.{shipment_at}
use Rattle.fp_model.specs.Problem.{Problem, IsValid, arc_at}
use Rattle.fp_timenodes.specs.declared.places.Place.{Place}
use Rattle.fp_timenodes.specs.Points.{IsPlace}
use Rattle.fp_flatnet.specs.declared.window_tables.TheConstants.{MOST_ANCHORS}
use Rattle.fp_flatnet.specs.declared.window_tables.Window.{Window}
use Rattle.fp_flatnet.specs.Tables.{WindowTable, tail_of, windows_in}
use Rattle.fp_flatnet.specs.Windows.{IsWindow}

-- a window lies inside the problem's window of the shipment and the arc
pub record IsInsideWindow (p : Problem) (s : Shipment) (a : ℕ) (w : Window) : Type 0 where
  pub wide : Window
  pub is_window : IsWindow p s a wide
  pub lo : wide.lo ≤ w.lo
  pub some : w.lo ≤ w.hi
  pub hi : w.hi ≤ wide.hi

-- rows of windows for an instance: one row a shipment, one entry an arc, and each window inside the
-- problem's
pub record AreNarrower (p : Problem) (rows : List (List (Option Window))) : Type 0 where
  pub shipments : length rows ≡ length p.shipments
  pub arcs : All (λ row. length row ≡ length p.arcs) rows
  pub inside : (k a : ℕ) → k < length p.shipments → a < length p.arcs → IfSome (slice_index_or (slice_index_or rows k []) a None) (IsInsideWindow p (shipment_at p k) a)

-- the windows fit an instance: they have its numbers of shipments and arcs and its arcs' tails, and
-- lie inside the problem's windows
pub record FitsInstance (p : Problem) (table : WindowTable) : Type 0 where
  pub valid : IsValid p
  pub tails : table.tails ≡ map tail_of p.arcs
  pub shipments : length table.rows ≡ length p.shipments
  pub arcs : All (λ row. length row ≡ length p.arcs) table.rows
  pub inside : (k a : ℕ) → k < length p.shipments → a < length p.arcs → IfSome (windows_in table k a) (IsInsideWindow p (shipment_at p k) a)

-- a window lies inside the problem's window of the shipment and the arc, and where it does not
-- begin with that one its start at the arc's tail is an anchor
pub record IsNarrowed (p : Problem) (s : Shipment) (a : ℕ) (anchors : List Place) (w : Window) : Type 0 where
  pub wide : Window
  pub is_window : IsWindow p s a wide
  pub lo : wide.lo ≤ w.lo
  pub some : w.lo ≤ w.hi
  pub hi : w.hi ≤ wide.hi
  pub anchored : w.lo ≢ wide.lo → Contains anchors (record { terminal = (arc_at p a).from; at = w.lo })

-- the windows belong to an instance: they have its numbers of shipments and arcs and its arcs'
-- tails, lie inside the problem's windows, and have at most MOST_ANCHORS anchors, all at terminals
-- of the instance and in time
pub record BelongsTo (p : Problem) (table : WindowTable) : Type 0 where
  pub valid : IsValid p
  pub tails : table.tails ≡ map tail_of p.arcs
  pub shipments : length table.rows ≡ length p.shipments
  pub arcs : All (λ row. length row ≡ length p.arcs) table.rows
  pub narrowed : (k a : ℕ) → k < length p.shipments → a < length p.arcs → IfSome (windows_in table k a) (IsNarrowed p (shipment_at p k) a table.anchors)
  pub few_anchors : length table.anchors ≤ MOST_ANCHORS
  pub places : All (IsPlace (length p.terminals)) table.anchors
