-- What is tested of a single leg line.
use Rattle.std.specs.Prelude.{ℕ, IsSomeAnd, Option}
use Rattle.fp_flatnet.specs.declared.window_tables.Window.{Window}
use Rattle.fp_flatnet.specs.Windows.{IsInside}
use Rattle.fp_timetable.specs.declared.lines.LegLine.{LegLine}

-- a leg leaves within the window of its shipment and its arc
abbrev pub LeavesInside : (ℕ → ℕ → Option Window) → LegLine → Type 0
LeavesInside windows l = IsSomeAnd (windows l.shipment l.arc) (IsInside 1 l.depart)
