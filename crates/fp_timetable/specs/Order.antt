-- What the code puts in order, and how.
use Rattle.std.specs.Prelude.{ℕ, ◌+◌, ◌-◌, ◌*◌, ◌^◌, ◌<◌, ◌≤◌, ◌≡◌, List, [], ◌∷◌, ◌++◌, ◌||◌, length, map, sum_by, slice_index_or, All, AllPairs, if◌then◌else◌}
use Rattle.std.specs.Int.{div_ceil}
use Rattle.fp_model.specs.declared.parts.Leg.{Leg}
use Rattle.fp_model.specs.Costs.{has_leg, same_leg}
use Rattle.fp_model.specs.Numbered.{shipment_at}
use Rattle.fp_model.specs.Problem.{Problem, arc_at}
use Rattle.fp_timetable.specs.declared.lines.LegLine.{LegLine}
use Rattle.fp_timetable.specs.declared.lines.TruckLine.{TruckLine}
use Rattle.fp_timetable.specs.Lines.{departure, leg_line, line_leg}

-- one number for two 32-bit numbers, in whose order the first counts before the second
abbrev pub rank_of : ℕ → ℕ → ℕ
rank_of first second = first * 2 ^ 32 + second

-- the order of truck lines
abbrev pub truck_rank : TruckLine → ℕ
truck_rank t = rank_of t.depart t.arc

-- the same order of leg lines
abbrev pub departure_rank : LegLine → ℕ
departure_rank l = rank_of l.depart l.arc

-- a leg goes by an arc of the problem and arrives at a time of 32 bits
abbrev pub IsWithin : Problem → Leg → Type 0
IsWithin p l = (l.arc < length p.arcs) × (l.depart + (arc_at p l.arc).time < 2 ^ 32)

-- so does each of the legs
abbrev pub ArriveWithin : Problem → List Leg → Type 0
ArriveWithin p legs = All (IsWithin p) legs

-- the lines of routes that are numbered from i on, by shipment and then by leg
abbrev pub lines_from : Problem → ℕ → List (List Leg) → List LegLine
lines_from p i [] = []
lines_from p i (legs ∷ routes) = map (leg_line p i) legs ++ lines_from p (i + 1) routes

-- a leg line goes by an arc and is of a shipment of the problem
abbrev pub LineExists : Problem → LegLine → Type 0
LineExists p l = (l.arc < length p.arcs) × (l.shipment < length p.shipments)

-- stands for the last of no truck lines
abbrev pub no_line : TruckLine
no_line = record { arc = 0; depart = 0; trucks = 0; load = 0 }

-- the last of truck lines
abbrev pub last_of : List TruckLine → TruckLine
last_of lines = slice_index_or lines (length lines - 1) no_line

-- a truck line is of the departure of a leg line
abbrev pub IsAt : LegLine → TruckLine → Type 0
IsAt l t = (t.depart ≡ l.depart) × (t.arc ≡ l.arc)

-- the last of some truck lines is of the departure of a leg line
abbrev pub EndsAt : LegLine → List TruckLine → Type 0
EndsAt l lines = (0 < length lines) × IsAt l (last_of lines)

-- a truck line is of the departure of a leg line or of one before it, and of an arc of 32 bits
abbrev pub IsNotAfter : LegLine → TruckLine → Type 0
IsNotAfter l t = (truck_rank t ≤ departure_rank l) × (t.arc < 2 ^ 32)

-- what lines carry at a departure
abbrev pub load_on : Leg → List TruckLine → ℕ
load_on k lines = sum_by (λ (t : TruckLine). if same_leg k (departure t) then t.load else 0) lines

-- the sizes of the shipments of the leg lines of a departure
abbrev pub size_on : Problem → Leg → List LegLine → ℕ
size_on p k legs = sum_by (λ (l : LegLine). if same_leg k (line_leg l) then (shipment_at p l.shipment).size else 0) legs

-- what adding a leg of a size to the departures does: its departure is the last one or a new one,
-- and carries as much more
pub record Adds (l : LegLine) (size : ℕ) (old new : List TruckLine) : Type 0 where
  pub loads : (k : Leg) → load_on k new ≡ load_on k old + (if same_leg k (line_leg l) then size else 0)
  pub departures : (k : Leg) → has_leg k (map departure new) ≡ has_leg k (map departure old) || same_leg k (line_leg l)
  pub ascending : l.arc < 2 ^ 32 → All (IsNotAfter l) old → AllPairs (λ (t u : TruckLine). truck_rank t < truck_rank u) old →
      AllPairs (λ (t u : TruckLine). truck_rank t < truck_rank u) new
  pub before : (m : LegLine) → l.arc < 2 ^ 32 → departure_rank l ≤ departure_rank m → All (IsNotAfter m) old → All (IsNotAfter m) new
  pub most : (most : ℕ) → All (λ (t : TruckLine). t.load ≤ most) old → All (λ (t : TruckLine). t.load ≤ most + 2 ^ 64) new

-- truck lines are the departures of leg lines, each once and in order, with what they carry
pub record AreMerged (p : Problem) (legs : List LegLine) (lines : List TruckLine) : Type 0 where
  pub ascending : AllPairs (λ (t u : TruckLine). truck_rank t < truck_rank u) lines
  pub departures : (k : Leg) → has_leg k (map departure lines) ≡ has_leg k (map line_leg legs)
  pub loads : (k : Leg) → load_on k lines ≡ size_on p k legs

-- a line with the trucks that hold its load
abbrev pub with_trucks : Problem → TruckLine → TruckLine
with_trucks p t = record t { trucks = div_ceil t.load (arc_at p t.arc).capacity }
