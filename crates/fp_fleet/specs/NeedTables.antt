-- The trucks that begin at each terminal, and when the last ones do.
use Rattle.std.specs.Prelude.{ℕ, ◌<◌, ◌≤◌, ◌≡◌, ◌==◌, List, length, slice_index_or, sum_by, All, if◌then◌else◌}
use Rattle.fp_model.specs.Problem.{Problem}
use Rattle.fp_timetable.specs.declared.lines.TruckLine.{TruckLine}
use Rattle.fp_fleet.specs.declared.fleets.Begin.{Begin}
use Rattle.fp_fleet.specs.declared.fleets.Need.{Need}
use Rattle.fp_fleet.specs.Rosters.{line_at, tail_of}

-- stands for the need at a place where there is none
abbrev pub no_need : Need
no_need = record { terminal = 0; trucks = 0; at = 0 }

-- the need at a place
abbrev pub need_at : List Need → ℕ → Need
need_at table v = slice_index_or table v no_need

-- stands for the begin at a place where there is none
abbrev pub no_begin : Begin
no_begin = record { line = 0; count = 0 }

-- the terminal of a begin, and its moment
abbrev pub begin_tail : Problem → List TruckLine → Begin → ℕ
begin_tail p lines b = tail_of p (line_at lines b.line)

abbrev pub begin_depart : List TruckLine → Begin → ℕ
begin_depart lines b = (line_at lines b.line).depart

-- the trucks of begins at a terminal
abbrev pub begun_in : Problem → List TruckLine → List Begin → ℕ → ℕ
begun_in p lines begins v = sum_by (λ (b : Begin). if begin_tail p lines b == v then b.count else 0) begins

-- a terminal that begins take no trucks from has none, for each of so many
pub record AreNoNeeds (terminals : ℕ) (table : List Need) : Type 0 where
  pub long : length table ≡ terminals
  pub none : (v : ℕ) → v < terminals → need_at table v ≡ record { terminal = v; trucks = 0; at = 0 }

-- some begin is at the terminal and the moment
abbrev pub BeginsThen : Problem → List TruckLine → List Begin → (terminal moment : ℕ) → Type 0
BeginsThen p lines begins v moment = (k : ℕ) × (k < length begins) × (begin_tail p lines (slice_index_or begins k no_begin) ≡ v)
    × (begin_depart lines (slice_index_or begins k no_begin) ≡ moment)

-- the need of a terminal has the trucks that begin there, and the last moment when some do
pub record IsNeedOf (p : Problem) (lines : List TruckLine) (begins : List Begin) (v : ℕ) (need : Need) : Type 0 where
  pub terminal : need.terminal ≡ v
  pub trucks : need.trucks ≡ begun_in p lines begins v
  pub some : 0 < need.trucks → BeginsThen p lines begins v need.at
  pub last : All (λ (b : Begin). begin_tail p lines b ≡ v → begin_depart lines b ≤ need.at) begins

-- the need of each terminal, by terminal, and all trucks
pub record IsNeedTable (p : Problem) (lines : List TruckLine) (begins : List Begin) (table : List Need) : Type 0 where
  pub long : length table ≡ length p.terminals
  pub each : (v : ℕ) → v < length p.terminals → IsNeedOf p lines begins v (need_at table v)
  pub sum : sum_by (λ (n : Need). n.trucks) table ≡ sum_by (λ (b : Begin). b.count) begins
