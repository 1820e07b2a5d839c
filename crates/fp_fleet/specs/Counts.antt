-- How many trucks begin and turn in lists of begins and of turns.
use Rattle.std.specs.Prelude.{ℕ, ◌==◌, List, sum_by, if◌then◌else◌}
use Rattle.fp_fleet.specs.declared.fleets.Begin.{Begin}
use Rattle.fp_fleet.specs.declared.fleets.Turn.{Turn}

-- the trucks that begin with a line
abbrev pub begin_count : List Begin → ℕ → ℕ
begin_count begins m = sum_by (λ (b : Begin). if b.line == m then b.count else 0) begins

-- the trucks that turn from one line to another
abbrev pub turn_count : List Turn → ℕ → ℕ → ℕ
turn_count turns l m = sum_by (λ (t : Turn). if t.before == l then (if t.after == m then t.count else 0) else 0) turns

-- the trucks that turn from any line to one
abbrev pub into_count : List Turn → ℕ → ℕ
into_count turns m = sum_by (λ (t : Turn). if t.after == m then t.count else 0) turns

-- the trucks that turn from one line to any
abbrev pub out_count : List Turn → ℕ → ℕ
out_count turns l = sum_by (λ (t : Turn). if t.before == l then t.count else 0) turns
