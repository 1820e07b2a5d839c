-- How many more trucks leave a terminal up to a moment than arrive there: so many have to begin
-- there.
use Rattle.std.specs.Prelude.{ℕ, ◌+◌, ◌<◌, ◌≤◌, ◌≡◌, ◌==◌, ◌&&◌, Bool, List, length, nat_le, if◌then◌else◌}
use Rattle.fp_base_lists.specs.Below.{sum_below}
use Rattle.fp_model.specs.Problem.{Problem}
use Rattle.fp_timetable.specs.declared.lines.TruckLine.{TruckLine}
use Rattle.fp_fleet.specs.declared.fleets.Need.{Need}
use Rattle.fp_fleet.specs.Rosters.{arrival_of, head_of, line_at, tail_of}

-- whether a line leaves the terminal, at the moment or before
abbrev pub leaves_by : Problem → ℕ → ℕ → TruckLine → Bool
leaves_by p terminal moment t = (tail_of p t == terminal) && nat_le t.depart moment

-- whether a line arrives at the terminal, at the moment or before
abbrev pub arrives_by : Problem → ℕ → ℕ → TruckLine → Bool
arrives_by p terminal moment t = (head_of p t == terminal) && nat_le (arrival_of p t) moment

-- the trucks that leave the terminal up to and with the moment
abbrev pub leaving : Problem → List TruckLine → (terminal moment : ℕ) → ℕ
leaving p lines terminal moment =
    sum_below (length lines) (λ m. if leaves_by p terminal moment (line_at lines m) then (line_at lines m).trucks else 0)

-- the trucks that arrive at the terminal up to and with the moment
abbrev pub arriving : Problem → List TruckLine → (terminal moment : ℕ) → ℕ
arriving p lines terminal moment =
    sum_below (length lines) (λ l. if arrives_by p terminal moment (line_at lines l) then (line_at lines l).trucks else 0)

-- the deficit of the terminal at the moment, where it isn't negative: the trucks that leave it up to
-- and with the moment, less those that arrive up to and with the moment
abbrev pub HasDeficit : Problem → List TruckLine → (terminal moment deficit : ℕ) → Type 0
HasDeficit p lines terminal moment deficit = leaving p lines terminal moment ≡ arriving p lines terminal moment + deficit

-- the trucks of a need are the deficit of its terminal at its moment, and above 0
pub record IsDeficit (p : Problem) (lines : List TruckLine) (need : Need) : Type 0 where
  pub above : 0 < need.trucks
  pub deficit : HasDeficit p lines need.terminal need.at need.trucks

-- a need is the greatest deficit of its terminal, above 0, and the least moment that has it
pub record IsGreatestDeficit (p : Problem) (lines : List TruckLine) (need : Need) : Type 0 where
  pub is : IsDeficit p lines need
  pub greatest : (moment : ℕ) → leaving p lines need.terminal moment ≤ arriving p lines need.terminal moment + need.trucks
  pub least : (moment : ℕ) → moment < need.at → leaving p lines need.terminal moment < arriving p lines need.terminal moment + need.trucks
