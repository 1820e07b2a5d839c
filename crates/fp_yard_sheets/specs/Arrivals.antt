-- The arrivals of truck lines, in order.
use Rattle.std.specs.Prelude.{ℕ, ◌+◌, ◌*◌, ◌^◌, ◌<◌, List, [], ◌∷◌, length, All}
use Rattle.std.specs.List.Sorted.{IsNonDecreasingBy, IsPermutation}
use Rattle.fp_model.specs.Problem.{Problem, arc_at}
use Rattle.fp_timetable.specs.declared.lines.TruckLine.{TruckLine}
use Rattle.fp_yard_sheets.specs.declared.arrivals.Arrival.{Arrival}

-- when a truck line arrives
abbrev pub arrival_of : Problem → TruckLine → ℕ
arrival_of p t = t.depart + (arc_at p t.arc).time

-- the arrivals of lines that are numbered from a number on, by line
abbrev pub arrivals_from : Problem → ℕ → List TruckLine → List Arrival
arrivals_from p l [] = []
arrivals_from p l (t ∷ lines) = record { at = arrival_of p t; line = l } ∷ arrivals_from p (l + 1) lines

-- one number for an arrival, in whose order the moment counts before the line
abbrev pub arrival_rank : Arrival → ℕ
arrival_rank a = a.at * 2 ^ 32 + a.line

-- the arrivals of all lines, each once, by moment and then by line
pub record AreByMoment (p : Problem) (lines : List TruckLine) (arrivals : List Arrival) : Type 0 where
  pub all : IsPermutation (arrivals_from p 0 lines) arrivals
  pub order : IsNonDecreasingBy arrival_rank arrivals
  pub exist : All (λ (a : Arrival). a.line < length lines) arrivals
