-- The arrivals of truck lines in the order of terminals and moments.
use Rattle.std.specs.Prelude.{ℕ, ◌+◌, ◌*◌, ◌^◌, ◌<◌, ◌≤◌, ◌≡◌, List, [], ◌∷◌, length, slice_index_or, All}
use Rattle.std.specs.List.Sorted.{IsNonDecreasingBy}
use Rattle.fp_model.specs.Problem.{Problem}
use Rattle.fp_timetable.specs.declared.lines.TruckLine.{TruckLine}
use Rattle.fp_fleet.specs.declared.arrivals.Arrival.{Arrival}
use Rattle.fp_fleet.specs.Rosters.{arrival_of, head_of, line_at}

-- one number for a moment at a terminal
abbrev pub moment_rank : ℕ → ℕ → ℕ
moment_rank terminal moment = terminal * 2 ^ 40 + moment

-- the arrival of the line with a number
abbrev pub ranked : Problem → ℕ → TruckLine → Arrival
ranked p l t = record { rank = moment_rank (head_of p t) (arrival_of p t); line = l }

-- those of lines that are numbered from a number on
abbrev pub ranked_from : Problem → ℕ → List TruckLine → List Arrival
ranked_from p l [] = []
ranked_from p l (t ∷ lines) = ranked p l t ∷ ranked_from p (l + 1) lines

-- stands for the arrival at a place where there is none
abbrev pub no_arrival : Arrival
no_arrival = record { rank = 0; line = 0 }

-- the arrival at a place
abbrev pub arrival_at : List Arrival → ℕ → Arrival
arrival_at arrivals k = slice_index_or arrivals k no_arrival

-- an arrival is that of its line
abbrev pub IsRanked : Problem → List TruckLine → Arrival → Type 0
IsRanked p lines a = (a.line < length lines) × (a.rank ≡ moment_rank (head_of p (line_at lines a.line)) (arrival_of p (line_at lines a.line)))

-- a line's arrival stands somewhere
abbrev pub StandsAmong : List Arrival → ℕ → Type 0
StandsAmong arrivals l = (k : ℕ) × (k < length arrivals) × ((arrival_at arrivals k).line ≡ l)

-- the arrivals of lines, each line's once, by terminal and then by moment
pub record AreArrivals (p : Problem) (lines : List TruckLine) (arrivals : List Arrival) : Type 0 where
  pub sorted : IsNonDecreasingBy (λ (a : Arrival). a.rank) arrivals
  pub ranks : All (IsRanked p lines) arrivals
  pub every : (l : ℕ) → l < length lines → StandsAmong arrivals l

-- the arrivals at terminals before one are so many
pub record IsHead (arrivals : List Arrival) (terminal head : ℕ) : Type 0 where
  pub within : head ≤ length arrivals
  pub before : (k : ℕ) → k < head → (arrival_at arrivals k).rank < moment_rank terminal 0
  pub after : (k : ℕ) → head ≤ k → k < length arrivals → moment_rank terminal 0 ≤ (arrival_at arrivals k).rank
