-- What is kept while lines are served in their order by the trucks that arrived first.
use Rattle.std.specs.Prelude.{ℕ, ◌+◌, ◌-◌, ◌^◌, ◌<◌, ◌≤◌, ◌≡◌, ◌≢◌, ◌==◌, ◌⊎◌, List, [], ◌∷◌, ◌++◌, length, nat_le, nat_lt, slice_index, slice_set, sum_by, All, AllPairs, if◌then◌else◌}
use Rattle.fp_model.specs.declared.limits.TheConstants.{LATEST}
use Rattle.fp_model.specs.Problem.{IsValid, Problem}
use Rattle.fp_timetable.specs.declared.lines.TruckLine.{TruckLine}
use Rattle.fp_timetable.specs.Lines.{TruckExists}
use Rattle.fp_timetable.specs.Order.{rank_of}
use Rattle.fp_fleet.specs.declared.arrivals.Arrival.{Arrival}
use Rattle.fp_fleet.specs.declared.fleets.Begin.{Begin}
use Rattle.fp_fleet.specs.declared.fleets.Turn.{Turn}
use Rattle.fp_fleet.specs.Arrivals.{arrival_at, moment_rank}
use Rattle.fp_fleet.specs.Counts.{begin_count, into_count, out_count}
use Rattle.fp_fleet.specs.Fleets.{BeginsAscend}
use Rattle.fp_fleet.specs.Rosters.{CanTurn, head_of, line_at, tail_of, truck_total}

-- lines are few, depart by the latest time, by departure, and their trucks fit
pub record IsTimetable (p : Problem) (lines : List TruckLine) : Type 0 where
  pub valid : IsValid p
  pub exist : All (TruckExists p) lines
  pub early : All (λ (t : TruckLine). t.depart ≤ LATEST) lines
  pub few : length lines ≤ 100001000
  pub fits : truck_total lines < 2 ^ 128
  pub rise : (l m : ℕ) → l ≤ m → m < length lines → (line_at lines l).depart ≤ (line_at lines m).depart

-- one number for the two lines of a turn
abbrev pub turn_rank : Turn → ℕ
turn_rank t = rank_of t.before t.after

-- the trucks that turn from a line to lines up to one
abbrev pub until_count : List Turn → (l m : ℕ) → ℕ
until_count turns l m = sum_by (λ (t : Turn). if t.before == l then (if nat_le t.after m then t.count else 0) else 0) turns

-- a turn of some trucks that can turn, to a line below a number
pub record IsTurnTo (p : Problem) (lines : List TruckLine) (bound : ℕ) (t : Turn) : Type 0 where
  pub before : t.before < length lines
  pub after : t.after < bound
  pub some : 0 < t.count
  pub can : CanTurn p (line_at lines t.before) (line_at lines t.after)

-- turns to the lines below a number, and the trucks of each line that have not turned to another
pub record AreSwept (p : Problem) (lines : List TruckLine) (bound : ℕ) (turns : List Turn) (idle : List ℕ) : Type 0 where
  pub long : length idle ≡ length lines
  pub turn : All (IsTurnTo p lines bound) turns
  pub out : (l : ℕ) → l < length lines → slice_index idle l + out_count turns l ≡ (line_at lines l).trucks
  pub once : AllPairs (λ (s t : Turn). turn_rank s ≢ turn_rank t) turns

-- no arrival before a head has idle trucks at a terminal, and none after it is at an earlier one
pub record HasHead (p : Problem) (lines : List TruckLine) (arrivals : List Arrival) (idle : List ℕ) (terminal head : ℕ) : Type 0 where
  pub within : head ≤ length arrivals
  pub spent : (k : ℕ) → k < head → (slice_index idle (arrival_at arrivals k).line ≡ 0) ⊎ (head_of p (line_at lines (arrival_at arrivals k).line) ≢ terminal)
  pub after : (k : ℕ) → head ≤ k → k < length arrivals → moment_rank terminal 0 ≤ (arrival_at arrivals k).rank

-- trucks that were idle turn: they are idle no more, and where there are some, it is one more turn
pub record AddsTurn (t : Turn) (old new : List Turn) (idle_old idle_new : List ℕ) : Type 0 where
  pub turns : new ≡ (if nat_lt 0 t.count then old ++ t ∷ [] else old)
  pub idle : idle_new ≡ slice_set idle_old t.before (slice_index idle_old t.before - t.count)
  pub enough : t.count ≤ slice_index idle_old t.before

-- what turns to a line change, and that it lacks so many trucks then
pub record AreTurning (p : Problem) (lines : List TruckLine) (arrivals : List Arrival) (m : ℕ) (old : List Turn) (idle_old : List ℕ) (new : List Turn) (idle_new : List ℕ) (lacking head : ℕ) : Type 0 where
  pub swept : AreSwept p lines (m + 1) new idle_new
  pub whole : lacking + into_count new m ≡ (line_at lines m).trucks
  pub into : (k : ℕ) → k < m → into_count new k ≡ into_count old k
  pub until : (l k : ℕ) → k < m → until_count new l k ≡ until_count old l k
  pub less : (l : ℕ) → slice_index idle_new l ≤ slice_index idle_old l
  pub queue : HasHead p lines arrivals idle_new (tail_of p (line_at lines m)) head

-- and where it lacks some, no truck has arrived there that is idle
pub record AreTurned (p : Problem) (lines : List TruckLine) (arrivals : List Arrival) (m : ℕ) (old : List Turn) (idle_old : List ℕ) (new : List Turn) (idle_new : List ℕ) (lacking head : ℕ) : Type 0 where
  pub turning : AreTurning p lines arrivals m old idle_old new idle_new lacking head
  pub late : 0 < lacking → (k : ℕ) → head ≤ k → k < length arrivals → moment_rank (tail_of p (line_at lines m)) (line_at lines m).depart < (arrival_at arrivals k).rank

-- where trucks begin with a line, all trucks that can turn to it have turned to it or to lines before
abbrev pub IsThrifty : Problem → List TruckLine → List Turn → Begin → Type 0
IsThrifty p lines turns b = (l : ℕ) → l < length lines → CanTurn p (line_at lines l) (line_at lines b.line) →
    until_count turns l b.line ≡ (line_at lines l).trucks

-- some trucks begin, with a line below a number
abbrev pub IsBeginBelow : ℕ → Begin → Type 0
IsBeginBelow bound b = (b.line < bound) × (0 < b.count)

-- the lines below a number are served
pub record AreServed (p : Problem) (lines : List TruckLine) (arrivals : List Arrival) (m : ℕ) (begins : List Begin) (turns : List Turn) (idle heads : List ℕ) : Type 0 where
  pub swept : AreSwept p lines m turns idle
  pub into : (k : ℕ) → k < m → begin_count begins k + into_count turns k ≡ (line_at lines k).trucks
  pub begin : All (IsBeginBelow m) begins
  pub ascend : BeginsAscend begins
  pub thrifty : All (IsThrifty p lines turns) begins
  pub long : length heads ≡ length p.terminals
  pub queue : (v : ℕ) → v < length p.terminals → HasHead p lines arrivals idle v (slice_index heads v)

-- all lines are served
pub record IsAssigned (p : Problem) (lines : List TruckLine) (begins : List Begin) (turns : List Turn) : Type 0 where
  pub turn : All (IsTurnTo p lines (length lines)) turns
  pub once : AllPairs (λ (s t : Turn). turn_rank s ≢ turn_rank t) turns
  pub out : (l : ℕ) → l < length lines → out_count turns l ≤ (line_at lines l).trucks
  pub into : (k : ℕ) → k < length lines → begin_count begins k + into_count turns k ≡ (line_at lines k).trucks
  pub begin : All (IsBeginBelow (length lines)) begins
  pub ascend : BeginsAscend begins
  pub thrifty : All (IsThrifty p lines turns) begins
