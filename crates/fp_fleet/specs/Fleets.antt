-- Fleets: a roster with needs that prove that none is smaller.
use Rattle.std.specs.Prelude.{ℕ, ◌<◌, ◌≡◌, List, length, map, sum_by, All, AllPairs, Contains}
use Rattle.fp_base_lists.specs.Order.{Precedes}
use Rattle.fp_model.specs.Problem.{Problem}
use Rattle.fp_timetable.specs.declared.lines.TruckLine.{TruckLine}
use Rattle.fp_fleet.specs.declared.fleets.Begin.{Begin}
use Rattle.fp_fleet.specs.declared.fleets.Need.{Need}
use Rattle.fp_fleet.specs.declared.fleets.Turn.{Turn}
use Rattle.fp_fleet.specs.Counts.{begin_count, turn_count}
use Rattle.fp_fleet.specs.Deficits.{IsDeficit, IsGreatestDeficit, arriving, leaving}
use Rattle.fp_fleet.specs.Rosters.{IsRoster, roster_size}

-- a fleet: how many trucks it has in all, what terminals need, and where trucks begin and turn
pub record Assignment : Type 0 where
  pub total : ℕ
  pub needs : List Need
  pub begins : List Begin
  pub turns : List Turn

-- begins stand by their lines, each line at most once
abbrev pub BeginsAscend : List Begin → Type 0
BeginsAscend begins = AllPairs (λ (b c : Begin). b.line < c.line) begins

-- turns stand by the lines before and then by those after, each pair at most once
abbrev pub TurnsAscend : List Turn → Type 0
TurnsAscend turns = AllPairs (λ (s t : Turn). Precedes s.before s.after t.before t.after) turns

-- needs stand by their terminals, each terminal at most once
abbrev pub NeedsAscend : List Need → Type 0
NeedsAscend needs = AllPairs (λ (m n : Need). m.terminal < n.terminal) needs

-- the line of a begin is one of so many
abbrev pub BeginExists : ℕ → Begin → Type 0
BeginExists lines b = b.line < lines

-- the two lines of a turn are among so many
abbrev pub TurnExists : ℕ → Turn → Type 0
TurnExists lines t = (t.before < lines) × (t.after < lines)

-- begins and turns are a roster of lines that exist
pub record AreRoster (p : Problem) (lines : List TruckLine) (begins : List Begin) (turns : List Turn) : Type 0 where
  pub begins_exist : All (BeginExists (length lines)) begins
  pub turns_exist : All (TurnExists (length lines)) turns
  pub roster : IsRoster p lines (begin_count begins) (turn_count turns)

-- needs are deficits that sum to a total, each terminal at most once
pub record AreDeficits (p : Problem) (lines : List TruckLine) (total : ℕ) (needs : List Need) : Type 0 where
  pub ascend : NeedsAscend needs
  pub deficits : All (IsDeficit p lines) needs
  pub sum : sum_by (λ (n : Need). n.trucks) needs ≡ total

-- a fleet is accepted: its begins and turns stand in order and are a roster of its size, and its
-- needs are deficits that sum to its size
pub record IsAccepted (p : Problem) (lines : List TruckLine) (fleet : Assignment) : Type 0 where
  pub begins_ascend : BeginsAscend fleet.begins
  pub turns_ascend : TurnsAscend fleet.turns
  pub roster : AreRoster p lines fleet.begins fleet.turns
  pub size : roster_size (length lines) (begin_count fleet.begins) ≡ fleet.total
  pub needs : AreDeficits p lines fleet.total fleet.needs

-- needs are, by terminal, those of each terminal whose greatest deficit is above 0
pub record AreNeeds (p : Problem) (lines : List TruckLine) (needs : List Need) : Type 0 where
  pub ascend : NeedsAscend needs
  pub greatest : All (IsGreatestDeficit p lines) needs
  pub every : (terminal moment : ℕ) → arriving p lines terminal moment < leaving p lines terminal moment →
      Contains (map (λ (n : Need). n.terminal) needs) terminal

-- a fleet as small as can be, with what each terminal needs
pub record IsFewest (p : Problem) (lines : List TruckLine) (fleet : Assignment) : Type 0 where
  pub accepted : IsAccepted p lines fleet
  pub begins : All (λ (b : Begin). 0 < b.count) fleet.begins
  pub turns : All (λ (t : Turn). 0 < t.count) fleet.turns
  pub needs : AreNeeds p lines fleet.needs
