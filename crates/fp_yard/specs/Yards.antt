-- What a yard is to its contracts, and how it lies in memory.
use Rattle.std.specs.Prelude.{ℕ, suc, ◌*◌, ◌<◌, ◌≤◌, ◌^◌, ◌≡◌, Bool, true, false, List, length, slice_index, slice_index_or, sum_by, vec_capacity}
use Rattle.fp_model.specs.declared.parts.Member.{Member}
use Rattle.fp_yard.specs.declared.events.Event.{Event}
use Rattle.fp_yard.specs.declared.events.EventKind.{EventKind}
use Rattle.fp_yard.specs.declared.events.EventKind.TheVariants.{Departs, Arrives}
use Rattle.fp_yard.specs.declared.events.LineStage.{LineStage}
use Rattle.fp_yard.specs.declared.events.LineStage.TheVariants.{Waiting, Rolling, Done}
use Rattle.fp_yard.specs.declared.yards.Yard.TheInside.{Inside}
use Rattle.fp_yard.specs.Events.{IsLegal, arrived, stage_of}
use Rattle.fp_yard.specs.Models.{YardModel}
use Rattle.fp_yard.specs.Schedules.{IsSound, Schedule, journey_at}

-- the yard that the fields hold
abbrev pub yard_in : Inside → YardModel
yard_in i = record { schedule = i.sheets; history = i.history.items }

-- the stage to which an event of a kind brings its line
abbrev pub stage_by : EventKind → LineStage
stage_by Departs = Rolling
stage_by Arrives = Done

-- whether a stage is the last one
abbrev pub ends : LineStage → Bool
ends Waiting = false
ends Rolling = false
ends Done = true

-- how many events have brought a line to a stage
abbrev pub events_until : LineStage → ℕ
events_until Waiting = 0
events_until Rolling = 1
events_until Done = 2

-- the stage of the line with a number, in a list of stages
abbrev pub stage_at : List LineStage → ℕ → LineStage
stage_at stages line = slice_index_or stages line Waiting

-- the legs before a leg of a shipment have brought it there
abbrev pub HasCome : Schedule → List Event → Member → Type 0
HasCome s h m = (i : ℕ) → suc i ≡ m.leg → arrived h (slice_index (journey_at s m.shipment) i) ≡ true

-- the schedule is sound, the history legal, with room for all events, and the stages are those that
-- the history gives
pub record IsRun (s : Schedule) (stages : List LineStage) (h : List Event) : Type 0 where
  pub sound : IsSound s
  pub few : length s.tails < 2 ^ 32
  pub legal : IsLegal s h
  pub long : length stages ≡ length s.tails
  pub told : (line : ℕ) → line < length s.tails → stage_at stages line ≡ stage_of h line
  pub count : length h ≡ sum_by events_until stages

pub record IsYard (i : Inside) : Type 0 where
  pub run : IsRun i.sheets i.stages.items i.history.items
  pub room : 2 * length i.sheets.tails ≤ vec_capacity i.history
