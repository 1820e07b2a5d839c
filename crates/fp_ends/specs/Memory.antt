-- What contracts see of the sources and sinks in memory.
use Rattle.std.specs.Prelude.{◌≡◌, ◌⊎◌, ◌<◌, ◌≤◌, ◌-◌, ℕ, Bool, true, false, List, [], ◌∷◌, ◌++◌, drop, take, min, length, Contains, Result, Ok, Err}
use Rattle.fp_ends.specs.Causes.{next_count}
use Rattle.fp_ends.specs.declared.source.Failed.{Failed}
use Rattle.fp_ends.specs.declared.memory_source.MemSource.{MemSource}
use Rattle.fp_ends.specs.declared.memory_sink.MemSink.{MemSink}
use Rattle.fp_ends.specs.declared.sure.SureSource.{SureSource}

-- The bytes that a source which never fails has left.
abbrev pub bytes_left : SureSource → List ℕ
bytes_left s = drop s.at s.bytes.items

-- No call was chosen to fail.
abbrev pub fails_never : List ℕ → Bool
fails_never [] = true
fails_never (call ∷ calls) = false

-- A source in memory: what is left, the most that a call gives, which calls fail, how many calls
-- and faults there were.
pub record SourceState : Type 0 where
  pub left : List ℕ
  pub step : ℕ
  pub fails : List ℕ
  pub calls : ℕ
  pub faults : ℕ

-- The state of a source in memory.
abbrev pub source_state : MemSource → SourceState
source_state s = record { left = drop s.at s.bytes.items; step = s.step; fails = s.fails.items; calls = s.calls; faults = s.faults }

-- How many bytes a call that does not fail gives where there is so much room.
abbrev pub give_count : SourceState → ℕ → ℕ
give_count state room = min state.step (min room (length state.left))

-- A read fails exactly where its number was chosen, and takes nothing then; else it gives all that
-- step, room and rest allow.
abbrev pub ReadsMemory : SourceState → SourceState → ℕ → Result ℕ Failed → Type 0
ReadsMemory old new room (Ok n) =
    (Contains old.fails (next_count old.calls) → ⊥) × (n ≡ give_count old room)
    × (new ≡ record old { left = drop n old.left; calls = next_count old.calls })
ReadsMemory old new room (Err _) =
    Contains old.fails (next_count old.calls)
    × (new ≡ record old { calls = next_count old.calls; faults = next_count old.faults })

-- A sink in memory: what was taken, its room, the most that a call takes, which calls fail, how
-- many calls and faults there were.
pub record SinkState : Type 0 where
  pub bytes : List ℕ
  pub room : ℕ
  pub step : ℕ
  pub fails : List ℕ
  pub calls : ℕ
  pub faults : ℕ

-- The state of a sink in memory.
abbrev pub sink_state : MemSink → SinkState
sink_state s = record { bytes = s.bytes.items; room = s.room; step = s.step; fails = s.fails.items; calls = s.calls; faults = s.faults }

-- How many bytes of a piece a call that does not fail takes.
abbrev pub take_count : SinkState → List ℕ → ℕ
take_count state piece = min state.step (min (length piece) (state.room - length state.bytes))

-- A write fails: its number was chosen, or it brings bytes where no room is left.
abbrev pub IsRefused : SinkState → List ℕ → Type 0
IsRefused state piece = Contains state.fails (next_count state.calls) ⊎ ((0 < length piece) × (state.room ≤ length state.bytes))

-- A write fails exactly where it is refused, and takes nothing then; else it takes all that step,
-- piece and room allow.
abbrev pub WritesMemory : SinkState → SinkState → List ℕ → Result ℕ Failed → Type 0
WritesMemory old new piece (Ok n) =
    (IsRefused old piece → ⊥) × (n ≡ take_count old piece)
    × (new ≡ record old { bytes = old.bytes ++ take n piece; calls = next_count old.calls })
WritesMemory old new piece (Err _) =
    IsRefused old piece
    × (new ≡ record old { calls = next_count old.calls; faults = next_count old.faults })

-- So much room where no call was chosen to fail, and none elsewhere.
abbrev pub room_unless : List ℕ → ℕ → ℕ
room_unless [] free = free
room_unless (call ∷ calls) free = 0

-- How many bytes so many calls that don't fail may still bring: those that there is room for, where
-- no call was chosen to fail.
abbrev pub room_left : SinkState → ℕ
room_left state = room_unless state.fails (state.room - length state.bytes)
