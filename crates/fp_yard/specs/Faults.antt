-- Why an event is refused.
use Rattle.std.specs.Prelude.{ℕ, ◌<◌, ◌≤◌, ◌≡◌, ◌≢◌, List, length}
use Rattle.fp_yard.specs.declared.events.Event.{Event}
use Rattle.fp_yard.specs.declared.events.EventKind.TheVariants.{Departs, Arrives}
use Rattle.fp_yard.specs.declared.events.LineStage.TheVariants.{Waiting, Rolling}
use Rattle.fp_yard.specs.declared.events.YardFault.{YardFault}
use Rattle.fp_yard.specs.declared.events.YardFault.TheVariants.{NoLine, Left, Missing, NotRolling}
use Rattle.fp_yard.specs.declared.events.YardPlace.TheVariants.{At}
use Rattle.fp_yard.specs.Events.{stage_of}
use Rattle.fp_yard.specs.Places.{place_of}
use Rattle.fp_yard.specs.Schedules.{Schedule, IsFreight, tail_at}

-- an event of a line that exists
abbrev pub IsOf : Schedule → Event → Type 0
IsOf s e = e.line < length s.tails

-- a shipment is where a line departs from
abbrev pub IsAtTail : Schedule → List Event → (line shipment : ℕ) → Type 0
IsAtTail s h line shipment = place_of s h shipment ≡ At (tail_at s line)

-- the departure of a waiting line for which a shipment is missing, the first of its freight that
-- isn't at its tail
pub record IsMissing (s : Schedule) (h : List Event) (e : Event) (shipment : ℕ) : Type 0 where
  pub line : IsOf s e
  pub kind : e.kind ≡ Departs
  pub stage : stage_of h e.line ≡ Waiting
  pub freight : IsFreight s e.line shipment
  pub away : IsAtTail s h e.line shipment → ⊥
  pub first : (k : ℕ) → k < shipment → IsFreight s e.line k → IsAtTail s h e.line k

-- a fault is that of an event after a history
abbrev pub IsFault : Schedule → List Event → Event → YardFault → Type 0
IsFault s h e NoLine = length s.tails ≤ e.line
IsFault s h e Left = IsOf s e × (e.kind ≡ Departs) × (stage_of h e.line ≢ Waiting)
IsFault s h e (Missing shipment) = IsMissing s h e shipment
IsFault s h e NotRolling = IsOf s e × (e.kind ≡ Arrives) × (stage_of h e.line ≢ Rolling)
