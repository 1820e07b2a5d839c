-- What may happen when, said by what has happened before and by nothing else.
use Rattle.std.specs.Prelude.{ℕ, suc, ◌<◌, ◌≡◌, ◌⊎◌, Bool, true, false, ◌&&◌, nat_eq, List, [], ◌∷◌, ◌++◌, length, take, slice_index, slice_index_or, All, AllPairs, Contains, filter, if◌then◌else◌}
use Rattle.std.specs.List.{list_any}
use Rattle.fp_yard.specs.declared.events.Event.{Event}
use Rattle.fp_yard.specs.declared.events.EventKind.{EventKind}
use Rattle.fp_yard.specs.declared.events.EventKind.TheVariants.{Departs, Arrives}
use Rattle.fp_yard.specs.declared.events.LineStage.{LineStage}
use Rattle.fp_yard.specs.declared.events.LineStage.TheVariants.{Waiting, Rolling, Done}
use Rattle.fp_yard.specs.Schedules.{Schedule, journey_at}

-- whether a kind of event is a departure
abbrev pub departs : EventKind → Bool
departs Departs = true
departs Arrives = false

-- whether it is an arrival
abbrev pub arrives : EventKind → Bool
arrives Departs = false
arrives Arrives = true

-- whether an event is the departure of a line
abbrev pub is_departure : ℕ → Event → Bool
is_departure line e = nat_eq e.line line && departs e.kind

-- whether it is the arrival of a line
abbrev pub is_arrival : ℕ → Event → Bool
is_arrival line e = nat_eq e.line line && arrives e.kind

-- whether a line has departed
abbrev pub departed : List Event → ℕ → Bool
departed h line = list_any (is_departure line) h

-- whether it has arrived
abbrev pub arrived : List Event → ℕ → Bool
arrived h line = list_any (is_arrival line) h

-- a line of the schedule may depart: it has not, and for each shipment of its freight it is the
-- line of the first leg, or the line of the leg before has arrived
pub record CanDepart (s : Schedule) (h : List Event) (line : ℕ) : Type 0 where
  pub exists : line < length s.tails
  pub still : departed h line ≡ false
  pub ready : (k i : ℕ) → suc i < length (journey_at s k) → slice_index (journey_at s k) (suc i) ≡ line →
      arrived h (slice_index (journey_at s k) i) ≡ true

-- a line of the schedule may arrive: it has departed, and has not arrived
pub record CanArrive (s : Schedule) (h : List Event) (line : ℕ) : Type 0 where
  pub exists : line < length s.tails
  pub left : departed h line ≡ true
  pub still : arrived h line ≡ false

-- an event of a kind and a line is allowed after those of a history
abbrev pub MayHappen : Schedule → List Event → ℕ → EventKind → Type 0
MayHappen s h line Departs = CanDepart s h line
MayHappen s h line Arrives = CanArrive s h line

-- an event is allowed after those of a history
abbrev pub IsAllowed : Schedule → List Event → Event → Type 0
IsAllowed s h e = MayHappen s h e.line e.kind

-- stands for the event of a place where no event is
abbrev pub no_event : Event
no_event = record { line = 0; kind = Departs }

-- the event with a number
abbrev pub event_at : List Event → ℕ → Event
event_at h i = slice_index_or h i no_event

-- a history is legal: each of its events is allowed after those before it
abbrev pub IsLegal : Schedule → List Event → Type 0
IsLegal s h = (i : ℕ) → i < length h → IsAllowed s (take i h) (event_at h i)

-- the stage of a line after a history
abbrev pub stage_of : List Event → ℕ → LineStage
stage_of h line = if arrived h line then Done else (if departed h line then Rolling else Waiting)

-- the events of a line, in their order
abbrev pub events_of : ℕ → List Event → List Event
events_of line h = filter (λ (e : Event). nat_eq e.line line) h

-- a history after which calls with these events, in this order, have led to another: an event is
-- added exactly where it is allowed
abbrev pub LeadsTo : Schedule → List Event → List Event → List Event → Type 0
LeadsTo s h [] after = after ≡ h
LeadsTo s h (e ∷ calls) after =
    (IsAllowed s h e × LeadsTo s (h ++ e ∷ []) calls after) ⊎ ((IsAllowed s h e → ⊥) × LeadsTo s h calls after)

-- events are exactly the allowed ones, by line
pub record AreEnabled (s : Schedule) (h events : List Event) : Type 0 where
  pub rising : AllPairs (λ (e f : Event). e.line < f.line) events
  pub allowed : All (IsAllowed s h) events
  pub every : (e : Event) → IsAllowed s h e → Contains events e
