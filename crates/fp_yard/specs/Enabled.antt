-- The events of some lines, and how the allowed events change from turn to turn.
use Rattle.std.specs.Prelude.{ℕ, suc, ◌≡◌, ◌<◌, ◌≤◌, List, [], ◌∷◌, ◌++◌, length, slice_index, All, AllPairs, Contains}
use Rattle.fp_model.specs.declared.parts.Member.{Member}
use Rattle.fp_yard.specs.declared.events.Event.{Event}
use Rattle.fp_yard.specs.declared.events.EventKind.{EventKind}
use Rattle.fp_yard.specs.declared.events.EventKind.TheVariants.{Departs, Arrives}
use Rattle.fp_yard.specs.declared.events.LineStage.{LineStage}
use Rattle.fp_yard.specs.declared.events.LineStage.TheVariants.{Waiting, Rolling, Done}
use Rattle.fp_yard.specs.Events.{AreEnabled, IsAllowed, IsLegal, event_at}
use Rattle.fp_yard.specs.Schedules.{Schedule, journey_at}

-- the kind of event that a line at a stage waits for
abbrev pub next_kind : LineStage → EventKind
next_kind Waiting = Departs
next_kind Rolling = Arrives
next_kind Done = Arrives

-- no event of a line is allowed
abbrev pub NoneAllowed : Schedule → List Event → ℕ → Type 0
NoneAllowed s h line = (e : Event) → e.line ≡ line → IsAllowed s h e → ⊥

-- events are the allowed ones of the lines below a number, by line
pub record AreEnabledBelow (s : Schedule) (h : List Event) (n : ℕ) (events : List Event) : Type 0 where
  pub rising : AllPairs (λ (e f : Event). e.line < f.line) events
  pub below : All (λ (e : Event). e.line < n) events
  pub allowed : All (IsAllowed s h) events
  pub every : (e : Event) → e.line < n → IsAllowed s h e → Contains events e

-- events are allowed, and stand by line
pub record AreAllowed (s : Schedule) (h events : List Event) : Type 0 where
  pub rising : AllPairs (λ (e f : Event). e.line < f.line) events
  pub allowed : All (IsAllowed s h) events

-- a line is that of the leg of a shipment just after another leg
abbrev pub IsAfter : Schedule → Member → ℕ → Type 0
IsAfter s m line = (suc m.leg < length (journey_at s m.shipment)) × (slice_index (journey_at s m.shipment) (suc m.leg) ≡ line)

-- events are the allowed ones, where some may be missing of the lines just after some legs
pub record AreEnabledBut (s : Schedule) (h : List Event) (legs : List Member) (events : List Event) : Type 0 where
  pub are : AreAllowed s h events
  pub every : (e : Event) → IsAllowed s h e → All (λ (m : Member). IsAfter s m e.line → ⊥) legs → Contains events e

-- events were added to others, so that none is missing of some lines
pub record HasAdded (s : Schedule) (h : List Event) (some : ℕ → Type 0) (events after : List Event) : Type 0 where
  pub are : AreAllowed s h after
  pub kept : (e : Event) → Contains events e → Contains after e
  pub own : (e : Event) → some e.line → IsAllowed s h e → Contains after e

-- the events of a line, if there are any, stand at a place among events by line
pub record IsPlaceOf (events : List Event) (line place : ℕ) : Type 0 where
  pub within : place ≤ length events
  pub before : (i : ℕ) → i < place → (event_at events i).line < line
  pub from : (i : ℕ) → place ≤ i → i < length events → line ≤ (event_at events i).line

-- events were the allowed ones before the one at a place happened
pub record WereEnabled (s : Schedule) (h : List Event) (place : ℕ) (events : List Event) : Type 0 where
  pub before : List Event
  pub legal : IsLegal s before
  pub are : AreEnabled s before events
  pub now : h ≡ before ++ event_at events place ∷ []
