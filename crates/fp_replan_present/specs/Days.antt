-- A day that is under way: the present, where it is told, and the tracked legs in their order. The
-- tracked legs of one shipment, in their order, begin its route.
use Rattle.std.specs.Prelude.{ℕ, ◌+◌, ◌≤◌, ◌==◌, ◌||◌, List, [], ◌∷◌, map, filter, All, Bool, false, Option, Some, None, IfSome, is_some, unwrap_or, nat_lt, max, if◌then◌else◌}
use Rattle.std.specs.List.{list_any}
use Rattle.fp_model.specs.declared.parts.Leg.{Leg}
use Rattle.fp_model.specs.Problem.{Problem, arc_at, hold_at}
use Rattle.fp_replan.specs.declared.kept.Kept.{Kept}
use Rattle.fp_replan.specs.KeptLegs.{AreKept, leg_of}
use Rattle.fp_replan_present.specs.declared.presents.Tracked.{Tracked}

-- the present, where it is told, and the tracked legs
pub record Day : Type 0 where
  pub time : Option ℕ
  pub legs : List Tracked

-- a tracked leg as one that is kept
abbrev pub kept_in_tracked : Tracked → Kept
kept_in_tracked x = x.kept

-- a tracked leg as a leg
abbrev pub tracked_leg : Tracked → Leg
tracked_leg x = leg_of x.kept

-- tracked legs as legs
abbrev pub legs_of : List Tracked → List Leg
legs_of legs = map tracked_leg legs

-- whether a leg is one of the shipment with a number
abbrev pub is_of : ℕ → Tracked → Bool
is_of k x = x.kept.shipment == k

-- the tracked legs of the shipment with a number, in their order
abbrev pub tracked_of : List Tracked → ℕ → List Tracked
tracked_of legs k = filter (is_of k) legs

-- whether a leg has left: it departs before the present, where that is told
abbrev pub has_left : (now : Option ℕ) → Tracked → Bool
has_left None x = false
has_left (Some now) x = nat_lt x.kept.depart now

-- whether a leg is settled by itself: it has left, or its arrival is told
abbrev pub is_fixed : (now : Option ℕ) → Tracked → Bool
is_fixed now x = has_left now x || is_some x.arrive

-- of the tracked legs of a shipment those that are settled: up to and with the last one that is
-- settled by itself
abbrev pub settled : (now : Option ℕ) → List Tracked → List Tracked
settled now [] = []
settled now (x ∷ legs) = if list_any (is_fixed now) (x ∷ legs) then x ∷ settled now legs else []

-- and those that are promised: all after them
abbrev pub promised : (now : Option ℕ) → List Tracked → List Tracked
promised now [] = []
promised now (x ∷ legs) = if list_any (is_fixed now) (x ∷ legs) then promised now legs else x ∷ legs

-- when a settled leg arrives: as it is told, or after the time of its arc
abbrev pub arrival : Problem → Tracked → ℕ
arrival p x = unwrap_or x.arrive (x.kept.depart + (arc_at p x.kept.arc).time)

-- when a shipment can go on that arrived by a settled leg
abbrev pub next_ready : Problem → Tracked → ℕ
next_ready p x = arrival p x + hold_at p (arc_at p x.kept.arc).to

-- settled legs are in order: the first leaves when the shipment is ready or later, and each next one
-- when it can go on after the one before or later
abbrev pub AreInOrder : Problem → (ready : ℕ) → List Tracked → Type 0
AreInOrder p ready [] = Unit {0}
AreInOrder p ready (x ∷ legs) = (ready ≤ x.kept.depart) × AreInOrder p (next_ready p x) legs

-- when a shipment that was ready at a time can go on after settled legs
abbrev pub settled_ready : Problem → (ready : ℕ) → List Tracked → ℕ
settled_ready p ready [] = ready
settled_ready p ready (x ∷ legs) = settled_ready p (next_ready p x) legs

-- when the last of the settled legs arrives, or the time before them where there is none
abbrev pub last_arrival : Problem → (before : ℕ) → List Tracked → ℕ
last_arrival p before [] = before
last_arrival p before (x ∷ legs) = last_arrival p (arrival p x) legs

-- the last of the settled legs, where there is one, arrives by the due time
abbrev pub HasArrivedBy : Problem → (due : ℕ) → List Tracked → Type 0
HasArrivedBy p due legs = last_arrival p 0 legs ≤ due

-- a time, or the present where that is told and later
abbrev pub from_now : (now : Option ℕ) → ℕ → ℕ
from_now None ready = ready
from_now (Some now) ready = max ready now

-- the tracked legs can be kept, each after those before it, and none arrives before it departs
pub record AreTracked (p : Problem) (day : Day) : Type 0 where
  pub kept : AreKept p (map kept_in_tracked day.legs)
  pub later : All (λ (x : Tracked). IfSome x.arrive (λ t. x.kept.depart ≤ t)) day.legs
