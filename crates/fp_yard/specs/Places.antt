-- Where a shipment is after a history.
use Rattle.std.specs.Prelude.{ℕ, Bool, not, ◌&&◌, Option, Some, None, List, [], ◌∷◌, filter, find}
use Rattle.fp_yard.specs.declared.events.Event.{Event}
use Rattle.fp_yard.specs.declared.events.YardPlace.{YardPlace}
use Rattle.fp_yard.specs.declared.events.YardPlace.TheVariants.{At, Aboard}
use Rattle.fp_yard.specs.Events.{arrived, departed}
use Rattle.fp_yard.specs.Schedules.{Schedule, head_at, journey_at, start_of}

-- whether a line is on its way
abbrev pub rolls : List Event → ℕ → Bool
rolls h line = departed h line && not (arrived h line)

-- the end of the last of some lines, or the start where there is none
abbrev pub last_end : Schedule → ℕ → List ℕ → ℕ
last_end s start [] = start
last_end s start (line ∷ lines) = last_end s (head_at s line) lines

-- aboard a line, if there is one, and at a terminal otherwise
abbrev pub aboard_or_at : Option ℕ → ℕ → YardPlace
aboard_or_at (Some line) terminal = Aboard line
aboard_or_at None terminal = At terminal

-- where a shipment is that begins at a terminal and goes by these lines
abbrev pub place_along : Schedule → List Event → ℕ → List ℕ → YardPlace
place_along s h start lines = aboard_or_at (find (rolls h) lines) (last_end s start (filter (arrived h) lines))

-- where a shipment is: aboard the line of its first leg that has departed and not arrived, if there
-- is one, and otherwise at the end of its last leg that has arrived, or at its origin
abbrev pub place_of : Schedule → List Event → ℕ → YardPlace
place_of s h shipment = place_along s h (start_of s (journey_at s shipment)) (journey_at s shipment)
