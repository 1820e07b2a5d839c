-- The run that draws choose.
use Rattle.std.specs.Prelude.{ℕ, zero, suc, ◌<◌, ◌≡◌, List, length, take}
use Rattle.fp_reader.specs.Draws.{drawn, next_number}
use Rattle.fp_yard.specs.declared.events.Event.{Event}
use Rattle.fp_yard.specs.Events.{AreEnabled, event_at}
use Rattle.fp_yard.specs.Schedules.{Schedule}

-- the number of the draws from a seed after so many of them
abbrev pub number_after : ℕ → ℕ → ℕ
number_after seed zero = seed
number_after seed (suc n) = next_number (number_after seed n)

-- events happened as the draws from a seed choose: each is the one at the drawn place among those
-- that were allowed then, by line, of which there was one at least
abbrev pub IsChosen : Schedule → ℕ → List Event → Type 0
IsChosen s seed h = (i : ℕ) → i < length h → (events : List Event) × AreEnabled s (take i h) events × (0 < length events) × (event_at h i ≡ event_at events (drawn (number_after seed i) (length events)))
