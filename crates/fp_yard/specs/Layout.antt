-- How a yard lies in memory.
use Rattle.std.specs.Prelude.{ℕ, ◌<◌, ◌≡◌, length}
use Rattle.fp_base_lists.specs.Vectors.{lists_of}
use Rattle.fp_yard.specs.declared.sheets.Sheets.TheInside.{Inside}
use Rattle.fp_yard.specs.Freight.{freight_at}
use Rattle.fp_yard.specs.Schedules.{IsFreightOf, IsSound, Schedule}

-- the schedule that sheets hold
abbrev pub schedule_in : Inside → Schedule
schedule_in i = record { tails = i.tails.items; heads = i.heads.items; journeys = lists_of i.journeys.items }

-- the schedule is sound, and the legs that go by each line are listed
pub record IsIndexed (i : Inside) : Type 0 where
  pub sound : IsSound (schedule_in i)
  pub count : length i.freight.items ≡ length i.tails.items
  pub freight : (line : ℕ) → line < length i.tails.items → IsFreightOf (schedule_in i) line (freight_at (lists_of i.freight.items) line)
