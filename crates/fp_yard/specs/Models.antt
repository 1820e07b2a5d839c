-- What contracts see of a yard.
use Rattle.std.specs.Prelude.{List}
use Rattle.fp_yard.specs.declared.events.Event.{Event}
use Rattle.fp_yard.specs.Schedules.{Schedule}

-- what is run, and what has happened
pub record YardModel : Type 0 where
  pub schedule : Schedule
  pub history : List Event
