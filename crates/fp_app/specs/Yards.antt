-- What `yard` shows.
use Rattle.std.specs.Prelude.{ℕ, ◌<◌, ◌≡◌, List, length, true}
use Rattle.std.specs.declared.alloc.Global.{Global}
use Rattle.std.specs.declared.vec.Vec.{Vec}
use Rattle.fp_model.specs.declared.parts.Leg.{Leg}
use Rattle.fp_model.specs.Problem.{Problem}
use Rattle.fp_certificate_lines.specs.Statements.{Statement}
use Rattle.fp_yard.specs.declared.events.Event.{Event}
use Rattle.fp_yard.specs.Choices.{IsChosen}
use Rattle.fp_yard.specs.Events.{IsLegal, arrived, departed}
use Rattle.fp_yard.specs.Schedules.{HasEnds, IsPlanSchedule, IsSound, Schedule}
use Rattle.fp_app.specs.declared.shown.Shown.{Shown}
use Rattle.fp_app.specs.declared.shown.Shown.TheVariants as shown
use Rattle.fp_app.specs.Plans.{IsToldPlan, ShowsUntold}
use Rattle.fp_app.specs.Wanted.{Wanted}

-- The log of a plan that is run at its terminals to its end: a legal history of the plan's schedule,
-- which the draws from a seed choose, in which each line departs and arrives. Since it is legal, each
-- does so once.
pub record IsDrawnLog (p : Problem) (plan : List (List Leg)) (seed : ℕ) (log : List Event) : Type 0 where
  pub schedule : Schedule
  pub is : IsPlanSchedule p plan schedule
  pub sound : IsSound schedule
  pub ends : HasEnds p schedule
  pub legal : IsLegal schedule log
  pub chosen : IsChosen schedule seed log
  pub each : (line : ℕ) → line < length schedule.tails → (departed log line ≡ true) × (arrived log line ≡ true)

-- what is shown of a certificate: the plan that it tells, with the log that draws from a seed choose,
-- or why it tells none
abbrev pub ShowsYard : ℕ → Problem → Wanted → Statement → Shown → Type 0
ShowsYard seed p wanted c (shown.Yard instance plan log) = (instance ≡ p) × IsToldPlan p wanted c plan × IsDrawnLog p plan seed log.items
ShowsYard seed p wanted c (shown.RejectedPart number) = ShowsUntold p wanted c number
ShowsYard seed p wanted c _ = ⊥

-- what is shown is the plan that a certificate tells, with that log
pub record IsShownRun (seed : ℕ) (p : Problem) (wanted : Wanted) (c : Statement) (result : Shown) : Type 0 where
  pub plan : List (List Leg)
  pub log : Vec Event Global
  pub shows : result ≡ shown.Yard p plan log
  pub told : IsToldPlan p wanted c plan
  pub drawn : IsDrawnLog p plan seed log.items
