-- The plan that a certificate tells, whatever its answer claims of other plans. Points, tables and
-- tree aren't looked at.
use Rattle.std.specs.Prelude.{ℕ, ◌≡◌, List}
use Rattle.fp_model.specs.declared.parts.Leg.{Leg}
use Rattle.fp_model.specs.Problem.{Problem}
use Rattle.fp_flatnet.specs.Tables.{WindowTable, windows_in}
use Rattle.fp_certificate_lines.specs.Statements.{Statement}
use Rattle.fp_certificate_rules.specs.Plans.{HasTimetable, routes_of}
use Rattle.fp_checker.specs.Rejections.{IsPlanRejected, TellsPlan}
use Rattle.fp_app.specs.Wanted.{AreWindowsFor, Wanted}

-- the certificate tells a plan of the instance, under the windows of the wanted plans: its answer comes with
-- one, the legs are a plan in whole units within them, and the cost and the departures are that plan's
pub record TellsTimetable (p : Problem) (wanted : Wanted) (c : Statement) : Type 0 where
  pub table : WindowTable
  pub windows : AreWindowsFor p wanted table
  pub answer : TellsPlan c.answer
  pub timetable : HasTimetable p (windows_in table) c

-- it is the plan that the certificate tells
pub record IsToldPlan (p : Problem) (wanted : Wanted) (c : Statement) (plan : List (List Leg)) : Type 0 where
  pub tells : TellsTimetable p wanted c
  pub is : plan ≡ routes_of p c

-- the certificate tells no plan, and this is why: 1 where the answer comes with none, and otherwise
-- the first of the plan, its cost and its departures that fails, by its number
pub record ShowsUntold (p : Problem) (wanted : Wanted) (c : Statement) (number : ℕ) : Type 0 where
  pub table : WindowTable
  pub windows : AreWindowsFor p wanted table
  pub first : IsPlanRejected p table c c.answer number
  pub untold : TellsTimetable p wanted c → ⊥
