-- What `fleet` shows.
-- The source: Dantzig and Fulkerson, "Minimizing the number of tankers to meet a fixed schedule",
-- Naval Research Logistics Quarterly 1, 1954.
use Rattle.std.specs.Prelude.{◌≡◌, Bool, true, false, List, Option}
use Rattle.fp_model.specs.declared.parts.Leg.{Leg}
use Rattle.fp_model.specs.Problem.{Problem}
use Rattle.fp_timetable.specs.declared.lines.TruckLine.{TruckLine}
use Rattle.fp_certificate_lines.specs.Statements.{Statement}
use Rattle.fp_fleet.specs.declared.days.Run.{Run}
use Rattle.fp_fleet.specs.Fleets.{Assignment, IsFewest}
use Rattle.fp_fleet.specs.Rosters.{NoRosterSmaller}
use Rattle.fp_fleet.specs.TruckDays.{AreTold}
use Rattle.fp_app.specs.declared.shown.Shown.{Shown}
use Rattle.fp_app.specs.declared.shown.Shown.TheVariants as shown
use Rattle.fp_app.specs.Plans.{IsToldPlan, ShowsUntold}
use Rattle.fp_app.specs.Wanted.{Wanted}

-- a fleet that runs the lines, with what each terminal needs: it is accepted, and no roster of the
-- lines takes fewer trucks
pub record IsSmallestFleet (p : Problem) (lines : List TruckLine) (fleet : Assignment) : Type 0 where
  pub fewest : IsFewest p lines fleet
  pub none : NoRosterSmaller p lines fleet.total

-- what is shown of a certificate: the plan that it tells, with a fleet of the plan's truck lines,
-- which are those of the certificate, or why it tells none; with the option of trucks also what each
-- truck runs, if that is not too much to tell
abbrev pub ShowsFleet : (trucks : Bool) → Problem → Wanted → Statement → Shown → Type 0
ShowsFleet trucks p wanted c (shown.Fleet instance plan fleet) = (trucks ≡ false) × (instance ≡ p) × IsToldPlan p wanted c plan × IsSmallestFleet p c.trucks fleet
ShowsFleet trucks p wanted c (shown.Trucks instance plan fleet told) =
    (trucks ≡ true) × (instance ≡ p) × IsToldPlan p wanted c plan × IsSmallestFleet p c.trucks fleet × AreTold p c.trucks fleet told
ShowsFleet trucks p wanted c (shown.RejectedPart number) = ShowsUntold p wanted c number
ShowsFleet trucks p wanted c _ = ⊥

-- a plan is shown with a fleet of lines, and with the option of trucks also what each truck runs
abbrev pub IsShownFleet : (trucks : Bool) → Problem → List TruckLine → List (List Leg) → Assignment → Shown → Type 0
IsShownFleet false p lines plan fleet result = result ≡ shown.Fleet p plan fleet
IsShownFleet true p lines plan fleet result = (told : Option (List (List Run))) × (result ≡ shown.Trucks p plan fleet told) × AreTold p lines fleet told

-- what is shown is the plan that a certificate tells, with a fleet of its truck lines that no roster of them undercuts
pub record IsShownRoster (trucks : Bool) (p : Problem) (wanted : Wanted) (c : Statement) (result : Shown) : Type 0 where
  pub plan : List (List Leg)
  pub fleet : Assignment
  pub shows : IsShownFleet trucks p c.trucks plan fleet result
  pub told : IsToldPlan p wanted c plan
  pub smallest : IsSmallestFleet p c.trucks fleet
