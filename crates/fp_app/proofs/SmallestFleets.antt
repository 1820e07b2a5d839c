-- A fleet of the plan that a certificate tells runs the certificate's truck lines.
use Rattle.std.proofs.Common.{List, sym, subst}
use Rattle.fp_model.specs.declared.parts.Leg.{Leg}
use Rattle.fp_model.specs.Problem.{Problem}
use Rattle.fp_timetable.specs.declared.lines.TruckLine.{TruckLine}
use Rattle.fp_timetable.specs.Lines.{AreTruckLines}
use Rattle.fp_certificate_lines.specs.Statements.{Statement}
use Rattle.fp_fleet.specs.Fleets.{Assignment, IsFewest}
use Rattle.fp_fleet.proofs.SmallestRosters.{NoRosterSmaller-deficits}
use Rattle.fp_app.specs.Fleets.{IsSmallestFleet}
use Rattle.fp_app.specs.Plans.{IsToldPlan}
use Rattle.fp_app.specs.Wanted.{Wanted}

pub AreTruckLines-told : (p : Problem) (wanted : Wanted) (c : Statement) (plan : List (List Leg)) → IsToldPlan p wanted c plan → AreTruckLines p plan c.trucks
AreTruckLines-told p wanted c plan told = subst (λ (routes : List (List Leg)). AreTruckLines p routes c.trucks) (sym told.is) told.tells.timetable.trucks

pub IsSmallestFleet-told : (p : Problem) (wanted : Wanted) (c : Statement) (plan : List (List Leg)) (fleet : Assignment) → IsToldPlan p wanted c plan →
    ((lines : List TruckLine) → AreTruckLines p plan lines → IsFewest p lines fleet) → IsSmallestFleet p c.trucks fleet
IsSmallestFleet-told p wanted c plan fleet told fewest =
    let is : IsFewest p c.trucks fleet = fewest c.trucks (AreTruckLines-told p wanted c plan told) in
    record { fewest = is; none = NoRosterSmaller-deficits p c.trucks fleet.total fleet.needs is.accepted.needs }
