-- The lines of a plan's timetable are of shipments and arcs that exist.
use Rattle.std.proofs.Common.{List, get_or, arith}
use Rattle.std.specs.Prelude.{All}
use Rattle.fp_model.specs.declared.parts.Leg.{Leg}
use Rattle.fp_model.specs.Costs.{all_legs}
use Rattle.fp_model.specs.Plans.{IsPlan}
use Rattle.fp_model.specs.Problem.{Problem, IsValid}
use Rattle.fp_timetable.specs.declared.lines.LegLine.{LegLine}
use Rattle.fp_timetable.specs.declared.lines.TruckLine.{TruckLine}
use Rattle.fp_timetable.specs.Lines.{AreLegLines, AreTruckLines, IsLegLine, LegExists, TruckExists, departure, line_leg}
use Rattle.fp_timetable.proofs.PlanLegs.{GoesByArc, IsReady, IsReady-plan}
use Rattle.fp_timetable.proofs.OrderedLines.{arcs-of, has-each}
use Rattle.fp_model.proofs.Members.{has_leg-all_legs}

-- the shipment and the arc of each leg line exist
pub LegExists-plan : (p : Problem) (routes : List (List Leg)) (lines : List LegLine) → IsValid p → IsPlan p 1 routes → AreLegLines p routes lines → All (LegExists p) lines
LegExists-plan p routes lines valid plan are = λ i d lt.
    let l : LegLine = get_or lines i d in
    let line : IsLegLine p routes l = are.legs i d lt in
    let ready : IsReady p routes = IsReady-plan p routes valid plan in
    (omega (arith, line.shipment, ready.long), has-each (GoesByArc p) (line_leg l) (all_legs routes) ready.exist (has_leg-all_legs routes l.shipment (line_leg l) line.leg))

-- the arc of each truck line exists
pub TruckExists-plan : (p : Problem) (routes : List (List Leg)) (lines : List TruckLine) → IsValid p → IsPlan p 1 routes → AreTruckLines p routes lines → All (TruckExists p) lines
TruckExists-plan p routes lines valid plan are = arcs-of departure p routes lines (IsReady-plan p routes valid plan).exist are.departures
