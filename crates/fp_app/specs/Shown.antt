-- What is shown, and its status.
use Rattle.std.specs.Prelude.{ℕ, ◌<◌, List, length, ⊤, ◌≤◌}
use Rattle.fp_model.specs.Plans.{IsPlan}
use Rattle.fp_model.specs.Problem.{Problem}
use Rattle.fp_certificate_rules.specs.Accepted.{claim_of}
use Rattle.fp_certificate_rules.specs.Plans.{stated_cost}
use Rattle.fp_certificate_lines.specs.declared.certificates.Answer.{Answer}
use Rattle.fp_certificate_lines.specs.declared.certificates.Answer.TheVariants as answer
use Rattle.fp_certificate_lines.specs.Ranges.{AnswerExists, IsNamed}
use Rattle.fp_timetable.specs.declared.lines.TruckLine.{TruckLine}
use Rattle.fp_timetable.specs.Lines.{AreTruckLines}
use Rattle.fp_fleet.specs.DayRows.{RunsExist}
use Rattle.fp_fleet.specs.Rows.{IsShowable}
use Rattle.fp_yard_sheets.specs.Rows.{EventsExist}
use Rattle.fp_app.specs.declared.shown.Shown.{Shown}
use Rattle.fp_app.specs.declared.shown.Shown.TheVariants as shown
use Rattle.fp_app.specs.declared.shown.Status.{Status}
use Rattle.fp_app.specs.declared.shown.Status.TheVariants as status

-- the status of a search that ended with this answer
abbrev pub search_status : Answer → Status
search_status (answer.Unfinished cost bound spent) = status.Unfinished
search_status _ = status.Done

-- the status of two searches that ended with these answers: done where both are
abbrev pub both_status : Answer → Answer → Status
both_status (answer.Unfinished cost bound spent) other = status.Unfinished
both_status _ other = search_status other

-- the status of a run that showed this to its end
abbrev pub status_of : Shown → Status
status_of (shown.Direct instance plan) = status.Done
status_of (shown.Bound instance price tables spans value) = status.Done
status_of (shown.Planned instance solved) = search_status solved.certificate.answer
status_of (shown.Trial seed failed instance solved) = search_status solved.certificate.answer
status_of (shown.Replanned instance kept solved) = search_status solved.certificate.answer
status_of (shown.Underway instance day rest solved) = search_status solved.certificate.answer
status_of (shown.Stuck instance shipment) = status.Infeasible
status_of (shown.Quoted instance before after) = both_status before.certificate.answer after.certificate.answer
status_of (shown.NamedQuote instance before after more) = both_status before.certificate.answer after.certificate.answer
status_of (shown.Infeasible instance shipment time) = status.Infeasible
status_of (shown.Accepted kind) = status.Done
status_of (shown.RejectedPart number) = status.Rejected
status_of (shown.Yard instance plan log) = status.Done
status_of (shown.Fleet instance plan fleet) = status.Done
status_of (shown.Trucks instance plan fleet told) = status.Done
status_of shown.BadWords = status.BadWords
status_of (shown.BadInput ordinal code) = status.BadInput
status_of shown.TooLong = status.TooLong
status_of shown.Nothing = status.NoMemory

-- the number of a status
abbrev pub status_code : Status → ℕ
status_code status.Done = 0
status_code status.Unfinished = 10
status_code status.Infeasible = 11
status_code status.Rejected = 12
status_code status.BadWords = 20
status_code status.BadInput = 21
status_code status.TooLong = 22
status_code status.ReadFault = 30
status_code status.WriteFault = 31
status_code status.NoMemory = 40

-- an answer that says what a plan costs and under what none does
abbrev pub IsBracketed : Answer → Type 0
IsBracketed (answer.Optimal cost) = ⊤
IsBracketed (answer.Unfinished cost bound spent) = ⊤
IsBracketed _ = ⊥

-- the answers of two searches, without the last shipment and with it, tell what it adds: there is one,
-- and what no plan without it costs less than is at most the cost of the plan with it
pub record CanBeQuoted (p : Problem) (before after : Answer) : Type 0 where
  pub shipment : 1 ≤ length p.shipments
  pub without : IsBracketed before
  pub with_it : IsBracketed after
  pub ascends : claim_of before ≤ stated_cost after

-- what is shown can be printed: each plan is one of its instance, and each number exists there
abbrev pub IsPrintable : Shown → Type 0
IsPrintable (shown.Direct instance plan) = IsPlan instance 1 plan
IsPrintable (shown.Planned instance solved) = IsNamed instance solved.certificate
IsPrintable (shown.Trial seed failed instance solved) = AnswerExists instance solved.certificate.answer
IsPrintable (shown.Replanned instance kept solved) = IsNamed instance solved.certificate
IsPrintable (shown.Underway instance day rest solved) = IsNamed rest.instance solved.certificate
IsPrintable (shown.Stuck instance shipment) = shipment < length instance.shipments
IsPrintable (shown.Quoted instance before after) = CanBeQuoted instance before.certificate.answer after.certificate.answer
IsPrintable (shown.NamedQuote instance before after more) = CanBeQuoted instance before.certificate.answer after.certificate.answer
IsPrintable (shown.Infeasible instance shipment time) = shipment < length instance.shipments
IsPrintable (shown.Yard instance plan log) = IsPlan instance 1 plan × ((lines : List TruckLine) → AreTruckLines instance plan lines → EventsExist lines log.items)
IsPrintable (shown.Fleet instance plan fleet) = IsPlan instance 1 plan × ((lines : List TruckLine) → AreTruckLines instance plan lines → IsShowable instance lines fleet)
IsPrintable (shown.Trucks instance plan fleet told) =
    IsPlan instance 1 plan × ((lines : List TruckLine) → AreTruckLines instance plan lines → IsShowable instance lines fleet)
    × ((lines : List TruckLine) → AreTruckLines instance plan lines → RunsExist (length lines) told)
IsPrintable _ = ⊤
