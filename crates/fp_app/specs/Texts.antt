-- The text of what is shown. Fields are joined by commas, each line ends with a line feed, numbers
-- are decimal.
use Rattle.std.specs.Prelude.{ℕ, ◌-◌, ◌≡◌, List, [], ◌∷◌, Option, None, Some, codes, decimal, length}
use Rattle.fp_records.specs.Text.{line_of, lines_of}
use Rattle.fp_model.specs.declared.parts.Leg.{Leg}
use Rattle.fp_model.specs.Costs.{cost}
use Rattle.fp_model.specs.Problem.{Problem}
use Rattle.fp_timetable.specs.declared.lines.LegLine.{LegLine}
use Rattle.fp_timetable.specs.declared.lines.TruckLine.{TruckLine}
use Rattle.fp_timetable.specs.Lines.{AreLegLines, AreTruckLines}
use Rattle.fp_certificate_lines.specs.declared.certificates.Answer.{Answer}
use Rattle.fp_certificate_lines.specs.declared.certificates.Answer.TheVariants as answer
use Rattle.fp_certificate_lines.specs.Rows.{answer_fields, rows_of, shipment_name}
use Rattle.fp_certificate_lines.specs.Statements.{Statement}
use Rattle.fp_fleet.specs.DayRows.{fleet_day_rows}
use Rattle.fp_fleet.specs.Rows.{fleet_rows}
use Rattle.fp_replan.specs.declared.ranges.Bracket.{Bracket}
use Rattle.fp_yard_sheets.specs.Rows.{IsYardText}
use Rattle.fp_app.specs.Bounds.{whole_units}
use Rattle.fp_app.specs.Quotes.{extra_of}
use Rattle.fp_app.specs.declared.shown.AnswerKind.{AnswerKind}
use Rattle.fp_app.specs.declared.shown.AnswerKind.TheVariants as kind
use Rattle.fp_app.specs.declared.shown.Shown.{Shown}
use Rattle.fp_app.specs.declared.shown.Shown.TheVariants as shown

-- an answer with a timetable and no more
abbrev pub timetable_of : Answer → List LegLine → List TruckLine → Statement
timetable_of a legs trucks = record { answer = a; scale = None; unit = None; legs = legs; trucks = trucks; points = []; tables = []; spans = []; gifts = []; moments = []; tree = [] }

-- the certificate of a direct plan: its cost, its legs and its departures
pub record IsDirectCertificate (p : Problem) (routes : List (List Leg)) (c : Statement) : Type 0 where
  pub legs : AreLegLines p routes c.legs
  pub trucks : AreTruckLines p routes c.trucks
  pub whole : c ≡ timetable_of (answer.Direct (cost p routes)) c.legs c.trucks

-- the text of a certificate of an instance
abbrev pub certificate_text : Problem → Statement → List ℕ
certificate_text p c = lines_of (rows_of p c)

-- the word for a kind of answer
abbrev pub kind_word : AnswerKind → List ℕ
kind_word kind.Direct = codes "direct"
kind_word kind.Optimal = codes "optimal"
kind_word kind.Unfinished = codes "unfinished"
kind_word kind.Infeasible = codes "infeasible"
kind_word kind.Stuck = codes "stuck"

-- the lines of a bound
abbrev pub bound_lines : ℕ → List ℕ
bound_lines number = lines_of ((codes "answer" ∷ codes "bound" ∷ decimal number ∷ []) ∷ (codes "end" ∷ []) ∷ [])

-- the fields of a trial's numbers, with how many arcs were drawn
abbrev pub trial_fields : (seed terminals arcs shipments : ℕ) → List (List ℕ)
trial_fields seed terminals arcs shipments = codes "trial" ∷ decimal seed ∷ decimal terminals ∷ decimal arcs ∷ decimal shipments ∷ []

-- the fields of what a check says of a certificate: that it's accepted, or the first part that fails
abbrev pub outcome_fields : (failed : Option ℕ) → List (List ℕ)
outcome_fields None = codes "checked" ∷ []
outcome_fields (Some number) = codes "rejected" ∷ decimal number ∷ []

-- the lines of a trial: its numbers, the answer, and what a check says of the certificate
abbrev pub trial_lines : (seed : ℕ) (failed : Option ℕ) → Problem → Answer → List ℕ
trial_lines seed failed p a =
    lines_of (trial_fields seed (length p.terminals) (length p.arcs) (length p.shipments) ∷ answer_fields p a ∷ outcome_fields failed ∷ [])

-- the lines of a shipment that is stuck
abbrev pub stuck_lines : List ℕ → List ℕ
stuck_lines name = lines_of ((codes "answer" ∷ codes "stuck" ∷ name ∷ []) ∷ (codes "end" ∷ []) ∷ [])

-- the lines of what the last shipment adds to the cost: at least and at most so much
abbrev pub quote_lines : List ℕ → Bracket → List ℕ
quote_lines name extra = lines_of ((codes "quote" ∷ name ∷ decimal extra.low ∷ decimal extra.high ∷ []) ∷ (codes "end" ∷ []) ∷ [])

-- which of two searches ended unfinished, by their answers
abbrev pub open_word : Answer → Answer → List ℕ
open_word (answer.Unfinished cost bound spent) (answer.Unfinished other_cost other_bound other_spent) = codes "both"
open_word (answer.Unfinished cost bound spent) other = codes "before"
open_word other (answer.Unfinished cost bound spent) = codes "after"
open_word first second = codes "none"

-- the fields of what a named shipment adds: at least and at most so much, between the two plans in hand, and
-- which of the two searches ended unfinished; and its lines
abbrev pub named_quote_fields : List ℕ → Bracket → ℕ → List ℕ → List (List ℕ)
named_quote_fields name extra more ends = codes "quote" ∷ name ∷ decimal extra.low ∷ decimal extra.high ∷ decimal more ∷ ends ∷ []

abbrev pub named_quote_lines : List ℕ → Bracket → ℕ → List ℕ → List ℕ
named_quote_lines name extra more ends = lines_of (named_quote_fields name extra more ends ∷ (codes "end" ∷ []) ∷ [])

-- it is the text of what is shown
abbrev pub IsText : Shown → List ℕ → Type 0
IsText (shown.Direct p routes) text =
    (c : Statement) × IsDirectCertificate p routes c × (text ≡ certificate_text p c)
IsText (shown.Bound p price tables spans value) text = text ≡ bound_lines (whole_units p value)
IsText (shown.Planned p solved) text = text ≡ certificate_text p solved.certificate
IsText (shown.Trial seed failed p solved) text = text ≡ trial_lines seed failed p solved.certificate.answer
IsText (shown.Replanned p kept solved) text = text ≡ certificate_text p solved.certificate
IsText (shown.Underway p day rest solved) text = text ≡ certificate_text rest.instance solved.certificate
IsText (shown.Stuck p shipment) text = text ≡ stuck_lines (shipment_name p shipment)
IsText (shown.Quoted p before after) text = text ≡ quote_lines (shipment_name p (length p.shipments - 1)) (extra_of before.certificate.answer after.certificate.answer)
IsText (shown.NamedQuote p before after more) text =
    text ≡ named_quote_lines (shipment_name p (length p.shipments - 1)) (extra_of before.certificate.answer after.certificate.answer) more (open_word before.certificate.answer after.certificate.answer)
IsText (shown.Infeasible p shipment time) text = text ≡ certificate_text p (timetable_of (answer.Infeasible shipment time) [] [])
IsText (shown.Accepted kind) text = text ≡ line_of (codes "accepted" ∷ kind_word kind ∷ [])
IsText (shown.RejectedPart number) text = text ≡ line_of (codes "rejected" ∷ decimal number ∷ [])
IsText (shown.Yard p plan log) text = (lines : List TruckLine) → AreTruckLines p plan lines → IsYardText p plan lines log.items text
IsText (shown.Fleet p plan fleet) text = (lines : List TruckLine) → AreTruckLines p plan lines → text ≡ lines_of (fleet_rows p lines fleet)
IsText (shown.Trucks p plan fleet told) text = (lines : List TruckLine) → AreTruckLines p plan lines → text ≡ lines_of (fleet_day_rows p lines fleet told)
IsText shown.BadWords text = text ≡ line_of (codes "refused" ∷ codes "words" ∷ [])
IsText (shown.BadInput ordinal code) text = text ≡ line_of (codes "refused" ∷ decimal ordinal ∷ decimal code ∷ [])
IsText shown.TooLong text = text ≡ line_of (codes "refused" ∷ codes "long" ∷ [])
IsText shown.Nothing text = text ≡ []
