-- The fields of a yard's lines of text, in order. A field is a list of bytes; numbers are decimal
-- without leading zeros.
use Rattle.std.specs.Prelude.{ℕ, ◌+◌, ◌<◌, ◌≡◌, ◌==◌, List, [], ◌∷◌, ◌++◌, length, map, All, codes, decimal, slice_index_or, if◌then◌else◌}
use Rattle.std.specs.List.{flat_map}
use Rattle.fp_records.specs.Text.{lines_of}
use Rattle.fp_model.specs.declared.parts.Leg.{Leg}
use Rattle.fp_model.specs.declared.parts.Shipment.{Shipment}
use Rattle.fp_model.specs.Costs.{has_leg}
use Rattle.fp_model.specs.Problem.{Problem, arc_at}
use Rattle.fp_timetable.specs.declared.lines.TruckLine.{TruckLine}
use Rattle.fp_timetable.specs.Lines.{departure}
use Rattle.fp_yard.specs.declared.events.Event.{Event}
use Rattle.fp_yard.specs.declared.events.EventKind.{EventKind}
use Rattle.fp_yard.specs.declared.events.EventKind.TheVariants.{Departs, Arrives}
use Rattle.fp_yard.specs.Schedules.{line_at}
use Rattle.fp_yard_sheets.specs.declared.arrivals.Arrival.{Arrival}
use Rattle.fp_yard_sheets.specs.Arrivals.{AreByMoment}

-- the name of the terminal with a number
abbrev pub terminal_name : Problem → ℕ → List ℕ
terminal_name p terminal = slice_index_or p.terminals terminal []

-- the terminal that a line leaves, and the one that it enters
abbrev pub tail_of : Problem → TruckLine → ℕ
tail_of p t = (arc_at p t.arc).from

abbrev pub head_of : Problem → TruckLine → ℕ
head_of p t = (arc_at p t.arc).to

-- their names
abbrev pub tail_name : Problem → TruckLine → List ℕ
tail_name p t = terminal_name p (tail_of p t)

abbrev pub head_name : Problem → TruckLine → List ℕ
head_name p t = terminal_name p (head_of p t)

-- `yard,LINES`
abbrev pub yard_fields : ℕ → List (List ℕ)
yard_fields count = codes "yard" ∷ decimal count ∷ []

-- `out,TERMINAL,TO,DEPART,TRUCKS`
abbrev pub out_fields : Problem → TruckLine → List (List ℕ)
out_fields p t = codes "out" ∷ tail_name p t ∷ head_name p t ∷ decimal t.depart ∷ decimal t.trucks ∷ []

-- `load,SHIPMENT`
abbrev pub load_fields : Shipment → List (List ℕ)
load_fields s = codes "load" ∷ s.name ∷ []

-- `in,TERMINAL,FROM,ARRIVE`
abbrev pub in_fields : Problem → List TruckLine → Arrival → List (List ℕ)
in_fields p lines a = codes "in" ∷ head_name p (line_at lines a.line) ∷ tail_name p (line_at lines a.line) ∷ decimal a.at ∷ []

-- `departs` or `arrives`
abbrev pub event_word : EventKind → List ℕ
event_word Departs = codes "departs"
event_word Arrives = codes "arrives"

-- `departs,FROM,TO,DEPART` or `arrives,FROM,TO,DEPART`
abbrev pub event_fields : Problem → List TruckLine → Event → List (List ℕ)
event_fields p lines e =
    event_word e.kind ∷ tail_name p (line_at lines e.line) ∷ head_name p (line_at lines e.line) ∷ decimal (line_at lines e.line).depart ∷ []

-- `end`
abbrev pub end_fields : List (List ℕ)
end_fields = codes "end" ∷ []

-- the line of a shipment whose route has the leg
abbrev pub load_row : Leg → Shipment → List Leg → List (List (List ℕ))
load_row leg s route = if has_leg leg route then load_fields s ∷ [] else []

-- the lines of the shipments that have the leg, by shipment
abbrev pub load_rows : Leg → List Shipment → List (List Leg) → List (List (List ℕ))
load_rows leg [] routes = []
load_rows leg (s ∷ shipments) [] = []
load_rows leg (s ∷ shipments) (route ∷ routes) = load_row leg s route ++ load_rows leg shipments routes

-- the line of a truck line that leaves a terminal, followed by its freight
abbrev pub out_rows : Problem → List (List Leg) → ℕ → TruckLine → List (List (List ℕ))
out_rows p routes v t = if tail_of p t == v then out_fields p t ∷ load_rows (departure t) p.shipments routes else []

-- the line of a truck line that enters a terminal
abbrev pub in_rows : Problem → List TruckLine → ℕ → Arrival → List (List (List ℕ))
in_rows p lines v a = if head_of p (line_at lines a.line) == v then in_fields p lines a ∷ [] else []

-- the sheet of a terminal: the lines that leave it, by their numbers, and those that enter it, by
-- their arrivals
abbrev pub sheet_rows : Problem → List (List Leg) → List TruckLine → List Arrival → ℕ → List (List (List ℕ))
sheet_rows p routes lines arrivals v = flat_map (out_rows p routes v) lines ++ flat_map (in_rows p lines v) arrivals

-- the sheets of terminals that are numbered from a number on
abbrev pub sheets_from : Problem → List (List Leg) → List TruckLine → List Arrival → ℕ → List (List ℕ) → List (List (List ℕ))
sheets_from p routes lines arrivals v [] = []
sheets_from p routes lines arrivals v (name ∷ names) = sheet_rows p routes lines arrivals v ++ sheets_from p routes lines arrivals (v + 1) names

-- the lines of a yard's text: how many truck lines there are, the sheets, and the log
abbrev pub yard_rows : Problem → List (List Leg) → List TruckLine → List Arrival → List Event → List (List (List ℕ))
yard_rows p routes lines arrivals log =
    yard_fields (length lines)
    ∷ (sheets_from p routes lines arrivals 0 p.terminals
    ++ (map (event_fields p lines) log
    ++ (end_fields ∷ [])))

-- it is the text of a yard of truck lines with a log
abbrev pub IsYardText : Problem → List (List Leg) → List TruckLine → List Event → List ℕ → Type 0
IsYardText p routes lines log text =
    (arrivals : List Arrival) × AreByMoment p lines arrivals × (text ≡ lines_of (yard_rows p routes lines arrivals log))

-- the lines of the events exist
abbrev pub EventsExist : List TruckLine → List Event → Type 0
EventsExist lines log = All (λ (e : Event). e.line < length lines) log
