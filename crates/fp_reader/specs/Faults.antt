-- The faults of a record, each with its code, given what the records before it have given. The
-- least code decides. A name field is each field that holds a name: those that name an end too.
use Rattle.std.specs.Prelude.{ℕ, List, [], ◌∷◌, length, Bool, ◌&&◌, ◌||◌, not, ◌==◌, nat_le, nat_lt, if◌then◌else◌, Option, Some, codes}
use Rattle.std.specs.List.{list_any}
use Rattle.fp_model.specs.declared.limits.TheConstants.{GREATEST_AMOUNT, GREATEST_HOLD, LATEST, MOST_ARCS, MOST_SHIPMENTS, MOST_TERMINALS}
use Rattle.fp_model.specs.Problem.{Problem}
use Rattle.fp_records_fields.specs.Fields.{field, has_name, has_number, is_between, is_kind, number_at}
use Rattle.fp_records_fields.specs.Findings.{Finding, finding, first_code}
use Rattle.fp_records_fields.specs.Indexes.{shipment_names}
use Rattle.fp_records_fields.specs.NamedParts.{joins, lacks_terminal, terminal_in}
use Rattle.fp_records_fields.specs.Names.{is_taken}
use Rattle.fp_reader.specs.Parts.{hold_in}

-- whether an earlier arc goes from the one terminal to the other
abbrev pub has_arc : Problem → ℕ → ℕ → Bool
has_arc before from to = list_any (joins from to) before.arcs

-- whether the number of fields of a terminal's record is right
abbrev pub has_terminal_fields : List (List ℕ) → Bool
has_terminal_fields fields = length fields == 2 || length fields == 3

-- whether a terminal's record has a hold that is no number
abbrev pub has_bad_hold : List (List ℕ) → Bool
has_bad_hold fields = length fields == 3 && not (has_number fields 2)

-- whether the ends of an arc's record may be names
abbrev pub has_arc_names : List (List ℕ) → Bool
has_arc_names fields = has_name fields 1 && has_name fields 2

-- whether the numbers of an arc's record are numbers
abbrev pub has_arc_digits : List (List ℕ) → Bool
has_arc_digits fields = has_number fields 3 && has_number fields 4 && has_number fields 5 && has_number fields 6

-- whether they are within their limits
abbrev pub has_arc_ranges : List (List ℕ) → Bool
has_arc_ranges fields =
    is_between 1 LATEST fields 3 && is_between 1 GREATEST_AMOUNT fields 4 && is_between 0 GREATEST_AMOUNT fields 5 && is_between 0 GREATEST_AMOUNT fields 6

-- whether the name and the ends of a shipment's record may be names
abbrev pub has_shipment_names : List (List ℕ) → Bool
has_shipment_names fields = has_name fields 1 && has_name fields 2 && has_name fields 3

-- whether the numbers of a shipment's record are numbers
abbrev pub has_shipment_digits : List (List ℕ) → Bool
has_shipment_digits fields = has_number fields 4 && has_number fields 5 && has_number fields 6

-- whether they are within their limits
abbrev pub has_shipment_ranges : List (List ℕ) → Bool
has_shipment_ranges fields = is_between 1 GREATEST_AMOUNT fields 4 && is_between 0 LATEST fields 5 && is_between 0 LATEST fields 6

-- whether one of two fields names no earlier terminal
abbrev pub lacks_end : Problem → List (List ℕ) → (from to : ℕ) → Bool
lacks_end before fields from to = lacks_terminal before fields from || lacks_terminal before fields to

-- whether two fields name one terminal
abbrev pub has_same_ends : Problem → List (List ℕ) → ℕ → ℕ → Bool
has_same_ends before fields from to = terminal_in before fields from == terminal_in before fields to

-- the faults of `terminal,NAME` or `terminal,NAME,HOLD`
abbrev pub terminal_faults : Problem → List (List ℕ) → List Finding
terminal_faults before fields =
    finding 2 (not (has_terminal_fields fields))
    ∷ finding 3 (not (has_name fields 1))
    ∷ finding 4 (has_bad_hold fields)
    ∷ finding 5 (nat_lt GREATEST_HOLD (hold_in fields))
    ∷ finding 6 (is_taken before.terminals (field fields 1))
    ∷ finding 11 (nat_le MOST_TERMINALS (length before.terminals))
    ∷ []

-- the faults of `arc,FROM,TO,TIME,CAPACITY,TRUCK,FREIGHT`; FROM and TO are names too
abbrev pub arc_faults : Problem → List (List ℕ) → List Finding
arc_faults before fields =
    finding 2 (not (length fields == 7))
    ∷ finding 3 (not (has_arc_names fields))
    ∷ finding 4 (not (has_arc_digits fields))
    ∷ finding 5 (not (has_arc_ranges fields))
    ∷ finding 7 (lacks_end before fields 1 2)
    ∷ finding 8 (has_same_ends before fields 1 2)
    ∷ finding 9 (has_arc before (terminal_in before fields 1) (terminal_in before fields 2))
    ∷ finding 11 (nat_le MOST_ARCS (length before.arcs))
    ∷ []

-- the faults of `shipment,NAME,FROM,TO,SIZE,RELEASE,DUE`; FROM and TO are names too
abbrev pub shipment_faults : Problem → List (List ℕ) → List Finding
shipment_faults before fields =
    finding 2 (not (length fields == 7))
    ∷ finding 3 (not (has_shipment_names fields))
    ∷ finding 4 (not (has_shipment_digits fields))
    ∷ finding 5 (not (has_shipment_ranges fields))
    ∷ finding 6 (is_taken (shipment_names before.shipments) (field fields 1))
    ∷ finding 7 (lacks_end before fields 2 3)
    ∷ finding 8 (has_same_ends before fields 2 3)
    ∷ finding 10 (nat_lt (number_at fields 6) (number_at fields 5))
    ∷ finding 11 (nat_le MOST_SHIPMENTS (length before.shipments))
    ∷ []

-- the least code of a fault of a record, if it has one
abbrev pub record_code : Problem → List (List ℕ) → Option ℕ
record_code before fields =
    if is_kind (codes "terminal") fields then first_code (terminal_faults before fields)
    else if is_kind (codes "arc") fields then first_code (arc_faults before fields)
    else if is_kind (codes "shipment") fields then first_code (shipment_faults before fields)
    else Some 1
