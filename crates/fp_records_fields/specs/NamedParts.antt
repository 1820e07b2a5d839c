-- Shipments, terminals and arcs by the names in the fields of a record.
use Rattle.std.specs.Prelude.{ℕ, List, Bool, ◌&&◌, ◌==◌, Option, Some, None, is_none, unwrap_or, position}
use Rattle.fp_model.specs.declared.parts.Arc.{Arc}
use Rattle.fp_model.specs.Problem.{Problem}
use Rattle.fp_records_fields.specs.Fields.{field}
use Rattle.fp_records_fields.specs.Indexes.{shipment_names}
use Rattle.fp_records_fields.specs.Names.{number_of}

-- whether an arc goes from the one terminal to the other
abbrev pub joins : (from to : ℕ) → Arc → Bool
joins from to arc = (from == arc.from) && (to == arc.to)

-- the number of the shipment with a name, if there is one
abbrev pub shipment_named : Problem → List ℕ → Option ℕ
shipment_named p name = number_of (shipment_names p.shipments) name

-- the number of the terminal with a name, if there is one
abbrev pub terminal_named : Problem → List ℕ → Option ℕ
terminal_named p name = number_of p.terminals name

-- the number of the arc from one terminal to another, if both are there and it is
abbrev pub arc_between : Problem → Option ℕ → Option ℕ → Option ℕ
arc_between p (Some from) (Some to) = position (joins from to) p.arcs
arc_between p (Some from) None = None
arc_between p None to = None

-- the number of the arc from the terminal with one name to that with another, if there is one
abbrev pub arc_named : Problem → (from to : List ℕ) → Option ℕ
arc_named p from to = arc_between p (terminal_named p from) (terminal_named p to)

-- whether the field at a place names no shipment
abbrev pub lacks_shipment : Problem → List (List ℕ) → ℕ → Bool
lacks_shipment p fields place = is_none (shipment_named p (field fields place))

-- whether the field at a place names no terminal
abbrev pub lacks_terminal : Problem → List (List ℕ) → ℕ → Bool
lacks_terminal p fields place = is_none (terminal_named p (field fields place))

-- whether the fields at two places name no ends that an arc joins
abbrev pub lacks_arc : Problem → List (List ℕ) → (from to : ℕ) → Bool
lacks_arc p fields from to = is_none (arc_named p (field fields from) (field fields to))

-- the shipment that the field at a place names
abbrev pub shipment_in : Problem → List (List ℕ) → ℕ → ℕ
shipment_in p fields place = unwrap_or (shipment_named p (field fields place)) 0

-- the terminal that the field at a place names
abbrev pub terminal_in : Problem → List (List ℕ) → ℕ → ℕ
terminal_in p fields place = unwrap_or (terminal_named p (field fields place)) 0

-- the arc whose ends the fields at two places name
abbrev pub arc_in : Problem → List (List ℕ) → (from to : ℕ) → ℕ
arc_in p fields from to = unwrap_or (arc_named p (field fields from) (field fields to)) 0
