-- What fields name exists where the instance doesn't lack it.
use Rattle.std.proofs.Common.{◌≡◌, ℕ, ◌<◌, false, List, length, refl, arith}
use Rattle.std.specs.Prelude.{Option, Some, None, is_none, position, unwrap_or}
use Rattle.std.proofs.lemmas.List.{length-map}
use Rattle.std.proofs.lemmas.List.Quantifiers.{position-Some}
use Rattle.fp_model.specs.declared.parts.Shipment.{Shipment}
use Rattle.fp_model.specs.Problem.{Problem, no_arc}
use Rattle.fp_records_fields.specs.Fields.{field}
use Rattle.fp_records_fields.specs.Indexes.{shipment_names}
use Rattle.fp_records_fields.specs.NamedParts.{arc_between, arc_in, joins, lacks_arc, lacks_shipment, lacks_terminal, shipment_in, terminal_in, terminal_named}
use Rattle.fp_records_fields.proofs.NameNumbers.{number_of-lt}

-- a shipment that is named
pub shipment_in-lt : (p : Problem) (fields : List (List ℕ)) (place : ℕ) → lacks_shipment p fields place ≡ false → shipment_in p fields place < length p.shipments
shipment_in-lt p fields place named =
    omega (arith, number_of-lt (shipment_names p.shipments) (field fields place) _ refl named, length-map p.shipments (λ (s : Shipment). s.name))

-- a terminal that is named
pub terminal_in-lt : (p : Problem) (fields : List (List ℕ)) (place : ℕ) → lacks_terminal p fields place ≡ false → terminal_in p fields place < length p.terminals
terminal_in-lt p fields place named = number_of-lt p.terminals (field fields place) _ refl named

found-lt : (p : Problem) (from to : ℕ) (number : Option ℕ) → position (joins from to) p.arcs ≡ number → is_none number ≡ false → unwrap_or number 0 < length p.arcs
found-lt p from to None e named = absurd (cc named)
found-lt p from to (Some i) e named = (position-Some (joins from to) p.arcs i no_arc e).0

arc_between-lt : (p : Problem) (from to : Option ℕ) → is_none (arc_between p from to) ≡ false → unwrap_or (arc_between p from to) 0 < length p.arcs
arc_between-lt p (Some from) (Some to) named = found-lt p from to _ refl named
arc_between-lt p (Some from) None named = absurd (cc named)
arc_between-lt p None to named = absurd (cc named)

-- an arc whose ends are named
pub arc_in-lt : (p : Problem) (fields : List (List ℕ)) (from to : ℕ) → lacks_arc p fields from to ≡ false → arc_in p fields from to < length p.arcs
arc_in-lt p fields from to named = arc_between-lt p (terminal_named p (field fields from)) (terminal_named p (field fields to)) named
