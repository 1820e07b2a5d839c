-- What a record without a fault gives is fit to be added.
use Rattle.std.proofs.Common.{◌≡◌, ℕ, ◌^◌, ◌<◌, ◌≤◌, false, ltb, leb, eqb, List, length, refl}
use Rattle.std.specs.Prelude.{None, not, ◌&&◌}
use Rattle.std.proofs.lemmas.Bool.{and_parts, eqb-false, leb-false, ltb-false, not-false, or_parts}
use Rattle.fp_model.specs.Names.{IsName}
use Rattle.fp_model.specs.Problem.{Problem, IsArc, IsShipment}
use Rattle.fp_reader.specs.Faults.{arc_faults, has_arc, has_arc_digits, has_arc_names, has_arc_ranges, has_bad_hold, has_same_ends, has_shipment_digits, has_shipment_names, has_shipment_ranges, has_terminal_fields, lacks_end, shipment_faults, terminal_faults}
use Rattle.fp_records_fields.specs.Fields.{field, has_name, is_between, number_at}
use Rattle.fp_records_fields.specs.Findings.{first_code}
use Rattle.fp_records_fields.specs.Indexes.{shipment_names}
use Rattle.fp_records_fields.specs.NamedParts.{lacks_terminal, terminal_in}
use Rattle.fp_records_fields.specs.Names.{is_taken}
use Rattle.fp_reader.specs.Parts.{arc_in, hold_in, shipment_in}
use Rattle.fp_records_fields.proofs.NameForm.{name-form}
use Rattle.fp_records_fields.proofs.NameNumbers.{number_of-lt}
use Rattle.fp_records_fields.proofs.Numerals.{is_between-limits}
use Rattle.fp_records_fields.proofs.FaultTables.{IsClear-from_none}

-- a terminal that may be added
pub record IsTerminalFit (p : Problem) (fields : List (List ℕ)) : Type 0 where
  pub name : IsName (field fields 1)
  pub hold : hold_in fields ≤ 1000
  pub fresh : is_taken p.terminals (field fields 1) ≡ false
  pub room : length p.terminals < 100

-- an arc that may be added
pub record IsArcFit (p : Problem) (fields : List (List ℕ)) : Type 0 where
  pub arc : IsArc (length p.terminals) (arc_in p fields)
  pub fresh : has_arc p (arc_in p fields).from (arc_in p fields).to ≡ false
  pub room : length p.arcs < 1000

-- a shipment that may be added
pub record IsShipmentFit (p : Problem) (fields : List (List ℕ)) : Type 0 where
  pub name : IsName (field fields 1)
  pub shipment : IsShipment (length p.terminals) (shipment_in p fields)
  pub fresh : is_taken (shipment_names p.shipments) (field fields 1) ≡ false
  pub room : length p.shipments < 500

-- the ends of a record that lacks no terminal
ends-there : (p : Problem) (fields : List (List ℕ)) (from to : ℕ) → lacks_end p fields from to ≡ false
    → (terminal_in p fields from < length p.terminals) × (terminal_in p fields to < length p.terminals)
ends-there p fields from to h =
    let parts = or_parts (lacks_terminal p fields from) (lacks_terminal p fields to) h in
    (number_of-lt p.terminals (field fields from) _ refl parts.0, number_of-lt p.terminals (field fields to) _ refl parts.1)

pub terminal-fits : (p : Problem) (fields : List (List ℕ)) → first_code (terminal_faults p fields) ≡ None → IsTerminalFit p fields
terminal-fits p fields h =
    let count = IsClear-from_none 2 (not (has_terminal_fields fields)) h in
    let name = IsClear-from_none 3 (not (has_name fields 1)) count.later in
    let digits = IsClear-from_none 4 (has_bad_hold fields) name.later in
    let range = IsClear-from_none 5 (ltb 1000 (hold_in fields)) digits.later in
    let fresh = IsClear-from_none 6 (is_taken p.terminals (field fields 1)) range.later in
    let room = IsClear-from_none 11 (leb 100 (length p.terminals)) fresh.later in
    record {
      name = name-form (field fields 1) (not-false (has_name fields 1) name.here);
      hold = ltb-false 1000 (hold_in fields) range.here;
      fresh = fresh.here;
      room = leb-false 100 (length p.terminals) room.here;
    }

pub arc-fits : (p : Problem) (fields : List (List ℕ)) → first_code (arc_faults p fields) ≡ None → IsArcFit p fields
arc-fits p fields h =
    let count = IsClear-from_none 2 (not (eqb (length fields) 7)) h in
    let name = IsClear-from_none 3 (not (has_arc_names fields)) count.later in
    let digits = IsClear-from_none 4 (not (has_arc_digits fields)) name.later in
    let range = IsClear-from_none 5 (not (has_arc_ranges fields)) digits.later in
    let known = IsClear-from_none 7 (lacks_end p fields 1 2) range.later in
    let apart = IsClear-from_none 8 (has_same_ends p fields 1 2) known.later in
    let fresh = IsClear-from_none 9 (has_arc p (terminal_in p fields 1) (terminal_in p fields 2)) apart.later in
    let room = IsClear-from_none 11 (leb 1000 (length p.arcs)) fresh.later in
    let time = is_between 1 100000 fields 3 in
    let capacity = is_between 1 (10 ^ 18) fields 4 in
    let truck = is_between 0 (10 ^ 18) fields 5 in
    let freight = is_between 0 (10 ^ 18) fields 6 in
    let four = and_parts (time && capacity && truck) freight (not-false (has_arc_ranges fields) range.here) in
    let three = and_parts (time && capacity) truck four.0 in
    let two = and_parts time capacity three.0 in
    let ends = ends-there p fields 1 2 known.here in
    record {
      arc = record {
        within = record {
          time = is_between-limits 1 100000 fields 3 two.0;
          capacity = is_between-limits 1 (10 ^ 18) fields 4 two.1;
          truck = (is_between-limits 0 (10 ^ 18) fields 5 three.1).1;
          freight = (is_between-limits 0 (10 ^ 18) fields 6 four.1).1;
        };
        from = ends.0;
        to = ends.1;
        ends = eqb-false (terminal_in p fields 1) (terminal_in p fields 2) apart.here;
      };
      fresh = fresh.here;
      room = leb-false 1000 (length p.arcs) room.here;
    }

pub shipment-fits : (p : Problem) (fields : List (List ℕ)) → first_code (shipment_faults p fields) ≡ None → IsShipmentFit p fields
shipment-fits p fields h =
    let count = IsClear-from_none 2 (not (eqb (length fields) 7)) h in
    let name = IsClear-from_none 3 (not (has_shipment_names fields)) count.later in
    let digits = IsClear-from_none 4 (not (has_shipment_digits fields)) name.later in
    let range = IsClear-from_none 5 (not (has_shipment_ranges fields)) digits.later in
    let fresh = IsClear-from_none 6 (is_taken (shipment_names p.shipments) (field fields 1)) range.later in
    let known = IsClear-from_none 7 (lacks_end p fields 2 3) fresh.later in
    let apart = IsClear-from_none 8 (has_same_ends p fields 2 3) known.later in
    let window = IsClear-from_none 10 (ltb (number_at fields 6) (number_at fields 5)) apart.later in
    let room = IsClear-from_none 11 (leb 500 (length p.shipments)) window.later in
    let names = and_parts (has_name fields 1 && has_name fields 2) (has_name fields 3) (not-false (has_shipment_names fields) name.here) in
    let first = and_parts (has_name fields 1) (has_name fields 2) names.0 in
    let size = is_between 1 (10 ^ 18) fields 4 in
    let release = is_between 0 100000 fields 5 in
    let due = is_between 0 100000 fields 6 in
    let three = and_parts (size && release) due (not-false (has_shipment_ranges fields) range.here) in
    let two = and_parts size release three.0 in
    let ends = ends-there p fields 2 3 known.here in
    record {
      name = name-form (field fields 1) first.0;
      shipment = record {
        within = record { size = is_between-limits 1 (10 ^ 18) fields 4 two.0; due = (is_between-limits 0 100000 fields 6 three.1).1 };
        from = ends.0;
        to = ends.1;
        ends = eqb-false (terminal_in p fields 2) (terminal_in p fields 3) apart.here;
        window = ltb-false (number_at fields 6) (number_at fields 5) window.here;
      };
      fresh = fresh.here;
      room = leb-false 500 (length p.shipments) room.here;
    }
