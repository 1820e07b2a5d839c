-- What the records without a fault give, each after those before it.
use Rattle.std.specs.Prelude.{ℕ, List, [], ◌∷◌, ◌++◌, length, if◌then◌else◌, ◌==◌, codes}
use Rattle.fp_model.specs.declared.limits.TheConstants.{SCALE}
use Rattle.fp_model.specs.declared.parts.Arc.{Arc}
use Rattle.fp_model.specs.declared.parts.Shipment.{Shipment}
use Rattle.fp_model.specs.Problem.{Problem}
use Rattle.fp_records_fields.specs.Fields.{field, is_kind, number_at}
use Rattle.fp_records_fields.specs.NamedParts.{terminal_in}

-- nothing read so far; the scale of prices is the default
abbrev pub nothing_read : Problem
nothing_read = record { terminals = []; holds = []; arcs = []; shipments = []; scale = SCALE }

-- the hold of a terminal's record, in the input's unit of time: 0 where it gives none
abbrev pub hold_in : List (List ℕ) → ℕ
hold_in fields = if length fields == 3 then number_at fields 2 else 0

-- the arc of a record `arc,FROM,TO,TIME,CAPACITY,TRUCK,FREIGHT`
abbrev pub arc_in : Problem → List (List ℕ) → Arc
arc_in before fields = record {
  from = terminal_in before fields 1;
  to = terminal_in before fields 2;
  time = number_at fields 3;
  capacity = number_at fields 4;
  truck = number_at fields 5;
  freight = number_at fields 6;
}

-- the shipment of a record `shipment,NAME,FROM,TO,SIZE,RELEASE,DUE`
abbrev pub shipment_in : Problem → List (List ℕ) → Shipment
shipment_in before fields = record {
  name = field fields 1;
  from = terminal_in before fields 2;
  to = terminal_in before fields 3;
  size = number_at fields 4;
  release = number_at fields 5;
  due = number_at fields 6;
}

-- one more terminal, with its hold
abbrev pub with_terminal : Problem → List ℕ → ℕ → Problem
with_terminal before name hold =
    record before { terminals = before.terminals ++ (name ∷ []); holds = before.holds ++ (hold ∷ []) }

-- one more arc
abbrev pub with_arc : Problem → Arc → Problem
with_arc before arc = record before { arcs = before.arcs ++ (arc ∷ []) }

-- one more shipment
abbrev pub with_shipment : Problem → Shipment → Problem
with_shipment before shipment = record before { shipments = before.shipments ++ (shipment ∷ []) }

-- what has been read after one more record without a fault
abbrev pub with_record : Problem → List (List ℕ) → Problem
with_record before fields =
    if is_kind (codes "terminal") fields then with_terminal before (field fields 1) (hold_in fields)
    else if is_kind (codes "arc") fields then with_arc before (arc_in before fields)
    else with_shipment before (shipment_in before fields)
