-- The index stays that of the parts with one more of them.
use Rattle.std.proofs.Common.{◌≡◌, ◌∙◌, ℕ, ◌<◌, ◌≤◌, false, List, [], ◌∷◌, ◌++◌, length, sym, ap}
use Rattle.std.proofs.lemmas.List.{map-append}
use Rattle.fp_model.specs.declared.limits.TheConstants.{GREATEST_HOLD, MOST_ARCS, MOST_SHIPMENTS, MOST_TERMINALS}
use Rattle.fp_model.specs.declared.parts.Arc.{Arc}
use Rattle.fp_model.specs.declared.parts.Shipment.{Shipment}
use Rattle.fp_model.specs.Names.{IsName}
use Rattle.fp_model.specs.Problem.{Problem, IsArc, IsShipment}
use Rattle.fp_records_fields.specs.Indexes.{Entries, entries_of, shipment_names}
use Rattle.fp_records_fields.specs.Names.{is_taken}
use Rattle.fp_reader.specs.Drafts.{IsIndexed}
use Rattle.fp_reader.specs.Faults.{has_arc}
use Rattle.fp_reader.specs.Parts.{with_arc, with_shipment, with_terminal}
use Rattle.fp_reader.proofs.Growth.{more-arcs, more-shipments, more-terminals}

-- one more terminal
pub index-terminal : (p : Problem) (e : Entries) (name : List ℕ) (hold : ℕ)
    → IsIndexed p e → IsName name → is_taken p.terminals name ≡ false → length p.terminals < MOST_TERMINALS → hold ≤ GREATEST_HOLD
    → IsIndexed (with_terminal p name hold) (record e { terminals = e.terminals ++ (name ∷ []) })
index-terminal p e name hold i form fresh room fits = record {
  sound = more-terminals p name hold i.sound form fresh room fits;
  index = ap (λ (e : Entries). record e { terminals = e.terminals ++ (name ∷ []) }) i.index;
}

-- one more arc
pub index-arc : (p : Problem) (e : Entries) (arc : Arc)
    → IsIndexed p e → IsArc (length p.terminals) arc → has_arc p arc.from arc.to ≡ false → length p.arcs < MOST_ARCS
    → IsIndexed (with_arc p arc) (record e { ends = e.ends ++ ((arc.from, arc.to) ∷ []) })
index-arc p e arc i within fresh room = record {
  sound = more-arcs p arc i.sound within fresh room;
  index =
      ap (λ (e : Entries). record e { ends = e.ends ++ ((arc.from, arc.to) ∷ []) }) i.index
      ∙ ap (λ (ends : List (ℕ × ℕ)). record (entries_of p) { ends = ends }) (sym (map-append (λ (a : Arc). (a.from, a.to)) p.arcs (arc ∷ [])));
}

-- one more shipment
pub index-shipment : (p : Problem) (e : Entries) (s : Shipment)
    → IsIndexed p e → IsShipment (length p.terminals) s → is_taken (shipment_names p.shipments) s.name ≡ false
    → length p.shipments < MOST_SHIPMENTS → IsIndexed (with_shipment p s) (record e { shipments = e.shipments ++ (s.name ∷ []) })
index-shipment p e s i within fresh room = record {
  sound = more-shipments p s i.sound within fresh room;
  index =
      ap (λ (e : Entries). record e { shipments = e.shipments ++ (s.name ∷ []) }) i.index
      ∙ ap (λ (names : List (List ℕ)). record (entries_of p) { shipments = names }) (sym (map-append (λ (t : Shipment). t.name) p.shipments (s ∷ [])));
}
