-- What an index lists of an instance: its names and the ends of its arcs, each in order.
use Rattle.std.specs.Prelude.{ℕ, ◌≡◌, ◌≤◌, List, [], length, map, Bool, ◌&&◌, ◌==◌, Option, position}
use Rattle.std.specs.List.{list_any}
use Rattle.fp_model.specs.declared.limits.TheConstants.{MOST_ARCS, MOST_SHIPMENTS, MOST_TERMINALS}
use Rattle.fp_model.specs.declared.parts.Arc.{Arc}
use Rattle.fp_model.specs.declared.parts.Shipment.{Shipment}
use Rattle.fp_model.specs.Problem.{Problem}
use Rattle.fp_records_fields.specs.declared.indexes.Index.TheInside.{Inside}

-- the names of terminals, the names of shipments, and the ordered ends of arcs
pub record Entries : Type 0 where
  pub terminals : List (List ℕ)
  pub shipments : List (List ℕ)
  pub ends : List (ℕ × ℕ)

-- no entries
abbrev pub no_entries : Entries
no_entries = record { terminals = []; shipments = []; ends = [] }

-- the names of shipments
abbrev pub shipment_names : List Shipment → List (List ℕ)
shipment_names shipments = map (λ (s : Shipment). s.name) shipments

-- the ordered ends of arcs
abbrev pub arc_ends : List Arc → List (ℕ × ℕ)
arc_ends arcs = map (λ (a : Arc). (a.from, a.to)) arcs

-- the entries of an instance
abbrev pub entries_of : Problem → Entries
entries_of p = record { terminals = p.terminals; shipments = shipment_names p.shipments; ends = arc_ends p.arcs }

-- the entries that an index holds
abbrev pub held_entries : Inside → Entries
held_entries i = record { terminals = i.terminals; shipments = i.shipments; ends = i.ends.keys }

-- there are no more entries than an instance may have
pub record AreWithinLimits (e : Entries) : Type 0 where
  pub terminals : length e.terminals ≤ MOST_TERMINALS
  pub shipments : length e.shipments ≤ MOST_SHIPMENTS
  pub ends : length e.ends ≤ MOST_ARCS

-- whether two pairs of ends are the same
abbrev pub same_ends : ℕ × ℕ → ℕ × ℕ → Bool
same_ends a b = (a.0 == b.0) && (a.1 == b.1)

-- the number of a pair of ends: its place among the ends
abbrev pub ends_number : List (ℕ × ℕ) → (from to : ℕ) → Option ℕ
ends_number ends from to = position (same_ends (from, to)) ends

-- whether a pair of ends is among the ends
abbrev pub has_ends : List (ℕ × ℕ) → (from to : ℕ) → Bool
has_ends ends from to = list_any (same_ends (from, to)) ends
