-- Ends are looked up as arcs are.
use Rattle.std.proofs.Common.{◌≡◌, ℕ, List, sym}
use Rattle.std.specs.Prelude.{position}
use Rattle.std.specs.List.{list_any}
use Rattle.fp_model.specs.declared.parts.Arc.{Arc}
use Rattle.fp_records_fields.specs.Indexes.{arc_ends, ends_number, has_ends, same_ends}
use Rattle.fp_records_fields.specs.NamedParts.{joins}
use Rattle.fp_records_fields.proofs.MappedLists.{list_any-map, position-map}

-- the number of the ends is that of the arc that joins them
pub ends_number-arc_ends : (arcs : List Arc) (from to : ℕ) → ends_number (arc_ends arcs) from to ≡ position (joins from to) arcs
ends_number-arc_ends arcs from to = sym (position-map (same_ends (from, to)) (λ (a : Arc). (a.from, a.to)) arcs)

-- the ends are there where an arc joins them
pub has_ends-arc_ends : (arcs : List Arc) (from to : ℕ) → has_ends (arc_ends arcs) from to ≡ list_any (joins from to) arcs
has_ends-arc_ends arcs from to = sym (list_any-map (same_ends (from, to)) (λ (a : Arc). (a.from, a.to)) arcs)
