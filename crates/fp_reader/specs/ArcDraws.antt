-- One more arc of the generator.
use Rattle.std.specs.Prelude.{ℕ, List, [], ◌∷◌, ◌++◌, Bool, if◌then◌else◌}
use Rattle.std.specs.List.{list_any}
use Rattle.fp_model.specs.declared.parts.Arc.{Arc}
use Rattle.fp_records_fields.specs.NamedParts.{joins}
use Rattle.fp_reader.specs.Generator.{drawn_arc, number_after}

-- whether an arc between these ends exists already
abbrev pub is_joined : List Arc → ℕ × ℕ → Bool
is_joined arcs ends = list_any (joins ends.0 ends.1) arcs

-- the arcs with one more between these ends, of four draws from the number x: the same where there
-- is one
abbrev pub with_drawn_arc : ℕ → List Arc → ℕ × ℕ → List Arc
with_drawn_arc x arcs ends = if is_joined arcs ends then arcs else arcs ++ (drawn_arc x ends ∷ [])

-- the number after that: nothing is drawn where there is one
abbrev pub number_after_arc : ℕ → List Arc → ℕ × ℕ → ℕ
number_after_arc x arcs ends = if is_joined arcs ends then x else number_after x 4
