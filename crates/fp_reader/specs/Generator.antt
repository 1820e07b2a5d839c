-- The generator: the instance that a seed gives for so many terminals and shipments.
-- Its numbers are drawn in one order: four for each arc in turn, and then five for each shipment.
-- The rule is this project's own.
use Rattle.std.specs.Prelude.{ℕ, ◌+◌, ◌-◌, ◌*◌, ◌/◌, ◌%◌, List, [], ◌∷◌, ◌++◌, length, map, not, replicate, codes, decimal}
use Rattle.std.specs.Fn.{iterate}
use Rattle.std.specs.List.{enumerate_from, filter, flat_map, range_with_len}
use Rattle.fp_model.specs.declared.limits.TheConstants.{SCALE}
use Rattle.fp_model.specs.declared.parts.Arc.{Arc}
use Rattle.fp_model.specs.declared.parts.Shipment.{Shipment}
use Rattle.fp_model.specs.Problem.{Problem}
use Rattle.fp_records_fields.specs.Indexes.{same_ends}
use Rattle.fp_reader.specs.Draws.{drawn, next_number}

-- the number after so many draws from the number x
abbrev pub number_after : (x draws : ℕ) → ℕ
number_after x draws = iterate next_number draws x

-- what is drawn of `count` values after so many draws from the number x
abbrev pub draw_after : (x draws count : ℕ) → ℕ
draw_after x draws count = drawn (number_after x draws) count

-- the name of a letter and an ordinal, that of the terminal or shipment with a number from 0
abbrev pub ordinal_name : List ℕ → ℕ → List ℕ
ordinal_name letter number = letter ++ decimal (number + 1)

-- how far on in the ring of terminals the arcs of a terminal lead: to the next one, to the one
-- before, and half way round
abbrev pub ring_steps : ℕ → List ℕ
ring_steps terminals = 1 ∷ (terminals - 1) ∷ (terminals / 2) ∷ []

-- the ends of the arcs that leave a terminal, one for each step: a pair may stand again
abbrev pub ends_from : (terminals from : ℕ) → List (ℕ × ℕ)
ends_from terminals from = map (λ step. (from, (from + step) % terminals)) (ring_steps terminals)

-- the pairs, each where it first stands
abbrev pub first_ends : List (ℕ × ℕ) → List (ℕ × ℕ)
first_ends [] = []
first_ends (ends ∷ more) = ends ∷ filter (λ other. not (same_ends ends other)) (first_ends more)

-- the ends of the arcs in order: terminal by terminal, and those of each step by step. Where an arc
-- exists already there is no other
abbrev pub ring_ends : ℕ → List (ℕ × ℕ)
ring_ends terminals = first_ends (flat_map (ends_from terminals) (range_with_len 0 terminals))

-- the arc between two ends that four draws from the number x give
abbrev pub drawn_arc : ℕ → ℕ × ℕ → Arc
drawn_arc x ends = record {
  from = ends.0;
  to = ends.1;
  time = 60 + draw_after x 0 241;
  capacity = 10 + draw_after x 1 11;
  truck = 100 + draw_after x 2 101;
  freight = draw_after x 3 3;
}

-- an arc for each pair of ends, of four draws each
abbrev pub drawn_arcs : ℕ → List (ℕ × ℕ) → List Arc
drawn_arcs x ends = map (λ (e : ℕ × (ℕ × ℕ)). drawn_arc (number_after x (4 * e.0)) e.1) (enumerate_from 0 ends)

-- the shipment with a number between two of so many terminals that five draws from the number x
-- give. Round the ring it can be carried in less than 300 for each terminal
abbrev pub drawn_shipment : (terminals x number : ℕ) → Shipment
drawn_shipment terminals x number =
    let from = draw_after x 0 terminals in
    let release = draw_after x 3 5000 in
    record {
      name = ordinal_name (codes "S") number;
      from = from;
      to = (from + 1 + draw_after x 1 (terminals - 1)) % terminals;
      size = 1 + draw_after x 2 12;
      release = release;
      due = release + 300 * terminals + draw_after x 4 2000;
    }

-- so many shipments, of five draws each
abbrev pub drawn_shipments : (terminals x shipments : ℕ) → List Shipment
drawn_shipments terminals x shipments =
    map (λ number. drawn_shipment terminals (number_after x (5 * number)) number) (range_with_len 0 shipments)

-- the instance of a seed with so many terminals and shipments, at the default scale
abbrev pub generated : (seed terminals shipments : ℕ) → Problem
generated seed terminals shipments = record {
  terminals = map (ordinal_name (codes "T")) (range_with_len 0 terminals);
  holds = replicate terminals 0;
  arcs = drawn_arcs seed (ring_ends terminals);
  shipments = drawn_shipments terminals (number_after seed (4 * length (ring_ends terminals))) shipments;
  scale = SCALE;
}
