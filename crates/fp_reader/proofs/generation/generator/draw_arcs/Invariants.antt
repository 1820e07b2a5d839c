use Rattle.std.specs.List.{flat_map, range_with_len}
use Rattle.fp_reader.specs.Generator.{ends_from}
use Rattle.fp_reader.proofs.DrawnArcs.{HasDrawn}
use Rattle.fp_reader.proofs.generation.generator.draw_arcs.Given as goal

abbrev pub invariant-loop-from : goal.invariant-loop-from
invariant-loop-from l = HasDrawn l.initial.draws (flat_map (ends_from l.terminals) (range_with_len 0 l.from)) l.draws l.arcs.items
