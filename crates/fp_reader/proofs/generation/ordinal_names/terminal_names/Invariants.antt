use Rattle.std.proofs.Common.{◌≡◌, map, codes}
use Rattle.std.specs.List.{range_with_len}
use Rattle.fp_reader.specs.Generator.{ordinal_name}
use Rattle.fp_reader.proofs.generation.ordinal_names.terminal_names.Given as goal

abbrev pub invariant-loop-number : goal.invariant-loop-number
invariant-loop-number l = l.names.items ≡ map (ordinal_name (codes "T")) (range_with_len 0 l.number)
