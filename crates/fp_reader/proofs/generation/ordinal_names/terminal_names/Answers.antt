use Rattle.std.proofs.Common.{refl, codes, arith}
use Rattle.fp_reader.specs.Generator.{ordinal_name}
use Rattle.fp_reader.proofs.OrdinalNames.{IsName-ordinal_name}
use Rattle.fp_reader.proofs.Ranges.{map-range_more}
use Rattle.fp_reader.proofs.generation.ordinal_names.terminal_names.Goals as goal

pub ordinal_name-requires-clause-name : goal.ordinal_name-requires-clause-name
ordinal_name-requires-clause-name c = IsName-ordinal_name 84 c.loop-number.number refl (omega arith)

pub loop-number-preserved : goal.loop-number-preserved
loop-number-preserved c =
    map-range_more (ordinal_name (codes "T")) c.loop-number.number c.loop-number.names.items c.in_ok-ordinal_name.field-0 c.push.new.self.items
    c.loop-number.invariant c.in_ok-ordinal_name.ensures c.in_ok-push.ensures.items
