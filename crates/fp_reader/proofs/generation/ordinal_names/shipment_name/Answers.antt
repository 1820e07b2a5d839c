use Rattle.std.proofs.Common.{arith, refl}
use Rattle.fp_reader.proofs.OrdinalNames.{IsName-ordinal_name}
use Rattle.fp_reader.proofs.generation.ordinal_names.shipment_name.Goals as goal

pub ordinal_name-requires-clause-name : goal.ordinal_name-requires-clause-name
ordinal_name-requires-clause-name c = IsName-ordinal_name 83 c.args.number refl (omega arith)
