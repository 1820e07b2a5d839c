use Rattle.std.proofs.Common.{◌∙◌, sym}
use Rattle.csv.specs.Records.{fields_of}
use Rattle.csv.proofs.RecordFacts.{field-there}
use Rattle.fp_records.proofs.FieldFacts.{field_at-slice_get}
use Rattle.fp_records.proofs.stripping.field_of.Goals as goal

pub returns-in-Some : goal.returns-in-Some
returns-in-Some c = sym (field_at-slice_get (fields_of c.args.row.now) c.args.at) ∙ sym c.in-Some.ensures.value

pub returns-in-None : goal.returns-in-None
returns-in-None c = absurd (field-there (fields_of c.args.row.now) c.args.at c.requires (sym c.in-None.ensures.value))
