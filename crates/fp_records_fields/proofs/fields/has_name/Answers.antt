use Rattle.std.proofs.lemmas.Bool.Decides.{same_from_decides}
use Rattle.fp_records_fields.specs.Fields.{is_name}
use Rattle.fp_records_fields.proofs.NameForm.{name-form, name-test}
use Rattle.fp_records_fields.proofs.fields.has_name.Goals as goal

pub returns : goal.returns
returns c =
    let bytes = c.field_at.result.now in
    rw (← c.field_at.ensures) (same_from_decides c.is_name.result (is_name bytes) c.is_name.ensures (name-form bytes, name-test bytes))
