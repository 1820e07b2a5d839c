use Rattle.std.proofs.Common.{◌∙◌, sym}
use Rattle.fp_records.specs.Rows.{fields_in}
use Rattle.fp_records.proofs.PartFacts.{length-parts_from}
use Rattle.fp_records.proofs.rows.Rows.len.Goals as goal

pub returns : goal.returns
returns c = rw (← c.self.view_is) (c.len.ensures ∙ c.self.inside.row_ends.ok.0 ∙ sym (length-parts_from 0 c.self.inside.row_ends.items (fields_in c.self.inside)))
