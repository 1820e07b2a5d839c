use Rattle.std.proofs.Common.{refl, ◌≡◌, ◌∙◌, ◌-◌, ℕ, length, drop, ap}
use Rattle.std.proofs.lemmas.List.{length-drop}
use Rattle.csv.specs.Records.{last_end}
use Rattle.csv.proofs.RecordFacts.{rising-last}
use Rattle.fp_records.specs.Rows.{fields_in}
use Rattle.fp_records.proofs.PartFacts.{length-parts_from}
use Rattle.fp_records.proofs.rows.Rows.is_at_start.Goals as goal

pub overflow_sub-result : goal.overflow_sub-result
overflow_sub-result c =
    let ends = c.self.inside.field_ends.items in
    let within = rising-last 0 c.self.inside.row_ends.items (length ends) c.self.invariant.rows in
    rw (c.last_of.ensures, c.deref.ensures.value, c.len.ensures, c.self.inside.field_ends.ok.0) within

pub returns : goal.returns
returns c =
    let ends = c.self.inside.field_ends.items in
    let last = last_end 0 c.self.inside.row_ends.items in
    let count = length-parts_from 0 ends c.self.inside.text.items in
    let within = rising-last 0 c.self.inside.row_ends.items (length ends) c.self.invariant.rows in
    let left : length (drop last (fields_in c.self.inside)) ≡ length ends - last = length-drop last (fields_in c.self.inside) ∙ ap (λ (n : ℕ). n - last) count in
    rw (← c.self.view_is, c.last_of.ensures, c.deref.ensures.value, c.len.ensures, c.self.inside.field_ends.ok.0, left) refl
