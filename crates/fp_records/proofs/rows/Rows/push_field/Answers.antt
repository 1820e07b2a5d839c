use Rattle.std.proofs.Common.{◌∙◌, ℕ, ◌∷◌, ◌++◌, [], length, refl, ap, arith}
use Rattle.std.proofs.lemmas.List.{length-append}
use Rattle.csv.proofs.RecordFacts.{last-append, rising-more}
use Rattle.fp_records.specs.Rows.{parts_from}
use Rattle.fp_records.proofs.PartFacts.{length-parts_from, parts_from-more, parts_from-push, rest-more, rising-push}
use Rattle.fp_records.proofs.rows.Rows.push_field.Goals as goal

pub invariant_of-self-in-Ok : goal.invariant_of-self-in-Ok
invariant_of-self-in-Ok c =
    let ends = c.self.inside.field_ends.items in
    let text = c.self.inside.text.items in
    let longer = c.in_ok-extend_from_slice.ensures.items in
    let place = c.len.ensures ∙ c.extend_from_slice.new.self.ok.0 ∙ ap length longer in
    let pushed = c.in-Ok.ensures.items ∙ ap (λ (n : ℕ). ends ++ (n ∷ [])) place in
    let more = length-append ends (length (text ++ c.args.field.now) ∷ []) in
    record {
      fields = rw (longer, pushed) (rising-push ends text c.args.field.now c.self.invariant.fields);
      whole = rw (longer, pushed) (last-append 0 ends (length (text ++ c.args.field.now)));
      rows = rw pushed (rising-more 0 c.self.inside.row_ends.items (length ends) _ c.self.invariant.rows (omega arith));
    }

pub returns-in-Ok-clause-ok : goal.returns-in-Ok-clause-ok
returns-in-Ok-clause-ok c =
    let ends = c.self.inside.field_ends.items in
    let rows = c.self.inside.row_ends.items in
    let text = c.self.inside.text.items in
    let field = c.args.field.now in
    let longer = c.in_ok-extend_from_slice.ensures.items in
    let place = c.len.ensures ∙ c.extend_from_slice.new.self.ok.0 ∙ ap length longer in
    let pushed = c.in-Ok.ensures.items ∙ ap (λ (n : ℕ). ends ++ (n ∷ [])) place in
    let fields = parts_from 0 ends text in
    let rises = rw (← length-parts_from 0 ends text) at c.self.invariant.rows in
    rw (
      ← c.self.view_is,
      longer,
      pushed,
      parts_from-push ends text field c.self.invariant.fields c.self.invariant.whole,
      parts_from-more 0 rows fields (field ∷ []) rises,
      rest-more rows fields (field ∷ []) rises,
    ) refl
