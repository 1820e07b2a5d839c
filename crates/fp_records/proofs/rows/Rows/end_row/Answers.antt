use Rattle.std.proofs.Common.{◌≡◌, ◌∙◌, ℕ, ◌∷◌, ◌++◌, [], length, drop, refl, ap, sym, arith}
use Rattle.std.proofs.lemmas.List.{drop_all}
use Rattle.csv.specs.Records.{last_end}
use Rattle.csv.proofs.RecordFacts.{last-append, rising-end}
use Rattle.fp_records.specs.Rows.{parts_from}
use Rattle.fp_records.proofs.PartFacts.{length-parts_from, parts_from-end}
use Rattle.fp_records.proofs.rows.Rows.end_row.Goals as goal

pub invariant_of-self-2 : goal.invariant_of-self-2
invariant_of-self-2 c =
    let place = c.len.ensures ∙ c.self.inside.field_ends.ok.0 in
    let pushed = c.in_ok-push.ensures.items ∙ ap (λ (n : ℕ). c.self.inside.row_ends.items ++ (n ∷ [])) place in
    record {
      fields = c.self.invariant.fields;
      whole = c.self.invariant.whole;
      rows = rw pushed (rising-end 0 c.self.inside.row_ends.items (length c.self.inside.field_ends.items) c.self.invariant.rows);
    }

pub returns-clause-ok : goal.returns-clause-ok
returns-clause-ok c =
    let ends = c.self.inside.field_ends.items in
    let rows = c.self.inside.row_ends.items in
    let fields = parts_from 0 ends c.self.inside.text.items in
    let count = length-parts_from 0 ends c.self.inside.text.items in
    let place = c.len.ensures ∙ c.self.inside.field_ends.ok.0 ∙ sym count in
    let pushed = c.in_ok-push.ensures.items ∙ ap (λ (n : ℕ). rows ++ (n ∷ [])) place in
    let rises = rw (← count) at c.self.invariant.rows in
    let none : drop (last_end 0 (rows ++ (length fields ∷ []))) fields ≡ [] = rw (last-append 0 rows (length fields)) (drop_all (length fields) fields (omega arith)) in
    rw (← c.self.view_is, pushed, parts_from-end 0 rows fields rises, none) refl
