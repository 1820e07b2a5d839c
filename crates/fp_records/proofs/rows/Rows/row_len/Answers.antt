use Rattle.std.proofs.Common.{ap, length, sym}
use Rattle.csv.proofs.RecordFacts.{field-bounds}
use Rattle.fp_records.specs.Rows.{Listing, fields_in}
use Rattle.fp_records.proofs.PartFacts.{length-part, length-parts_from, place-of}
use Rattle.fp_records.proofs.rows.Rows.row_len.Goals as goal

pub bounds-start-requires : goal.bounds-start-requires
bounds-start-requires c =
    rw c.deref.ensures.value (place-of c.self.inside.row_ends.items (fields_in c.self.inside) c.args.self.now.ended c.args.at (ap (λ (r : Listing). r.ended) c.self.view_is) c.requires)

pub overflow_sub-result : goal.overflow_sub-result
overflow_sub-result c =
    let rows = c.self.inside.row_ends.items in
    let within = place-of rows (fields_in c.self.inside) c.args.self.now.ended c.args.at (ap (λ (r : Listing). r.ended) c.self.view_is) c.requires in
    rw (c.bounds-start.ensures.start, c.bounds-start.ensures.end, c.deref.ensures.value) (field-bounds 0 rows (length c.self.inside.field_ends.items) c.args.at c.self.invariant.rows within).0

pub returns : goal.returns
returns c =
    let rows = c.self.inside.row_ends.items in
    let fields = fields_in c.self.inside in
    let within = place-of rows fields c.args.self.now.ended c.args.at (ap (λ (r : Listing). r.ended) c.self.view_is) c.requires in
    let rises = rw (← length-parts_from 0 c.self.inside.field_ends.items c.self.inside.text.items) at c.self.invariant.rows in
    rw (c.bounds-start.ensures.start, c.bounds-start.ensures.end, c.deref.ensures.value, ← c.self.view_is) (sym (length-part rows fields c.args.at rises within))
