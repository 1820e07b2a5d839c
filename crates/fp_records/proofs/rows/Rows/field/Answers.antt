use Rattle.std.proofs.Common.{◌≡◌, ◌∙◌, ◌+◌, ◌<◌, ◌^◌, [], get_or, length, ap, arith, rules}
use Rattle.std.specs.Prelude.{Some}
use Rattle.std.proofs.lemmas.Option.{slice_get-get_or}
use Rattle.csv.specs.Records.{prev}
use Rattle.fp_records.specs.Rows.{Listing, fields_in}
use Rattle.fp_records.proofs.PartFacts.{field-of-row, place-of}
use Rattle.fp_records.proofs.rows.Rows.field.Goals as goal

pub bounds-first-requires : goal.bounds-first-requires
bounds-first-requires c =
    rw c.deref.ensures.value (place-of c.self.inside.row_ends.items (fields_in c.self.inside) c.args.self.now.ended c.args.at (ap (λ (r : Listing). r.ended) c.self.view_is) c.requires.row)

pub overflow_add-first : goal.overflow_add-first
overflow_add-first c =
    let rows = c.self.inside.row_ends.items in
    let starts : c.bounds-first.result.0 ≡ prev 0 rows c.args.at = rw (← c.deref.ensures.value) c.bounds-first.ensures.start in
    let there = field-of-row rows c.self.inside.field_ends.items c.self.inside.text.items c.args.self.now.ended c.args.at c.args.place c.bounds-first.result.0
    (ap (λ (r : Listing). r.ended) c.self.view_is) c.self.invariant.fields c.self.invariant.rows c.requires.row c.requires.field starts in
    let within = there.within in
    let small = c.self.inside.field_ends.small in
    let held = c.self.inside.field_ends.ok.1 in
    let size = c.self.inside.field_ends.ok.0 in
    let fits : c.bounds-first.result.0 + c.args.place < 2 ^ 64 = omega arith in
    search rules

pub bounds-start-requires : goal.bounds-start-requires
bounds-start-requires c =
    let rows = c.self.inside.row_ends.items in
    let starts : c.bounds-first.result.0 ≡ prev 0 rows c.args.at = rw (← c.deref.ensures.value) c.bounds-first.ensures.start in
    let there = field-of-row rows c.self.inside.field_ends.items c.self.inside.text.items c.args.self.now.ended c.args.at c.args.place c.bounds-first.result.0
    (ap (λ (r : Listing). r.ended) c.self.view_is) c.self.invariant.fields c.self.invariant.rows c.requires.row c.requires.field starts in
    rw c.deref-2.ensures.value there.within

pub slice_bounds-result-count : goal.slice_bounds-result-count
slice_bounds-result-count c =
    let rows = c.self.inside.row_ends.items in
    let starts : c.bounds-first.result.0 ≡ prev 0 rows c.args.at = rw (← c.deref.ensures.value) c.bounds-first.ensures.start in
    let there = field-of-row rows c.self.inside.field_ends.items c.self.inside.text.items c.args.self.now.ended c.args.at c.args.place c.bounds-first.result.0
    (ap (λ (r : Listing). r.ended) c.self.view_is) c.self.invariant.fields c.self.invariant.rows c.requires.row c.requires.field starts in
    rw (c.bounds-start.ensures.start, c.bounds-start.ensures.end, c.deref-2.ensures.value) there.order

pub slice_bounds-result-start : goal.slice_bounds-result-start
slice_bounds-result-start c =
    let rows = c.self.inside.row_ends.items in
    let ends = c.self.inside.field_ends.items in
    let starts : c.bounds-first.result.0 ≡ prev 0 rows c.args.at = rw (← c.deref.ensures.value) c.bounds-first.ensures.start in
    let there = field-of-row rows ends c.self.inside.text.items c.args.self.now.ended c.args.at c.args.place c.bounds-first.result.0
    (ap (λ (r : Listing). r.ended) c.self.view_is) c.self.invariant.fields c.self.invariant.rows c.requires.row c.requires.field starts in
    let start : c.bounds-start.result.0 ≡ prev 0 ends (c.bounds-first.result.0 + c.args.place) = rw (← c.deref-2.ensures.value) c.bounds-start.ensures.start in
    let end : c.bounds-start.result.1 ≡ get_or ends (c.bounds-first.result.0 + c.args.place) 0 = rw (← c.deref-2.ensures.value) c.bounds-start.ensures.end in
    omega (arith, start, end, there.order, there.fits, ap length c.deref-3.ensures.value)

pub slice_bounds-result-end : goal.slice_bounds-result-end
slice_bounds-result-end c =
    let rows = c.self.inside.row_ends.items in
    let ends = c.self.inside.field_ends.items in
    let starts : c.bounds-first.result.0 ≡ prev 0 rows c.args.at = rw (← c.deref.ensures.value) c.bounds-first.ensures.start in
    let there = field-of-row rows ends c.self.inside.text.items c.args.self.now.ended c.args.at c.args.place c.bounds-first.result.0
    (ap (λ (r : Listing). r.ended) c.self.view_is) c.self.invariant.fields c.self.invariant.rows c.requires.row c.requires.field starts in
    let start : c.bounds-start.result.0 ≡ prev 0 ends (c.bounds-first.result.0 + c.args.place) = rw (← c.deref-2.ensures.value) c.bounds-start.ensures.start in
    let end : c.bounds-start.result.1 ≡ get_or ends (c.bounds-first.result.0 + c.args.place) 0 = rw (← c.deref-2.ensures.value) c.bounds-start.ensures.end in
    omega (arith, start, end, there.order, there.fits, ap length c.deref-3.ensures.value)

pub returns : goal.returns
returns c =
    let rows = c.self.inside.row_ends.items in
    let starts : c.bounds-first.result.0 ≡ prev 0 rows c.args.at = rw (← c.deref.ensures.value) c.bounds-first.ensures.start in
    let there = field-of-row rows c.self.inside.field_ends.items c.self.inside.text.items c.args.self.now.ended c.args.at c.args.place c.bounds-first.result.0
    (ap (λ (r : Listing). r.ended) c.self.view_is) c.self.invariant.fields c.self.invariant.rows c.requires.row c.requires.field starts in
    rw (c.bounds-start.ensures.start, c.bounds-start.ensures.end, c.deref-2.ensures.value, c.deref-3.ensures.value)
    (slice_get-get_or (get_or c.args.self.now.ended c.args.at []) c.args.place [] c.requires.field ∙ ap Some there.is)
