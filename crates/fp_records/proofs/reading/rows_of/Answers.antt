use Rattle.std.proofs.Common.{◌≡◌, ◌∙◌, ℕ, List, [], ◌∷◌, ◌++◌, length, inl, inr, refl, sym, ap, arith}
use Rattle.csv.specs.Reading.{Reached, strip_bom}
use Rattle.csv.specs.Records.{fields_of}
use Rattle.fp_records.specs.Fields.{kept_records}
use Rattle.fp_records.proofs.ReaderFacts.{read-all, read-more}
use Rattle.fp_records.proofs.RowFacts.{kept_records-append, length-kept_records, length-strip_bom}
use Rattle.fp_records.proofs.reading.rows_of.Goals as goal

pub loop-rows-init : goal.loop-rows-init
unfolding Reached
loop-rows-init c =
    let made = c.from_reader-reader.ensures in
    let e = c.has_headers.ensures in
    let g = c.flexible.ensures in
    let same = c.in-Ok.ensures.same in (
      [],
      record {
        plain = rw same (rw (g, e) at made.trim ∙ c.new.ensures.trim);
        flexible = rw same (rw g at made.flexible);
        ready = inr (inl (rw same (rw (g, e) at made.has_headers), c.in-Ok.ensures.set));
        config = rw same (rw (g, e) at made.config ∙ c.new.ensures.config);
        rests = rw (same, made.state) refl;
        left = (strip_bom c.args.bytes.now, rw same made.source, (rw same (sym made.state), refl));
      },
      rw c.new-rows.ensures refl,
      rw c.new-rows.ensures refl,
    )

pub loop-rows-preserved : goal.loop-rows-preserved
loop-rows-preserved c =
    let inv = c.loop-rows.invariant in
    let f = fields_of c.read_byte_record.new.row in
    let told = c.in-Ok-true.ensures in
    let r = rw c.in-Ok-true.field-0-test at (told.reads inv.1.plain inv.1.ready) in
    let more = read-more (strip_bom c.args.bytes.now) inv.0 c.loop-rows.reader c.read_byte_record.new.self f inv.1 r (told.ready inv.1.plain) told.flexible in
    (inv.0 ++ (f ∷ []), more.0, c.in_ok-add_kept-in-Ok-true.ensures.ended ∙ ap (λ (xs : List (List (List ℕ))). xs ++ kept_records (f ∷ [])) inv.2 ∙ sym (kept_records-append inv.0 (f ∷ [])), c.in_ok-add_kept-in-Ok-true.ensures.begun)

pub loop-rows-smaller : goal.loop-rows-smaller
loop-rows-smaller c =
    let inv = c.loop-rows.invariant in
    let told = c.in-Ok-true.ensures in
    let r = rw c.in-Ok-true.field-0-test at (told.reads inv.1.plain inv.1.ready) in
    (read-more (strip_bom c.args.bytes.now) inv.0 c.loop-rows.reader c.read_byte_record.new.self (fields_of c.read_byte_record.new.row) inv.1 r (told.ready inv.1.plain) told.flexible).1

pub returns-in-Ok-false : goal.returns-in-Ok-false
returns-in-Ok-false c =
    let inv = c.loop-rows.invariant in
    let r = rw c.in-Ok-false.field-0-test at (c.in-Ok-false.ensures.reads inv.1.plain inv.1.ready) in
    let all = read-all (strip_bom c.args.bytes.now) inv.0 c.loop-rows.reader c.read_byte_record.new.self (fields_of c.read_byte_record.new.row) inv.1 r in
    record {
      all = inv.2 ∙ ap kept_records all.0;
      few =
          let kept = length-kept_records inv.0 in
          let most = all.1 in
          let fewer = length-strip_bom c.args.bytes.now in
          let same : length c.loop-rows.rows.ended ≡ length (kept_records inv.0) = ap length inv.2 in
          omega arith;
    }
