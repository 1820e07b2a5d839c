use Rattle.std.proofs.Common.{◌≡◌, sym, subst}
use Rattle.fp_records.specs.Text.{lines_of}
use Rattle.fp_certificate_lines.specs.Rows.{rows_of}
use Rattle.fp_certificate_lines.specs.Statements.{Statement}
use Rattle.fp_certificate_lines.proofs.RowTexts.{rows-text}
use Rattle.fp_certificate_lines.proofs.writing.write.Goals as goal

pub returns : goal.returns
returns c =
    let p = c.args.instance.now in
    let i = c.certificate.inside in
    let v : Statement = record {
      answer = i.answer;
      scale = i.scale;
      unit = i.unit;
      legs = i.legs.items;
      trucks = i.trucks.items;
      points = i.points.items;
      tables = i.tables.items;
      spans = i.spans.items;
      gifts = i.gifts.items;
      moments = i.moments.items;
      tree = i.tree.items;
    } in
    subst (λ (s : Statement). c.into_bytes.result.items ≡ lines_of (rows_of p s)) c.certificate.view_is
    (rw (
      c.into_bytes.ensures,
      c.in_ok-write_end.ensures.text,
      c.in_ok-write_tree.ensures.text,
      c.in_ok-write_tables.ensures.text,
      c.in_ok-write_points.ensures.text,
      c.in_ok-write_trucks.ensures.text,
      c.in_ok-write_legs.ensures.text,
      c.in_ok-write_unit.ensures.text,
      c.in_ok-write_scale.ensures.text,
      c.in_ok-line.ensures.text,
      c.in_ok-begun.ensures,
      c.deref.ensures.value,
      c.deref-2.ensures.value,
      c.deref-3.ensures.value,
      c.deref-4.ensures.value,
      c.deref-5.ensures.value,
      c.deref-6.ensures.value,
      c.deref-7.ensures.value,
      c.deref-8.ensures.value,
    )
    (sym (rows-text p v)))
