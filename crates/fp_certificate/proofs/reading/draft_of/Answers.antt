use Rattle.std.proofs.Common.{◌≡◌, ◌∙◌, ◌+◌, ◌≤◌, ℕ, sym, ap, drop, arith}
use Rattle.fp_certificate.specs.declared.drafts.Draft.{Draft}
use Rattle.fp_certificate.specs.Reading.{certificate_from, with_line}
use Rattle.fp_certificate.proofs.LinesOn.{read-on}
use Rattle.fp_certificate.proofs.TableCounts.{line-count, table_count}
use Rattle.fp_certificate.proofs.reading.draft_of.Goals as goal

pub loop-place-preserved : goal.loop-place-preserved
loop-place-preserved c =
    let p = c.args.lookup.now in
    let lines = c.args.lines.now in
    let place = c.loop-place.place in
    let ordinal = c.args.first + place in
    let fields = c.index-lines-place.result in
    let rest = drop (place + 1) lines in
    let next : c.args.first + (place + 1) ≡ ordinal + 1 = omega arith in
    let more = line-count p c.loop-place.draft fields in
    let count : table_count c.read_line.new.draft ≤ place + 1 = rw c.in-Ok.ensures.1 (omega (arith, more, c.loop-place.invariant.few)) in
    record {
      left =
          ap (λ (d : Draft). certificate_from p d (c.args.first + (place + 1)) rest) c.in-Ok.ensures.1
          ∙ ap (λ (n : ℕ). certificate_from p (with_line p c.loop-place.draft fields) n rest) next
          ∙ sym (read-on p c.loop-place.draft ordinal lines place fields c.loop-place-test.true c.index-lines-place.is c.in-Ok.ensures.0)
          ∙ c.loop-place.invariant.left;
      few = count;
    }
