use Rattle.std.proofs.Common.{◌≡◌, ◌≤◌, ◌+◌, drop, length}
use Rattle.fp_certificate.specs.Reading.{certificate_from, nothing_read}
use Rattle.fp_certificate.proofs.reading.draft_of.Given as goal

-- the lines that are left decide, and there are no more tables than lines so far
abbrev pub invariant-loop-place : goal.invariant-loop-place
invariant-loop-place l = record {
  left : certificate_from l.lookup l.draft (l.first + l.place) (drop l.place l.lines) ≡ certificate_from l.lookup nothing_read l.first l.lines;
  few : length l.draft.certificate.tables ≤ l.place;
}
