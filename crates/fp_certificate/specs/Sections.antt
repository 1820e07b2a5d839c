-- Where a line of a section can stand.
use Rattle.std.specs.Prelude.{ℕ, Bool, true, false, ◌||◌, not, nat_lt, Option, Some, None}
use Rattle.fp_certificate_lines.specs.declared.certificates.Answer.{Answer}
use Rattle.fp_certificate_lines.specs.declared.certificates.Answer.TheVariants as answer
use Rattle.fp_certificate.specs.declared.drafts.Draft.{Draft}
use Rattle.fp_certificate.specs.declared.lines.sections.Section.{Section}
use Rattle.fp_certificate.specs.declared.lines.sections.Section.TheVariants as section

-- the place of a section among the sections
abbrev pub place_of : Section → ℕ
place_of section.Answer = 0
place_of section.Scale = 1
place_of section.Unit = 2
place_of section.Legs = 3
place_of section.Trucks = 4
place_of section.Points = 5
place_of section.Tables = 6
place_of section.Tree = 7
place_of section.End = 8

-- whether no line of the section can stand under a `direct` answer: it has legs and trucks alone
abbrev pub is_beyond_direct : Section → Bool
is_beyond_direct section.Scale = true
is_beyond_direct section.Unit = true
is_beyond_direct section.Points = true
is_beyond_direct section.Tables = true
is_beyond_direct section.Tree = true
is_beyond_direct _ = false

-- whether the section is not that of `end`
abbrev pub is_before_end : Section → Bool
is_before_end section.End = false
is_before_end _ = true

-- whether no line of the section can stand under the answer
abbrev pub is_forbidden : Answer → Section → Bool
is_forbidden (answer.Direct cost) g = is_beyond_direct g
is_forbidden (answer.Optimal cost) g = false
is_forbidden (answer.Unfinished cost bound spent) g = false
is_forbidden (answer.Infeasible shipment time) g = is_before_end g

-- whether the section is not that of the answer
abbrev pub is_after_answer : Section → Bool
is_after_answer section.Answer = false
is_after_answer _ = true

-- whether a line of the section can't stand after the lines so far: an answer stands first, and
-- nothing else does; no line stands after one of a later section; and none under an answer that
-- forbids it
abbrev pub is_misplaced_after : Option Section → Answer → Section → Bool
is_misplaced_after None a g = is_after_answer g
is_misplaced_after (Some latest) a g = not (is_after_answer g) || nat_lt (place_of g) (place_of latest) || is_forbidden a g

-- whether a line of the section can't stand after those of the draft
abbrev pub is_misplaced : Draft → Section → Bool
is_misplaced before g = is_misplaced_after before.latest before.certificate.answer g

-- whether the latest line is `end`
abbrev pub has_ended_at : Option Section → Bool
has_ended_at (Some section.End) = true
has_ended_at _ = false

-- whether the lines of the draft have ended
abbrev pub has_ended : Draft → Bool
has_ended before = has_ended_at before.latest
