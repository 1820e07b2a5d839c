-- What `check` shows.
use Rattle.std.specs.Prelude.{ℕ, ◌≡◌, [], Option, Some, None}
use Rattle.fp_model.specs.Problem.{Problem}
use Rattle.fp_flatnet.specs.Belonging.{BelongsTo}
use Rattle.fp_flatnet.specs.Tables.{WindowTable, windows_in}
use Rattle.fp_flatnet.specs.Windows.{AreWindows}
use Rattle.fp_certificate_lines.specs.declared.certificates.Answer.{Answer}
use Rattle.fp_certificate_lines.specs.declared.certificates.Answer.TheVariants as answer
use Rattle.fp_certificate_lines.specs.Statements.{Statement}
use Rattle.fp_certificate_rules.specs.Accepted.{IsAccepted}
use Rattle.fp_checker.specs.Rejections.{IsFirstFailed}
use Rattle.fp_certificate_rules.specs.Claims.{Claims}
use Rattle.fp_app.specs.declared.shown.AnswerKind.{AnswerKind}
use Rattle.fp_app.specs.declared.shown.AnswerKind.TheVariants as kind
use Rattle.fp_app.specs.declared.shown.Shown.{Shown}
use Rattle.fp_app.specs.declared.shown.Shown.TheVariants as shown

-- the kind of an answer
abbrev pub answer_kind : Answer → AnswerKind
answer_kind (answer.Direct cost) = kind.Direct
answer_kind (answer.Optimal cost) = kind.Optimal
answer_kind (answer.Unfinished cost bound spent) = kind.Unfinished
answer_kind (answer.Infeasible shipment time) = kind.Infeasible

-- the windows of the instance, without anchors
pub record AreWindowsOf (p : Problem) (table : WindowTable) : Type 0 where
  pub exact : AreWindows p (windows_in table)
  pub unanchored : table.anchors ≡ []
  pub belongs : BelongsTo p table

-- the certificate is accepted for the instance and its windows
pub record IsAcceptedFor (p : Problem) (c : Statement) : Type 0 where
  pub table : WindowTable
  pub windows : AreWindowsOf p table
  pub accepted : IsAccepted p table c

-- the certificate is accepted, its answer is of this kind, and what it claims of all plans, over
-- every denominator, is true
pub record ShowsAccepted (p : Problem) (c : Statement) (k : AnswerKind) : Type 0 where
  pub is_kind : k ≡ answer_kind c.answer
  pub accepted : IsAcceptedFor p c
  pub claims : Claims p c.answer

-- the certificate isn't accepted, and this is the number of the first part that fails
pub record ShowsRejected (p : Problem) (c : Statement) (number : ℕ) : Type 0 where
  pub table : WindowTable
  pub windows : AreWindowsOf p table
  pub first : IsFirstFailed p table c number
  pub rejected : IsAcceptedFor p c → ⊥

-- what a check says of a certificate: nothing where it's accepted, and then what it claims of all plans is
-- true, else the number of the first part that fails
abbrev pub IsCheckOutcome : Problem → Statement → (failed : Option ℕ) → Type 0
IsCheckOutcome p c None = IsAcceptedFor p c × Claims p c.answer
IsCheckOutcome p c (Some number) = ShowsRejected p c number

-- what is shown of a certificate
abbrev pub ShowsCheck : Problem → Statement → Shown → Type 0
ShowsCheck p c (shown.Accepted kind) = ShowsAccepted p c kind
ShowsCheck p c (shown.RejectedPart number) = ShowsRejected p c number
ShowsCheck p c _ = ⊥
