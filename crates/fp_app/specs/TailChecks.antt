-- What `check` shows of an answer that follows kept legs or a day that is under way.
use Rattle.std.specs.Prelude.{ℕ, ◌≡◌, List, Option, Some, None, MatchBool}
use Rattle.fp_records.specs.Fields.{records_of}
use Rattle.fp_certificate_lines.specs.declared.certificates.Answer.{Answer}
use Rattle.fp_app_tails.specs.declared.verdicts.Verdict.{Verdict}
use Rattle.fp_app_tails.specs.declared.verdicts.Verdict.TheVariants as verdict
use Rattle.fp_app_tails.specs.Verdicts.{IsVerdict, scaled}
use Rattle.fp_app.specs.declared.shown.AnswerKind.TheVariants as kind
use Rattle.fp_app.specs.declared.shown.Shown.{Shown}
use Rattle.fp_app.specs.declared.shown.Shown.TheVariants as shown
use Rattle.fp_app.specs.declared.shown.Status.{Status}
use Rattle.fp_app.specs.Checks.{ShowsCheck, answer_kind}
use Rattle.fp_app.specs.Inputs.{OfCertificate, has_tail_in, leading_count}
use Rattle.fp_app.specs.Shown.{status_of}

-- what is shown of what is said of an answer
abbrev pub shown_of : Verdict → Shown
shown_of (verdict.Accepted (Some a)) = shown.Accepted (answer_kind a)
shown_of (verdict.Accepted None) = shown.Accepted kind.Stuck
shown_of (verdict.Rejected number) = shown.RejectedPart number
shown_of (verdict.Fault ordinal code) = shown.BadInput ordinal code

-- it is what is said of the answer of an input
abbrev pub IsSaidOf : List ℕ → Verdict → Type 0
IsSaidOf input said = IsVerdict (leading_count input) (records_of input) said

-- what is said of the answer of an input, and that is shown
pub record ShowsSaid (input : List ℕ) (result : Shown) : Type 0 where
  pub said : Verdict
  pub is : IsSaidOf input said
  pub shows : result ≡ shown_of said

-- of a certificate after an instance alone, or of the answer after an instance and what is told of it
abbrev pub ShowsAnswer : List ℕ → Shown → Type 0
ShowsAnswer input result = MatchBool (has_tail_in input) (ShowsSaid input result) (OfCertificate input result (λ p c. ShowsCheck (scaled p c) c result))

-- The answer of the input is accepted. So it is true of the plans that keep the legs or go on with the day
-- (`IsVerdict`): what a certificate claims, or that there are none and who is the first that is stuck.
pub record ShowsSaidYes (input : List ℕ) (result : Shown) : Type 0 where
  pub answer : Option Answer
  pub is : IsSaidOf input (verdict.Accepted answer)
  pub shows : result ≡ shown_of (verdict.Accepted answer)

-- The answer of the input isn't accepted, and what is shown is the first part that fails.
pub record ShowsSaidNo (input : List ℕ) (result : Shown) : Type 0 where
  pub number : ℕ
  pub is : IsSaidOf input (verdict.Rejected number)
  pub shows : result ≡ shown.RejectedPart number

-- the status of `check` for such an input
pub record SaidStatus (input : List ℕ) (result : Status) : Type 0 where
  pub said : Verdict
  pub is : IsSaidOf input said
  pub ends : result ≡ status_of (shown_of said)
