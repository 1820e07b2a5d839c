-- Where of an answer neither a plan is told nor none, it is the first fault.
use Rattle.std.proofs.Common.{◌≡◌, ℕ, ◌+◌, Bool, true, false, List, drop, take, inl, inr}
use Rattle.std.specs.Prelude.{Option, Some, None, Result, Ok, Err, MatchBool, MatchResult, if◌then◌else◌}
use Rattle.fp_model.specs.Problem.{Problem}
use Rattle.fp_records_fields.specs.Faults.{Fault}
use Rattle.fp_certificate.specs.Reading.{certificate_of}
use Rattle.fp_certificate_lines.specs.Statements.{Statement}
use Rattle.fp_app_tails.specs.declared.answers.Scale.{Scale}
use Rattle.fp_app_tails.specs.Ahead.{ahead_problem}
use Rattle.fp_app_tails.specs.Answers.{OfAnswer, OfAnswerAhead, OfNamed, OfRead, OfScaled, OfWanted, at_scale, fits, scale_by}
use Rattle.fp_app_tails.specs.Duties.{Duty, go_on, keep}
use Rattle.fp_app_tails.specs.Faults.{answer_fault, certificate_fault, day_fault, kept_fault, number_fault, tail_fault}
use Rattle.fp_app_tails.specs.StuckAnswers.{stuck_from}
use Rattle.fp_app_tails.specs.Tails.{DayInstance, KeptInstance, day_told, kept_told, tells_day}
use Rattle.fp_app_tails.specs.Verdicts.{begins_stuck}

abbrev Records : Type 0
Records = List (List (List ℕ))

-- the fault with an ordinal and a code
abbrev pub fault_with : ℕ → ℕ → Option Fault
fault_with n k = Some (record { ordinal = n; code = k })

-- each of two tells the fault that a test chooses
pub either-fault : (b : Bool) (X Y : Type 0) (one two : Option Fault) (f : Fault) → (X → one ≡ Some f) → (Y → two ≡ Some f) → MatchBool b X Y → (if b then one else two) ≡ Some f
either-fault true X Y one two f first second x = first x
either-fault false X Y one two f first second y = second y

-- where neither no plan is told nor one, it is the first fault
module _ (N : Type 0) (F : ℕ → ℕ → Type 0) (P : Problem → Duty → Statement → Type 0) (ordinal code : ℕ) (none : N → ⊥) (fault : (n k : ℕ) → F n k → fault_with n k ≡ fault_with ordinal code)
    (never : (p : Problem) (duty : Duty) (c : Statement) → P p duty c → ⊥) where
  abbrev told : Fault
  told = record { ordinal = ordinal; code = code }

  never-wanted : (p : Problem) (duty : Duty) (X : Type 0) (o : Option Fault) → (X → o ≡ Some told) → OfWanted N F P p duty X → o ≡ Some told
  never-wanted p duty X o one (inl is) = absurd (none is.1)
  never-wanted p duty X o one (inr is) = one is.1

  scaled-fault : (p : Problem) (duty : Duty) (n : Option ℕ) (c : Statement) → OfScaled N F P p duty n c → (if fits n p then None else fault_with 0 12) ≡ Some told
  scaled-fault p duty n c is =
      either-fault (fits n p) (OfWanted N F P (at_scale n p) duty (P (at_scale n p) duty c)) (F 0 12) None (fault_with 0 12) told
      (never-wanted (at_scale n p) duty (P (at_scale n p) duty c) None (λ own. absurd (never (at_scale n p) duty c own))) (fault 0 12) is

  certificate-fault : (p : Problem) (duty : Duty) (n : Scale) (read : Result Statement Fault) → OfRead N F P p duty n read → certificate_fault n p read ≡ Some told
  certificate-fault p duty n (Ok c) is = scaled-fault p duty (scale_by n c) c is
  certificate-fault p duty n (Err f) is = fault f.ordinal f.code is

  named-fault : (named : Result ℕ Fault) → OfNamed N F P named → number_fault named ≡ Some told
  named-fault (Ok k) is = absurd (none is)
  named-fault (Err f) is = fault f.ordinal f.code is

  ahead-fault : (p : Problem) (duty : Duty) (n : Scale) (place : ℕ) (records : Records) → OfAnswerAhead N F P p duty n place records → answer_fault n p duty (place + 1) (drop place records) ≡ Some told
  ahead-fault p duty n place records is =
      let named = stuck_from p (place + 1) (drop place records) in
      let read = certificate_of (ahead_problem p duty) (place + 1) (drop place records) in
      either-fault (begins_stuck (drop place records)) (OfNamed N F P named) (OfWanted N F P p duty (OfRead N F P p duty n read)) (number_fault named) (certificate_fault n p read) told
      (named-fault named) (never-wanted p duty (OfRead N F P p duty n read) (certificate_fault n p read) (certificate-fault p duty n read)) is

  day-fault : (n : Scale) (place : ℕ) (records : Records) (read : Result DayInstance Fault) → MatchResult read (λ (x : DayInstance). OfAnswerAhead N F P x.instance (go_on x.day) n place records) (λ (f : Fault). F f.ordinal f.code) →
      day_fault n (place + 1) (drop place records) read ≡ Some told
  day-fault n place records (Ok x) is = ahead-fault x.instance (go_on x.day) n place records is
  day-fault n place records (Err f) is = fault f.ordinal f.code is

  kept-fault : (n : Scale) (place : ℕ) (records : Records) (read : Result KeptInstance Fault) → MatchResult read (λ (x : KeptInstance). OfAnswerAhead N F P x.instance (keep x.kept) n place records) (λ (f : Fault). F f.ordinal f.code) →
      kept_fault n (place + 1) (drop place records) read ≡ Some told
  kept-fault n place records (Ok x) is = ahead-fault x.instance (keep x.kept) n place records is
  kept-fault n place records (Err f) is = fault f.ordinal f.code is

  pub answer-fault : (n : Scale) (place : ℕ) (records : Records) → OfAnswer N F P n place records → tail_fault n place records ≡ Some told
  answer-fault n place records is =
      either-fault (tells_day (take place records))
      (MatchResult (day_told (take place records)) (λ (x : DayInstance). OfAnswerAhead N F P x.instance (go_on x.day) n place records) (λ (f : Fault). F f.ordinal f.code))
      (MatchResult (kept_told (take place records)) (λ (x : KeptInstance). OfAnswerAhead N F P x.instance (keep x.kept) n place records) (λ (f : Fault). F f.ordinal f.code))
      (day_fault n (place + 1) (drop place records) (day_told (take place records))) (kept_fault n (place + 1) (drop place records) (kept_told (take place records))) told
      (day-fault n place records (day_told (take place records))) (kept-fault n place records (kept_told (take place records))) is
