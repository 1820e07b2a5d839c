-- Where what is said of an answer is the fault of a record, it is the first of the input.
use Rattle.std.proofs.Common.{◌≡◌, ◌∙◌, ℕ, ◌+◌, ◌^◌, List, drop, take, nat_lt, ap, inl, inr}
use Rattle.std.specs.Prelude.{Some, None, Result, Ok, Err, MatchResult}
use Rattle.fp_model.specs.Problem.{Problem, weight_at}
use Rattle.fp_records_fields.specs.Faults.{Fault}
use Rattle.fp_certificate.specs.Reading.{certificate_of}
use Rattle.fp_certificate_lines.specs.Statements.{Statement}
use Rattle.fp_app_tails.specs.declared.answers.Scale.{Scale}
use Rattle.fp_app_tails.specs.declared.answers.Scale.TheVariants as scale
use Rattle.fp_app_tails.specs.declared.verdicts.Verdict.TheVariants as verdict
use Rattle.fp_app_tails.specs.Ahead.{ahead_problem}
use Rattle.fp_app_tails.specs.Duties.{Duty, go_on, keep}
use Rattle.fp_app_tails.specs.Faults.{answer_fault, certificate_fault, day_fault, kept_fault, number_fault, tail_fault}
use Rattle.fp_app_tails.specs.StuckAnswers.{stuck_from}
use Rattle.fp_app_tails.specs.Tails.{DayInstance, KeptInstance, day_told, kept_told, tells_day}
use Rattle.fp_app_tails.specs.Verdicts.{IsCertificateSaid, IsScaledVerdict, IsStuckSaid, IsVerdict, IsVerdictAhead, IsVerdictAt, begins_stuck, scale_of, scaled}
use Rattle.fp_app_tails.proofs.AnswerFaults.{either-fault, fault_with}

abbrev Records : Type 0
Records = List (List (List ℕ))

abbrev named : Scale
named = scale.Named

module _ (ordinal code : ℕ) where
  abbrev told : Fault
  told = record { ordinal = ordinal; code = code }

  same-fault : (f : Fault) → verdict.Fault ordinal code ≡ verdict.Fault f.ordinal f.code → Some f ≡ Some told
  same-fault f same =
      let first : f.ordinal ≡ ordinal = cc same in
      let second : f.code ≡ code = cc same in
      ap (λ (n : ℕ). fault_with n f.code) first ∙ ap (λ (n : ℕ). fault_with ordinal n) second

  scale-fault : (p : Problem) (duty : Duty) (c : Statement) → IsScaledVerdict p duty c (verdict.Fault ordinal code) → certificate_fault named p (Ok c) ≡ Some told
  scale-fault p duty c said =
      either-fault (nat_lt (weight_at (scale_of c.scale) p.arcs p.shipments) (2 ^ 127)) (IsVerdictAt (scaled p c) duty c (verdict.Fault ordinal code)) (verdict.Fault ordinal code ≡ verdict.Fault 0 12) None (Some (record { ordinal = 0; code = 12 })) told
      (λ none. absurd none) (λ same. same-fault (record { ordinal = 0; code = 12 }) same) said

  read-fault : (p : Problem) (duty : Duty) (read : Result Statement Fault) →
      MatchResult read (λ c. IsScaledVerdict p duty c (verdict.Fault ordinal code)) (λ (f : Fault). verdict.Fault ordinal code ≡ verdict.Fault f.ordinal f.code) → certificate_fault named p read ≡ Some told
  read-fault p duty (Ok c) said = scale-fault p duty c said
  read-fault p duty (Err f) same = same-fault f same

  said-fault : (p : Problem) (duty : Duty) (read : Result Statement Fault) → IsCertificateSaid p duty read (verdict.Fault ordinal code) → certificate_fault named p read ≡ Some told
  said-fault p duty read (inl none) = let g = none.1 in cc g
  said-fault p duty read (inr said) = read-fault p duty read said.1

  stuck-fault : (p : Problem) (duty : Duty) (read : Result ℕ Fault) →
      MatchResult read (λ k. IsStuckSaid p duty k (verdict.Fault ordinal code)) (λ (f : Fault). verdict.Fault ordinal code ≡ verdict.Fault f.ordinal f.code) → number_fault read ≡ Some told
  stuck-fault p duty (Ok k) said = absurd said
  stuck-fault p duty (Err f) same = same-fault f same

  ahead-fault : (p : Problem) (duty : Duty) (place : ℕ) (records : Records) → IsVerdictAhead p duty place records (verdict.Fault ordinal code) → answer_fault named p duty (place + 1) (drop place records) ≡ Some told
  ahead-fault p duty place records said =
      either-fault (begins_stuck (drop place records))
      (MatchResult (stuck_from p (place + 1) (drop place records)) (λ k. IsStuckSaid p duty k (verdict.Fault ordinal code)) (λ (f : Fault). verdict.Fault ordinal code ≡ verdict.Fault f.ordinal f.code))
      (IsCertificateSaid p duty (certificate_of (ahead_problem p duty) (place + 1) (drop place records)) (verdict.Fault ordinal code))
      (number_fault (stuck_from p (place + 1) (drop place records))) (certificate_fault named p (certificate_of (ahead_problem p duty) (place + 1) (drop place records))) told
      (stuck-fault p duty (stuck_from p (place + 1) (drop place records))) (said-fault p duty (certificate_of (ahead_problem p duty) (place + 1) (drop place records))) said

  day-fault : (place : ℕ) (records : Records) (read : Result DayInstance Fault) →
      MatchResult read (λ (x : DayInstance). IsVerdictAhead x.instance (go_on x.day) place records (verdict.Fault ordinal code)) (λ (f : Fault). verdict.Fault ordinal code ≡ verdict.Fault f.ordinal f.code) →
      day_fault named (place + 1) (drop place records) read ≡ Some told
  day-fault place records (Ok x) said = ahead-fault x.instance (go_on x.day) place records said
  day-fault place records (Err f) same = same-fault f same

  kept-fault : (place : ℕ) (records : Records) (read : Result KeptInstance Fault) →
      MatchResult read (λ (x : KeptInstance). IsVerdictAhead x.instance (keep x.kept) place records (verdict.Fault ordinal code)) (λ (f : Fault). verdict.Fault ordinal code ≡ verdict.Fault f.ordinal f.code) →
      kept_fault named (place + 1) (drop place records) read ≡ Some told
  kept-fault place records (Ok x) said = ahead-fault x.instance (keep x.kept) place records said
  kept-fault place records (Err f) same = same-fault f same

  pub told-fault : (place : ℕ) (records : Records) → IsVerdict place records (verdict.Fault ordinal code) → tail_fault named place records ≡ Some told
  told-fault place records said =
      either-fault (tells_day (take place records))
      (MatchResult (day_told (take place records)) (λ (x : DayInstance). IsVerdictAhead x.instance (go_on x.day) place records (verdict.Fault ordinal code)) (λ (f : Fault). verdict.Fault ordinal code ≡ verdict.Fault f.ordinal f.code))
      (MatchResult (kept_told (take place records)) (λ (x : KeptInstance). IsVerdictAhead x.instance (keep x.kept) place records (verdict.Fault ordinal code)) (λ (f : Fault). verdict.Fault ordinal code ≡ verdict.Fault f.ordinal f.code))
      (day_fault named (place + 1) (drop place records) (day_told (take place records))) (kept_fault named (place + 1) (drop place records) (kept_told (take place records))) told
      (day-fault place records (day_told (take place records))) (kept-fault place records (kept_told (take place records))) said
