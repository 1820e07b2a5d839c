-- What `check` says of an answer that follows kept legs or a day that is under way.
use Rattle.std.specs.Prelude.{ℕ, ◌+◌, ◌-◌, ◌^◌, ◌<◌, ◌≤◌, ◌≡◌, ◌⊎◌, ◌==◌, List, [], ◌∷◌, All, Bool, false, drop, take, length, nat_lt, Option, Some, None, MatchBool, MatchResult, Result, if◌then◌else◌, ⊤}
use Rattle.fp_model.specs.declared.limits.TheConstants.{SCALE}
use Rattle.fp_model.specs.declared.parts.Leg.{Leg}
use Rattle.fp_model.specs.Costs.{cost}
use Rattle.fp_model.specs.Plans.{IsPlan, PlanExists}
use Rattle.fp_model.specs.Problem.{Problem, weight_at}
use Rattle.fp_records_fields.specs.Faults.{Fault}
use Rattle.fp_flatnet.specs.Tables.{WindowTable, windows_in}
use Rattle.fp_prices.specs.Tables.{AreCountable}
use Rattle.fp_prices_spans.specs.Spans.{ClassSpan}
use Rattle.fp_certificate_lines.specs.declared.certificates.Answer.{Answer}
use Rattle.fp_certificate_lines.specs.declared.certificates.Answer.TheVariants as answer
use Rattle.fp_certificate_lines.specs.Ranges.{IsInRange}
use Rattle.fp_certificate_lines.specs.Statements.{Statement}
use Rattle.fp_certificate_rules.specs.Accepted.{IsAccepted}
use Rattle.fp_certificate_rules.specs.Claims.{ClaimsWithin}
use Rattle.fp_certificate.specs.Reading.{certificate_of}
use Rattle.fp_checker.specs.Rejections.{IsFirstFailed}
use Rattle.fp_replan.specs.declared.kept.Kept.{Kept}
use Rattle.fp_replan.specs.KeptLegs.{Keeps}
use Rattle.fp_replan_present.specs.Plans.{NoneUnderwayCheaper, sunk_cost}
use Rattle.fp_replan_present.specs.Rests.{left_problem}
use Rattle.fp_app_tails.specs.declared.ahead.Ahead.{Ahead}
use Rattle.fp_app_tails.specs.declared.ahead.Ahead.TheVariants as ahead
use Rattle.fp_app_tails.specs.Duties.{Duty, go_on, keep}
use Rattle.fp_app_tails.specs.declared.verdicts.Verdict.{Verdict}
use Rattle.fp_app_tails.specs.declared.verdicts.Verdict.TheVariants as verdict
use Rattle.fp_app_tails.specs.Ahead.{GoesOn, IsStuckAt, ahead_problem}
use Rattle.fp_app_tails.specs.StuckAnswers.{stuck_from, tells_stuck}
use Rattle.fp_app_tails.specs.Tails.{DayInstance, KeptInstance, day_told, kept_told, tells_day}
use Rattle.fp_app_tails.specs.Windows.{AreDayWindows, AreKeptWindowsOf}

-- the scale that a certificate names, and the usual one where it names none
abbrev pub scale_of : Option ℕ → ℕ
scale_of None = SCALE
scale_of (Some scale) = scale

-- the instance with a certificate's scale
abbrev pub scaled : Problem → Statement → Problem
scaled p c = record p { scale = scale_of c.scale }

-- over every denominator, no plan that keeps the legs costs less than c
abbrev pub NoKeptPlanCheaper : Problem → List Kept → ℕ → Type 0
NoKeptPlanCheaper p kept c = (d : ℕ) (routes : List (List Leg)) → 1 ≤ d → IsPlan p d routes → Keeps kept d routes → c ≤ cost p routes

-- the windows of what is to be planned
abbrev pub AreWindowsAhead : Problem → Duty → WindowTable → Type 0
AreWindowsAhead p (keep kept) table = AreKeptWindowsOf p kept table
AreWindowsAhead p (go_on day) table = AreDayWindows p day (left_problem p day) table

-- over every denominator, no plan that keeps the legs costs less than c, or none that goes on with the day
-- less than c and what its settled legs cost
abbrev pub NoneAheadCheaper : Problem → Duty → ℕ → Type 0
NoneAheadCheaper p (keep kept) c = NoKeptPlanCheaper p kept c
NoneAheadCheaper p (go_on day) c = NoneUnderwayCheaper p day (sunk_cost p day + c)

-- what an answer claims of the plans that are wanted
abbrev pub ClaimsAhead : Problem → Duty → Answer → Type 0
ClaimsAhead p duty (answer.Direct cost) = ⊤
ClaimsAhead p duty (answer.Optimal cost) = NoneAheadCheaper p duty cost
ClaimsAhead p duty (answer.Unfinished cost bound spent) = NoneAheadCheaper p duty bound
ClaimsAhead p duty (answer.Infeasible shipment time) = PlanExists (ahead_problem p duty) → ⊥

-- a certificate is accepted for what is to be planned, under the windows of the plans that are wanted
pub record IsAcceptedAhead (p : Problem) (duty : Duty) (c : Statement) : Type 0 where
  pub table : WindowTable
  pub windows : AreWindowsAhead p duty table
  pub accepted : IsAccepted (ahead_problem p duty) table c

-- it isn't, and this is the number of the first part that fails
pub record IsRejectedAhead (p : Problem) (duty : Duty) (c : Statement) (number : ℕ) : Type 0 where
  pub table : WindowTable
  pub windows : AreWindowsAhead p duty table
  pub first : IsFirstFailed (ahead_problem p duty) table c number

-- a certificate can be tested for an instance
abbrev pub CanBeTested : Problem → Statement → Type 0
CanBeTested p c = IsInRange p c × AreCountable p c.tables × All (λ (list : List ClassSpan). length list < 2 ^ 32 - 1) c.spans

-- it was read for what is to be planned
abbrev pub IsRead : Problem → Duty → Statement → Type 0
IsRead p duty c = CanBeTested (ahead_problem p duty) c

-- what is said of a certificate under windows
abbrev pub IsTested : Problem → WindowTable → Statement → Verdict → Type 0
IsTested p table c (verdict.Accepted (Some a)) = (a ≡ c.answer) × IsAccepted p table c × ClaimsWithin p (windows_in table) c.answer
IsTested p table c (verdict.Accepted None) = ⊥
IsTested p table c (verdict.Rejected number) = IsFirstFailed p table c number
IsTested p table c (verdict.Fault ordinal code) = ⊥

-- what is said of a certificate for an instance at the certificate's scale: it is accepted, and what it claims
-- is true; or it's rejected, since no plan is wanted or by the first part that fails
abbrev pub IsVerdictAt : Problem → Duty → Statement → Verdict → Type 0
IsVerdictAt p duty c (verdict.Accepted (Some a)) = (a ≡ c.answer) × IsAcceptedAhead p duty c × ClaimsAhead p duty c.answer
IsVerdictAt p duty c (verdict.Accepted None) = ⊥
IsVerdictAt p duty c (verdict.Rejected number) = ((number ≡ 1) × (GoesOn p duty → ⊥)) ⊎ IsRejectedAhead p duty c number
IsVerdictAt p duty c (verdict.Fault ordinal code) = ⊥

-- the same, or that the scale doesn't fit the instance
abbrev pub IsScaledVerdict : Problem → Duty → Statement → Verdict → Type 0
IsScaledVerdict p duty c result =
    MatchBool (nat_lt (weight_at (scale_of c.scale) p.arcs p.shipments) (2 ^ 127)) (IsVerdictAt (scaled p c) duty c result) (result ≡ verdict.Fault 0 12)

-- what is said of a shipment that is named as the first that is stuck, by what is to be planned
abbrev pub IsStuckVerdict : Ahead → ℕ → Verdict → Type 0
IsStuckVerdict (ahead.Open q windows) k result = result ≡ verdict.Rejected 8
IsStuckVerdict (ahead.Stuck first) k result = result ≡ (if first == k then verdict.Accepted None else verdict.Rejected 8)

-- it is accepted where it is, and then no plan goes on; and else rejected
abbrev pub IsStuckSaid : Problem → Duty → ℕ → Verdict → Type 0
IsStuckSaid p duty k (verdict.Accepted None) = IsStuckAt p duty k × (GoesOn p duty → ⊥)
IsStuckSaid p duty k (verdict.Accepted (Some a)) = ⊥
IsStuckSaid p duty k (verdict.Rejected number) = (number ≡ 8) × (IsStuckAt p duty k → ⊥)
IsStuckSaid p duty k (verdict.Fault ordinal code) = ⊥

-- so of the shipment that records name, or the fault of these
abbrev pub IsNamedSaid : Problem → Duty → Result ℕ Fault → Verdict → Type 0
IsNamedSaid p duty named result = MatchResult named (λ k. IsStuckSaid p duty k result) (λ (f : Fault). result ≡ verdict.Fault f.ordinal f.code)

-- what is said of a certificate that was read, or the fault of its records
abbrev pub IsReadVerdict : Problem → Duty → Result Statement Fault → Verdict → Type 0
IsReadVerdict p duty read result = MatchResult read (λ c. IsScaledVerdict p duty c result) (λ (f : Fault). result ≡ verdict.Fault f.ordinal f.code)

-- what is said of a certificate that was read, or of the fault of its records; where no plan is wanted it is
-- rejected, whatever it is
abbrev pub IsCertificateSaid : Problem → Duty → Result Statement Fault → Verdict → Type 0
IsCertificateSaid p duty read result =
    ((GoesOn p duty → ⊥) × (result ≡ verdict.Rejected 1))
    ⊎ (GoesOn p duty × IsReadVerdict p duty read result)

-- whether records begin with the answer that no plan goes on
abbrev pub begins_stuck : List (List (List ℕ)) → Bool
begins_stuck [] = false
begins_stuck (fields ∷ records) = tells_stuck fields

-- what is said of the answer at a place
abbrev pub IsVerdictAhead : Problem → Duty → (place : ℕ) → List (List (List ℕ)) → Verdict → Type 0
IsVerdictAhead p duty place records result =
    MatchBool (begins_stuck (drop place records))
    (IsNamedSaid p duty (stuck_from p (place + 1) (drop place records)) result)
    (IsCertificateSaid p duty (certificate_of (ahead_problem p duty) (place + 1) (drop place records)) result)

-- and what is said by the records before it, of the instance and of the kept legs or the day, or their fault
abbrev pub IsVerdict : (place : ℕ) → List (List (List ℕ)) → Verdict → Type 0
IsVerdict place records result =
    MatchBool (tells_day (take place records))
    (MatchResult (day_told (take place records)) (λ (x : DayInstance). IsVerdictAhead x.instance (go_on x.day) place records result) (λ (f : Fault). result ≡ verdict.Fault f.ordinal f.code))
    (MatchResult (kept_told (take place records)) (λ (x : KeptInstance). IsVerdictAhead x.instance (keep x.kept) place records result) (λ (f : Fault). result ≡ verdict.Fault f.ordinal f.code))
