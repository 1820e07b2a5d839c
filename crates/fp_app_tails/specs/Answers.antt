-- What an answer gives that follows kept legs or a day that is under way: what is to be planned, and its certificate.
use Rattle.std.specs.Prelude.{ℕ, ◌+◌, ◌^◌, ◌≡◌, ◌≤◌, ◌⊎◌, List, drop, take, nat_lt, Bool, true, Option, Some, None, MatchBool, MatchResult, Result, ⊤}
use Rattle.fp_model.specs.declared.limits.TheConstants.{GREATEST_SCALE}
use Rattle.fp_model.specs.Problem.{Problem, weight_at}
use Rattle.fp_records_fields.specs.Faults.{Fault}
use Rattle.fp_flatnet.specs.Belonging.{BelongsTo}
use Rattle.fp_flatnet.specs.Tables.{WindowTable}
use Rattle.fp_certificate_lines.specs.Statements.{Statement}
use Rattle.fp_certificate.specs.Reading.{certificate_of}
use Rattle.fp_app_tails.specs.declared.answers.Answered.{Answered}
use Rattle.fp_app_tails.specs.declared.answers.Answered.TheVariants as answered
use Rattle.fp_app_tails.specs.declared.answers.Scale.{Scale}
use Rattle.fp_app_tails.specs.declared.answers.Scale.TheVariants as scale
use Rattle.fp_app_tails.specs.Ahead.{GoesOn, ahead_problem}
use Rattle.fp_app_tails.specs.Duties.{Duty, go_on, keep}
use Rattle.fp_app_tails.specs.StuckAnswers.{stuck_from}
use Rattle.fp_app_tails.specs.Tails.{DayInstance, KeptInstance, day_told, kept_told, tells_day}
use Rattle.fp_app_tails.specs.Verdicts.{AreWindowsAhead, CanBeTested, begins_stuck, scale_of}

-- a scale within its limits
abbrev pub IsScale : ℕ → Type 0
IsScale n = (1 ≤ n) × (n ≤ GREATEST_SCALE)

-- it can be asked for
abbrev pub CanBeAsked : Scale → Type 0
CanBeAsked (scale.Of n) = IsScale n
CanBeAsked _ = ⊤

-- the scale at which a certificate's instance is given; `None` where that is its own
abbrev pub scale_by : Scale → Statement → Option ℕ
scale_by scale.Usual c = None
scale_by scale.Named c = Some (scale_of c.scale)
scale_by (scale.Of n) c = Some n

-- the instance at it
abbrev pub at_scale : Option ℕ → Problem → Problem
at_scale None p = p
at_scale (Some n) p = record p { scale = n }

-- whether it fits the instance
abbrev pub fits : Option ℕ → Problem → Bool
fits None p = true
fits (Some n) p = nat_lt (weight_at n p.arcs p.shipments) (2 ^ 127)

-- What holds of the answer of records: N where no plan is told, since none goes on or since the answer says so; F of
-- the ordinal and the code of their first fault; and otherwise P of the instance at its scale, of what is asked of its
-- plans, and of the certificate, which is one of what is to be planned.
module _ (N : Type 0) (F : ℕ → ℕ → Type 0) (P : Problem → Duty → Statement → Type 0) where
  -- where some plan goes on, and where none does
  abbrev pub OfWanted : Problem → Duty → Type 0 → Type 0
  OfWanted p duty X = ((GoesOn p duty → ⊥) × N) ⊎ (GoesOn p duty × X)

  -- a certificate that was read, where the scale fits the instance
  abbrev pub OfScaled : Problem → Duty → Option ℕ → Statement → Type 0
  OfScaled p duty n c = MatchBool (fits n p) (OfWanted (at_scale n p) duty (P (at_scale n p) duty c)) (F 0 12)

  -- a certificate, or the fault of its records
  abbrev pub OfRead : Problem → Duty → Scale → Result Statement Fault → Type 0
  OfRead p duty n read = MatchResult read (λ c. OfScaled p duty (scale_by n c) c) (λ (f : Fault). F f.ordinal f.code)

  -- a shipment that is named as stuck, or the fault of the records
  abbrev pub OfNamed : Result ℕ Fault → Type 0
  OfNamed named = MatchResult named (λ k. N) (λ (f : Fault). F f.ordinal f.code)

  -- the answer at a place, after what is told of an instance
  abbrev pub OfAnswerAhead : Problem → Duty → Scale → (place : ℕ) → List (List (List ℕ)) → Type 0
  OfAnswerAhead p duty n place records =
      MatchBool (begins_stuck (drop place records))
      (OfNamed (stuck_from p (place + 1) (drop place records)))
      (OfWanted p duty (OfRead p duty n (certificate_of (ahead_problem p duty) (place + 1) (drop place records))))

  -- and with what the records before it tell, or their fault
  abbrev pub OfAnswer : Scale → (place : ℕ) → List (List (List ℕ)) → Type 0
  OfAnswer n place records =
      MatchBool (tells_day (take place records))
      (MatchResult (day_told (take place records)) (λ (x : DayInstance). OfAnswerAhead x.instance (go_on x.day) n place records) (λ (f : Fault). F f.ordinal f.code))
      (MatchResult (kept_told (take place records)) (λ (x : KeptInstance). OfAnswerAhead x.instance (keep x.kept) n place records) (λ (f : Fault). F f.ordinal f.code))

-- what is to be planned of an instance, with the windows of the plans that are wanted, and the certificate
pub record IsPlanned (p : Problem) (duty : Duty) (c : Statement) (q : Problem) (table : WindowTable) (d : Statement) : Type 0 where
  pub same : q ≡ ahead_problem p duty
  pub windows : AreWindowsAhead p duty table
  pub certificate : d ≡ c

-- what is given is that, that no plan is told, or a fault
abbrev pub Gives : Answered → Problem → Duty → Statement → Type 0
Gives (answered.Read q table d) p duty c = IsPlanned p duty c q table d
Gives _ p duty c = ⊥

abbrev pub GivesNone : Answered → Type 0
GivesNone a = a ≡ answered.NoPlan

abbrev pub GivesFault : Answered → ℕ → ℕ → Type 0
GivesFault a ordinal code = a ≡ answered.Fault ordinal code

-- it is what a certificate gives, one that was read, one of records, the answer `stuck`, and the answer at a place
abbrev pub IsWantedOf : Problem → Duty → Statement → Answered → Type 0
IsWantedOf p duty c a = OfWanted (GivesNone a) (GivesFault a) (Gives a) p duty (Gives a p duty c)

abbrev pub IsScaledOf : Problem → Duty → Option ℕ → Statement → Answered → Type 0
IsScaledOf p duty n c a = OfScaled (GivesNone a) (GivesFault a) (Gives a) p duty n c

abbrev pub IsReadOf : Problem → Duty → Scale → Result Statement Fault → Answered → Type 0
IsReadOf p duty n read a = OfRead (GivesNone a) (GivesFault a) (Gives a) p duty n read

abbrev pub IsGivenOf : Problem → Duty → Scale → Result Statement Fault → Answered → Type 0
IsGivenOf p duty n read a = OfWanted (GivesNone a) (GivesFault a) (Gives a) p duty (IsReadOf p duty n read a)

abbrev pub IsNamedOf : Result ℕ Fault → Answered → Type 0
IsNamedOf named a = OfNamed (GivesNone a) (GivesFault a) (Gives a) named

abbrev pub IsAnswerAhead : Problem → Duty → Scale → (place : ℕ) → List (List (List ℕ)) → Answered → Type 0
IsAnswerAhead p duty n place records a = OfAnswerAhead (GivesNone a) (GivesFault a) (Gives a) p duty n place records

abbrev pub IsAnswer : Scale → (place : ℕ) → List (List (List ℕ)) → Answered → Type 0
IsAnswer n place records a = OfAnswer (GivesNone a) (GivesFault a) (Gives a) n place records

-- the windows belong to what is to be planned, and the certificate can be tested for it
abbrev pub IsTestable : Answered → Type 0
IsTestable (answered.Read q table c) = BelongsTo q table × CanBeTested q c
IsTestable _ = ⊤
