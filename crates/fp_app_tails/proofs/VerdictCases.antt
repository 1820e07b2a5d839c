-- What is said of an answer, by what was found.
use Rattle.std.proofs.Common.{◌≡◌, ◌≢◌, ℕ, ◌<◌, ◌≤◌, ◌^◌, nat_lt, ltb, refl, sym, subst, inl, inr, arith}
use Rattle.std.specs.Prelude.{Err, None, Ok, Result, Some}
use Rattle.std.proofs.lemmas.Bool.{cases_Bool, ltb-false, ltb-true}
use Rattle.std.proofs.lemmas.Bool.Decides.{eqb_tells}
use Rattle.fp_model.specs.Problem.{Problem, weight_at}
use Rattle.fp_records_fields.specs.Faults.{Fault}
use Rattle.fp_flatnet.specs.Tables.{WindowTable, windows_in}
use Rattle.fp_certificate_lines.specs.declared.certificates.Answer.{Answer}
use Rattle.fp_certificate_lines.specs.declared.certificates.Answer.TheVariants as answer
use Rattle.fp_certificate_lines.specs.Statements.{Statement}
use Rattle.fp_certificate_rules.specs.Claims.{ClaimsWithin, NoPlanWithinCheaper}
use Rattle.fp_replan.proofs.BegunPlans.{none-kept}
use Rattle.fp_replan_present.proofs.ShipmentParts.{none-underway}
use Rattle.fp_app_tails.specs.declared.ahead.Ahead.{Ahead}
use Rattle.fp_app_tails.specs.declared.ahead.Ahead.TheVariants as ahead
use Rattle.fp_app_tails.specs.declared.answers.Answered.{Answered}
use Rattle.fp_app_tails.specs.declared.answers.Answered.TheVariants as answered
use Rattle.fp_app_tails.specs.declared.answers.Scale.TheVariants as scale
use Rattle.fp_app_tails.specs.declared.verdicts.Verdict.{Verdict}
use Rattle.fp_app_tails.specs.declared.verdicts.Verdict.TheVariants as verdict
use Rattle.fp_app_tails.specs.Ahead.{GoesOn, IsAhead, IsStuckAt, ahead_problem}
use Rattle.fp_app_tails.specs.Answers.{Gives, IsGivenOf, IsReadOf, IsScaledOf, IsWantedOf}
use Rattle.fp_app_tails.specs.Duties.{Duty, go_on, keep}
use Rattle.fp_app_tails.specs.Verdicts.{AreWindowsAhead, ClaimsAhead, IsCertificateSaid, IsReadVerdict, IsScaledVerdict, IsStuckSaid, IsStuckVerdict, IsTested, IsVerdictAt, NoneAheadCheaper, scale_of, scaled}
use Rattle.fp_app_tails.proofs.AheadCases.{open-goes, stuck-at}

-- where a shipment is stuck no plan goes on
none-ahead : (p : Problem) (duty : Duty) (k : ℕ) → IsStuckAt p duty k → GoesOn p duty → ⊥
none-ahead p (keep kept) k stuck = none-kept p kept k stuck
none-ahead p (go_on day) k stuck = none-underway p day k stuck

-- and it is the first that is
stuck-first : (p : Problem) (duty : Duty) (j k : ℕ) → j < k → IsStuckAt p duty j → IsStuckAt p duty k → ⊥
stuck-first p (keep kept) j k before one two = one.none (two.earlier j before)
stuck-first p (go_on day) j k before one two = one.none (two.earlier j before)

stuck-one : (p : Problem) (duty : Duty) (j k : ℕ) → IsStuckAt p duty j → IsStuckAt p duty k → j ≢ k → ⊥
stuck-one p duty j k one two other =
    elim (cases_Bool (ltb j k)) [
      | inl before ↦ stuck-first p duty j k (ltb-true j k before) one two
      | inr after ↦ stuck-first p duty k j (let least : k ≤ j = ltb-false j k after in omega (arith, least, other)) two one
    ]

-- what is said of a shipment that is named as stuck
stuck-by : (p : Problem) (duty : Duty) (first k : ℕ) (v : Verdict) → IsStuckAt p duty first → (GoesOn p duty → ⊥) → IsStuckVerdict (ahead.Stuck first) k v → IsStuckSaid p duty k v
stuck-by p duty first k v stuck none is =
    elim (eqb_tells first k) [
      | inl same ↦ subst (λ (x : Verdict). IsStuckSaid p duty k x) (sym (rw same.0 at is)) (subst (λ (n : ℕ). IsStuckAt p duty n) same.1 stuck, none)
      | inr other ↦ subst (λ (x : Verdict). IsStuckSaid p duty k x) (sym (rw other.0 at is)) (refl, λ at. stuck-one p duty first k stuck at other.1)
    ]

open-by : (p : Problem) (duty : Duty) (k : ℕ) (v : Verdict) → GoesOn p duty → v ≡ verdict.Rejected 8 → IsStuckSaid p duty k v
open-by p duty k v goes is = subst (λ (x : Verdict). IsStuckSaid p duty k x) (sym is) (refl, λ at. none-ahead p duty k at goes)

pub stuck-said : (p : Problem) (duty : Duty) (a : Ahead) (k : ℕ) (v : Verdict) → IsAhead p duty a → IsStuckVerdict a k v → IsStuckSaid p duty k v
stuck-said p duty (ahead.Open q table) k v is says = open-by p duty k v (open-goes p duty q table is) says
stuck-said p duty (ahead.Stuck first) k v is says = let at = stuck-at p duty first is in stuck-by p duty first k v at.0 at.1 says

-- what no plan within the windows costs less than, none that is wanted does
none-wanted : (p : Problem) (duty : Duty) (table : WindowTable) (c : ℕ) → AreWindowsAhead p duty table → NoPlanWithinCheaper (ahead_problem p duty) (windows_in table) c → NoneAheadCheaper p duty c
none-wanted p (keep kept) table c windows within = λ d routes some is keeps. within d routes some is ((windows.tell d routes some is).1 keeps)
none-wanted p (go_on day) table c windows within = (windows.cheaper c).1 within

claims-ahead : (p : Problem) (duty : Duty) (table : WindowTable) (a : Answer) → AreWindowsAhead p duty table → ClaimsWithin (ahead_problem p duty) (windows_in table) a → ClaimsAhead p duty a
claims-ahead p duty table (answer.Direct cost) windows claims = tt
claims-ahead p duty table (answer.Optimal cost) windows claims = none-wanted p duty table cost windows claims
claims-ahead p duty table (answer.Unfinished cost bound spent) windows claims = none-wanted p duty table bound windows claims
claims-ahead p duty table (answer.Infeasible shipment time) windows claims = claims

tested-by : (p : Problem) (duty : Duty) (table : WindowTable) (c : Statement) (v : Verdict) → AreWindowsAhead p duty table → IsTested (ahead_problem p duty) table c v → IsVerdictAt p duty c v
tested-by p duty table c (verdict.Accepted (Some a)) windows is = (is.0, record { table = table; windows = windows; accepted = is.1 }, claims-ahead p duty table c.answer windows is.2)
tested-by p duty table c (verdict.Accepted None) windows is = absurd is
tested-by p duty table c (verdict.Rejected number) windows is = inr (record { table = table; windows = windows; first = is })
tested-by p duty table c (verdict.Fault ordinal code) windows is = absurd is

-- what is said of a certificate by what it gives
abbrev pub SaysOf : Answered → Verdict → Type 0
SaysOf (answered.Read q table c) v = IsTested q table c v
SaysOf answered.NoPlan v = v ≡ verdict.Rejected 1
SaysOf (answered.Fault ordinal code) v = v ≡ verdict.Fault ordinal code

module _ (a : Answered) (v : Verdict) (says : SaysOf a v) where
  none-said : a ≡ answered.NoPlan → v ≡ verdict.Rejected 1
  none-said is = subst (λ (x : Answered). SaysOf x v) is says

  fault-of : (ordinal code : ℕ) → a ≡ answered.Fault ordinal code → v ≡ verdict.Fault ordinal code
  fault-of ordinal code is = subst (λ (x : Answered). SaysOf x v) is says

-- of what is to be planned
planned-said : (p : Problem) (duty : Duty) (c : Statement) (a : Answered) (v : Verdict) → SaysOf a v → Gives a p duty c → IsVerdictAt p duty c v
planned-said p duty c (answered.Read q table d) v says is =
    tested-by p duty table c v is.windows (subst (λ (x : Problem). IsTested x table c v) is.same (subst (λ (x : Statement). IsTested q table x v) is.certificate says))
planned-said p duty c answered.NoPlan v says is = absurd is
planned-said p duty c (answered.Fault ordinal code) v says is = absurd is

rejected-said : (p : Problem) (duty : Duty) (c : Statement) (v : Verdict) → (GoesOn p duty → ⊥) → v ≡ verdict.Rejected 1 → IsVerdictAt p duty c v
rejected-said p duty c v none is = subst (λ (x : Verdict). IsVerdictAt p duty c x) (sym is) (inl (refl, none))

wanted-said : (p : Problem) (duty : Duty) (c : Statement) (a : Answered) (v : Verdict) → SaysOf a v → IsWantedOf p duty c a → IsVerdictAt p duty c v
wanted-said p duty c a v says (inl none) = rejected-said p duty c v none.0 (none-said a v says none.1)
wanted-said p duty c a v says (inr some) = planned-said p duty c a v says some.1

-- at the scale that it names
scaled-said : (p : Problem) (duty : Duty) (c : Statement) (a : Answered) (v : Verdict) → SaysOf a v → IsScaledOf p duty (Some (scale_of c.scale)) c a → IsScaledVerdict p duty c v
scaled-said p duty c a v says is =
    elim (cases_Bool (nat_lt (weight_at (scale_of c.scale) p.arcs p.shipments) (2 ^ 127))) [
      | inl fit ↦ let own : IsWantedOf (scaled p c) duty c a = rw fit at is in rw fit (wanted-said (scaled p c) duty c a v says own)
      | inr large ↦ let own : a ≡ answered.Fault 0 12 = rw large at is in rw large (fault-of a v says 0 12 own)
    ]

read-said : (p : Problem) (duty : Duty) (read : Result Statement Fault) (a : Answered) (v : Verdict) → SaysOf a v → IsReadOf p duty scale.Named read a → IsReadVerdict p duty read v
read-said p duty (Ok c) a v says is = scaled-said p duty c a v says is
read-said p duty (Err f) a v says is = fault-of a v says f.ordinal f.code is

pub given-said : (p : Problem) (duty : Duty) (read : Result Statement Fault) (a : Answered) (v : Verdict) → SaysOf a v → IsGivenOf p duty scale.Named read a → IsCertificateSaid p duty read v
given-said p duty read a v says (inl none) = inl (none.0, none-said a v says none.1)
given-said p duty read a v says (inr some) = inr (some.0, read-said p duty read a v says some.1)
