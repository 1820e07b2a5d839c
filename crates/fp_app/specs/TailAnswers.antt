-- What `yard`, `fleet` and `improve` tell of an answer that follows kept legs or a day that is under way: of what is
-- to be planned, among the plans that keep the legs or go on with the day, as of an instance alone among all plans.
use Rattle.std.specs.Prelude.{ℕ, ◌≡◌, List}
use Rattle.fp_model.specs.Problem.{Problem}
use Rattle.fp_records.specs.Fields.{records_of}
use Rattle.fp_certificate_lines.specs.Statements.{Statement}
use Rattle.fp_app_tails.specs.declared.answers.Scale.{Scale}
use Rattle.fp_app_tails.specs.Ahead.{ahead_problem}
use Rattle.fp_app_tails.specs.Answers.{OfAnswer}
use Rattle.fp_app_tails.specs.Duties.{Duty}
use Rattle.fp_app.specs.declared.shown.Shown.{Shown}
use Rattle.fp_app.specs.declared.shown.Shown.TheVariants as shown
use Rattle.fp_app.specs.declared.shown.Status.{Status}
use Rattle.fp_app.specs.declared.shown.Status.TheVariants as status
use Rattle.fp_app.specs.Inputs.{leading_count}
use Rattle.fp_app.specs.Plans.{ShowsUntold}
use Rattle.fp_app.specs.Wanted.{Wanted, wanted_by}

-- something of what is to be planned, of the plans that are wanted, and of a certificate
abbrev pub OfAhead : (Problem → Wanted → Statement → Type 0) → Problem → Duty → Statement → Type 0
OfAhead P p duty c = P (ahead_problem p duty) (wanted_by p duty) c

-- something is shown of it; or the answer is rejected by part 1, since no plan goes on or since it says so; or the
-- first fault is shown
abbrev pub ShowsOfAnswer : Scale → (place : ℕ) → List (List (List ℕ)) → Shown → (Problem → Wanted → Statement → Type 0) → Type 0
ShowsOfAnswer n place records result P = OfAnswer (result ≡ shown.RejectedPart 1) (λ ordinal code. result ≡ shown.BadInput ordinal code) (OfAhead P) n place records

abbrev pub ShowsOfTail : Scale → List ℕ → Shown → (Problem → Wanted → Statement → Type 0) → Type 0
ShowsOfTail n input result P = ShowsOfAnswer n (leading_count input) (records_of input) result P

-- the status of each
abbrev pub EndsOfTail : Scale → List ℕ → Status → (Problem → Wanted → Statement → Type 0) → Type 0
EndsOfTail n input result P = OfAnswer (result ≡ status.Rejected) (λ ordinal code. result ≡ status.BadInput) (OfAhead P) n (leading_count input) (records_of input)

-- some plan goes on, and something holds of it and of the certificate
abbrev pub GivesOfAnswer : Scale → (place : ℕ) → List (List (List ℕ)) → (Problem → Wanted → Statement → Type 0) → Type 0
GivesOfAnswer n place records P = OfAnswer ⊥ (λ ordinal code. ⊥) (OfAhead P) n place records

abbrev pub GivesOfTail : Scale → List ℕ → (Problem → Wanted → Statement → Type 0) → Type 0
GivesOfTail n input P = GivesOfAnswer n (leading_count input) (records_of input) P

-- no plan goes on, the answer says so, or its certificate tells none; what is shown is the first part that fails
pub record IsUntold (p : Problem) (wanted : Wanted) (c : Statement) (result : Shown) : Type 0 where
  pub number : ℕ
  pub shows : result ≡ shown.RejectedPart number
  pub untold : ShowsUntold p wanted c number

abbrev pub RejectsTail : Scale → List ℕ → Shown → Type 0
RejectsTail n input result = OfAnswer (result ≡ shown.RejectedPart 1) (λ ordinal code. ⊥) (OfAhead (λ p wanted c. IsUntold p wanted c result)) n (leading_count input) (records_of input)
