-- What `improve` shows.
use Rattle.std.specs.Prelude.{ℕ, ◌≡◌, ◌≤◌, List}
use Rattle.fp_model.specs.declared.parts.Leg.{Leg}
use Rattle.fp_model.specs.Costs.{cost}
use Rattle.fp_model.specs.Problem.{Problem}
use Rattle.fp_certificate_lines.specs.declared.certificates.Answer.TheVariants as answer
use Rattle.fp_certificate_lines.specs.declared.certificates.Spent.{Spent}
use Rattle.fp_certificate_lines.specs.Statements.{Statement}
use Rattle.fp_certificate_rules.specs.Plans.{stated_cost}
use Rattle.fp_session_history.specs.Solutions.{Solution}
use Rattle.fp_app.specs.declared.shown.Shown.{Shown}
use Rattle.fp_app.specs.declared.shown.Shown.TheVariants as shown
use Rattle.fp_app.specs.Plans.{IsToldPlan, ShowsUntold}
use Rattle.fp_app.specs.Searches.{Allowance, IsBoundBelow, IsSearched}
use Rattle.fp_app.specs.Wanted.{NoneWantedCheaper, Wanted, from_plan}

-- a search of an instance among the wanted plans, which began with the plan that a certificate tells; it
-- costs no more than that plan
pub record IsImproved (p : Problem) (wanted : Wanted) (c : Statement) (allowed : Allowance) (s : Solution) : Type 0 where
  pub plan : List (List Leg)
  pub told : IsToldPlan p wanted c plan
  pub searched : IsSearched p (from_plan wanted plan) allowed s
  pub no_dearer : stated_cost s.certificate.answer ≤ cost p plan

-- what is shown of an instance and a certificate: what a search with the budget shows that begins with
-- the plan of the certificate, with the option of spans or without it, or why the certificate tells none
abbrev pub ShowsImprove : Allowance → Problem → Wanted → Statement → Shown → Type 0
ShowsImprove allowed p wanted c (shown.Planned instance solved) = (instance ≡ p) × IsImproved p wanted c allowed solved
ShowsImprove allowed p wanted c (shown.RejectedPart number) = ShowsUntold p wanted c number
ShowsImprove allowed p wanted c _ = ⊥

-- what is shown is what such a search shows
pub record IsImprovement (allowed : Allowance) (p : Problem) (wanted : Wanted) (c : Statement) (result : Shown) : Type 0 where
  pub solved : Solution
  pub shows : result ≡ shown.Planned p solved
  pub improved : IsImproved p wanted c allowed solved

-- it is optimal: no wanted plan is cheaper, over any denominator
pub record IsOptimalImprovement (allowed : Allowance) (p : Problem) (wanted : Wanted) (c : Statement) (result : Shown) : Type 0 where
  pub solution : IsImprovement allowed p wanted c result
  pub cost : ℕ
  pub answer : solution.solved.certificate.answer ≡ answer.Optimal cost
  pub plans : NoneWantedCheaper p (from_plan wanted solution.improved.plan) cost

-- it is unfinished: no wanted plan costs less than its bound, over any denominator, and it tells what was spent
pub record IsOpenImprovement (allowed : Allowance) (p : Problem) (wanted : Wanted) (c : Statement) (result : Shown) : Type 0 where
  pub solution : IsImprovement allowed p wanted c result
  pub cost : ℕ
  pub bound : ℕ
  pub spent : Spent
  pub answer : solution.solved.certificate.answer ≡ answer.Unfinished cost bound spent
  pub bounds : IsBoundBelow p (from_plan wanted solution.improved.plan) allowed cost bound spent
