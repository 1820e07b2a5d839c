-- When each status comes of a `replan` of a day that is under way.
use Rattle.std.specs.Prelude.{◌≡◌, ◌+◌, ℕ, List, Ok}
use Rattle.fp_model.specs.Problem.{Problem}
use Rattle.fp_certificate_lines.specs.declared.certificates.Answer.TheVariants as answer
use Rattle.fp_certificate_lines.specs.declared.certificates.Spent.{Spent}
use Rattle.fp_session_history.specs.Solutions.{Solution}
use Rattle.fp_replan_present.specs.declared.rests.Rest.{Rest}
use Rattle.fp_replan_present.specs.Days.{Day}
use Rattle.fp_replan_present.specs.Plans.{IsStuckUnderway, NoneUnderwayCheaper, UnderwayExists, sunk_cost}
use Rattle.fp_replan_present.specs.Rests.{IsOpen, IsRest}
use Rattle.fp_app_tails.specs.Tails.{day_in}
use Rattle.fp_app.specs.declared.shown.Shown.{Shown}
use Rattle.fp_app.specs.declared.shown.Shown.TheVariants as shown
use Rattle.fp_app.specs.Searches.{Allowance, IsBoundBelow, IsSearched}
use Rattle.fp_app.specs.Wanted.{going_on}

-- The input gives an instance and a day that is under way, with which some plan goes on, and what is shown
-- is what is left of it, and what such a search shows of that. With the settled legs its plan is one under
-- way, which costs as much more as these do (`is_wanted` of the search).
pub record ShowsUnderway (allowed : Allowance) (input : List ℕ) (result : Shown) : Type 0 where
  pub instance : Problem
  pub day : Day
  pub rest : Rest
  pub solved : Solution
  pub read : day_in input ≡ Ok (record { instance = instance; day = day })
  pub shows : result ≡ shown.Underway instance day rest solved
  pub goes_on : IsOpen instance day
  pub left : IsRest instance day rest
  pub searched : IsSearched rest.instance (going_on instance day) allowed solved

-- What is shown is optimal: no plan under way is cheaper than it and the settled legs, over any denominator.
pub record ShowsDayOptimal (allowed : Allowance) (input : List ℕ) (result : Shown) : Type 0 where
  pub solution : ShowsUnderway allowed input result
  pub cost : ℕ
  pub answer : solution.solved.certificate.answer ≡ answer.Optimal cost
  pub plans : NoneUnderwayCheaper solution.instance solution.day (sunk_cost solution.instance solution.day + cost)

-- What is shown is unfinished: no plan under way costs less than its bound and the settled legs, over any
-- denominator, and it tells what was spent.
pub record ShowsDayUnfinished (allowed : Allowance) (input : List ℕ) (result : Shown) : Type 0 where
  pub solution : ShowsUnderway allowed input result
  pub cost : ℕ
  pub bound : ℕ
  pub spent : Spent
  pub answer : solution.solved.certificate.answer ≡ answer.Unfinished cost bound spent
  pub bounds : IsBoundBelow solution.rest.instance (going_on solution.instance solution.day) allowed cost bound spent

-- The input gives an instance and a day with which no plan goes on, over any denominator, and what is shown
-- is the first shipment that no legs under way carry.
pub record ShowsDayStuck (input : List ℕ) (result : Shown) : Type 0 where
  pub instance : Problem
  pub day : Day
  pub shipment : ℕ
  pub read : day_in input ≡ Ok (record { instance = instance; day = day })
  pub shows : result ≡ shown.Stuck instance shipment
  pub stuck : IsStuckUnderway instance day shipment
  pub none : UnderwayExists instance day → ⊥
