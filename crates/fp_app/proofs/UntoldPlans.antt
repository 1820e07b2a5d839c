-- The plan that a certificate tells; it isn't both read as one and rejected.
use Rattle.std.proofs.Common.{◌≡◌, ℕ, ◌≤◌, List, sym, subst, arith}
use Rattle.std.specs.Prelude.{Err, IfOk, Ok, OnOk, Result}
use Rattle.fp_model.specs.declared.parts.Leg.{Leg}
use Rattle.fp_model.specs.Plans.{IsPlan}
use Rattle.fp_model.specs.Problem.{Problem}
use Rattle.fp_flatnet.specs.Tables.{WindowTable, windows_in}
use Rattle.fp_flatnet.specs.Windows.{PlanLiesWithin}
use Rattle.fp_certificate_lines.specs.declared.certificates.Answer.{Answer}
use Rattle.fp_certificate_lines.specs.declared.certificates.Answer.TheVariants.{Infeasible}
use Rattle.fp_certificate_lines.specs.Statements.{Statement}
use Rattle.fp_certificate_rules.specs.Accepted.{Holds, Part}
use Rattle.fp_certificate_rules.specs.Plans.{HasTimetable, routes_of}
use Rattle.fp_checker.specs.Rejections.{IsFirstUnmet, IsPlanRejected, TellsPlan, part_number}
use Rattle.fp_app.specs.Plans.{IsToldPlan, ShowsUntold}
use Rattle.fp_app.specs.Wanted.{AreWindowsFor, Wanted}
use Rattle.fp_app.proofs.SearchClaims.{windows-one}

-- of a timetable the plan, its cost and its departures hold
timetable-holds : (p : Problem) (table : WindowTable) (c : Statement) (part : Part) → part_number part ≤ 3 → HasTimetable p (windows_in table) c → Holds p table c part
timetable-holds p table c Part.Plan low told = told.plan
timetable-holds p table c Part.Cost low told = told.cost
timetable-holds p table c Part.Trucks low told = told.trucks
timetable-holds p table c Part.Points low told = absurd (omega (arith, low))
timetable-holds p table c Part.Prices low told = absurd (omega (arith, low))
timetable-holds p table c Part.Tree low told = absurd (omega (arith, low))
timetable-holds p table c Part.Leaves low told = absurd (omega (arith, low))
timetable-holds p table c Part.Blocked low told = absurd (omega (arith, low))

unmet-untold : (p : Problem) (table : WindowTable) (c : Statement) (number : ℕ) → number ≤ 3 → IsFirstUnmet p table c number → HasTimetable p (windows_in table) c → ⊥
unmet-untold p table c number few first told =
    let low : part_number first.part ≤ 3 = subst (λ (n : ℕ). n ≤ 3) (sym first.numbered) few in
    first.fails (timetable-holds p table c first.part low told)

rejected-untold : (p : Problem) (table : WindowTable) (c : Statement) (a : Answer) (number : ℕ) → IsPlanRejected p table c a number → TellsPlan a → HasTimetable p (windows_in table) c → ⊥
rejected-untold p table c (Infeasible shipment time) number first tells told = tells
rejected-untold p table c _ number first tells told = unmet-untold p table c number first.0 first.1 told

-- what is shown where the plan was rejected under the windows of the wanted plans
pub IsPlanRejected-ShowsUntold : (p : Problem) (wanted : Wanted) (table : WindowTable) (c : Statement) (number : ℕ) → AreWindowsFor p wanted table → IsPlanRejected p table c c.answer number → ShowsUntold p wanted c number
IsPlanRejected-ShowsUntold p wanted table c number windows first = record {
  table = table;
  windows = windows;
  first = first;
  untold = λ told.
      let same : told.table ≡ table = windows-one p wanted told.table table told.windows windows in
      rejected-untold p table c c.answer number first told.answer (subst (λ (t : WindowTable). HasTimetable p (windows_in t) c) same told.timetable);
}

-- what is read under the windows of the wanted plans
module _ {E : Type 0} (p : Problem) (table : WindowTable) (c : Statement) (r : Result (List (List Leg)) E) (routes : IfOk r (λ plan. plan ≡ routes_of p c)) (holds : OnOk r (HasTimetable p (windows_in table) c)) where
  pub read-plan : IfOk r (IsPlan p 1)
  read-plan = plan-by r routes holds
    where
      plan-by : (r : Result (List (List Leg)) E) → IfOk r (λ plan. plan ≡ routes_of p c) → OnOk r (HasTimetable p (windows_in table) c) → IfOk r (IsPlan p 1)
      plan-by (Ok plan) is told = subst (IsPlan p 1) (sym is) told.plan.plan
      plan-by (Err e) is told = tt

  pub read-within : IfOk r (PlanLiesWithin (windows_in table) 1)
  read-within = within-by r routes holds
    where
      within-by : (r : Result (List (List Leg)) E) → IfOk r (λ plan. plan ≡ routes_of p c) → OnOk r (HasTimetable p (windows_in table) c) → IfOk r (PlanLiesWithin (windows_in table) 1)
      within-by (Ok plan) is told = subst (PlanLiesWithin (windows_in table) 1) (sym is) told.plan.within
      within-by (Err e) is told = tt

  pub read-told : (wanted : Wanted) → AreWindowsFor p wanted table → OnOk r (TellsPlan c.answer) → IfOk r (IsToldPlan p wanted c)
  read-told wanted windows tells = told-by r routes holds tells
    where
      told-by : (r : Result (List (List Leg)) E) → IfOk r (λ plan. plan ≡ routes_of p c) → OnOk r (HasTimetable p (windows_in table) c) → OnOk r (TellsPlan c.answer) → IfOk r (IsToldPlan p wanted c)
      told-by (Ok plan) is told answer = record { tells = record { table = table; windows = windows; answer = answer; timetable = told }; is = is }
      told-by (Err e) is told answer = tt
