-- A search that begins with a plan in hand looks for the same plans.
use Rattle.std.proofs.Common.{◌≡◌, ◌≤◌, List, refl, subst}
use Rattle.fp_model.specs.declared.parts.Leg.{Leg}
use Rattle.fp_model.specs.Costs.{cost}
use Rattle.fp_model.specs.Problem.{Problem}
use Rattle.fp_flatnet.specs.Tables.{WindowTable}
use Rattle.fp_certificate_lines.specs.declared.certificates.Spent.{Spent}
use Rattle.fp_certificate_lines.specs.declared.certificates.Spent.TheVariants.{Branches, Rounds, Time}
use Rattle.fp_certificate_rules.specs.Plans.{stated_cost}
use Rattle.fp_session_history.specs.Solutions.{Solution}
use Rattle.fp_app.specs.Searches.{Allowance, IsEnough, IsSearched}
use Rattle.fp_app.specs.Wanted.{AreWindowsFor, IsFirstPlan, Wanted, every, every_from, from_plan, going_on, going_on_from, keeping, keeping_from}

-- within the same windows
pub windows-from : (p : Problem) (wanted : Wanted) (plan : List (List Leg)) (table : WindowTable) → AreWindowsFor p wanted table → AreWindowsFor p (from_plan wanted plan) table
windows-from p every plan table windows = windows
windows-from p (every_from other) plan table windows = windows
windows-from p (keeping kept) plan table windows = windows
windows-from p (keeping_from kept other) plan table windows = windows
windows-from q (going_on p day) plan table windows = windows
windows-from q (going_on_from p day other) plan table windows = windows

-- its first plan is that one
pub first-from : (p : Problem) (wanted : Wanted) (plan : List (List Leg)) → IsFirstPlan p (from_plan wanted plan) plan
first-from p every plan = refl
first-from p (every_from other) plan = refl
first-from p (keeping kept) plan = refl
first-from p (keeping_from kept other) plan = refl
first-from q (going_on p day) plan = refl
first-from q (going_on_from p day other) plan = refl

first-is : (p : Problem) (wanted : Wanted) (plan first : List (List Leg)) → IsFirstPlan p (from_plan wanted plan) first → first ≡ plan
first-is p every plan first is = is
first-is p (every_from other) plan first is = is
first-is p (keeping kept) plan first is = is
first-is p (keeping_from kept other) plan first is = is
first-is q (going_on p day) plan first is = is
first-is q (going_on_from p day other) plan first is = is

-- so what it shows costs no more
pub no-dearer : (p : Problem) (wanted : Wanted) (plan : List (List Leg)) (allowed : Allowance) (s : Solution) → IsSearched p (from_plan wanted plan) allowed s → stated_cost s.certificate.answer ≤ cost p plan
no-dearer p wanted plan allowed s told = subst (λ (x : List (List Leg)). stated_cost s.certificate.answer ≤ cost p x) (first-is p wanted plan told.first told.begins) told.earned.cheaper

-- and what is enough for it is so whatever it begins with
pub enough-from : (p : Problem) (wanted : Wanted) (plan : List (List Leg)) (allowed : Allowance) (spent : Spent) → IsEnough p wanted allowed spent → IsEnough p (from_plan wanted plan) allowed spent
enough-from p wanted plan allowed Rounds is = is
enough-from p wanted plan allowed Branches is = (is.0, windows-from p wanted plan is.0 is.1, is.2)
enough-from p wanted plan allowed Time is = is
