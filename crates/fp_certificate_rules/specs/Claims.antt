-- What an accepted certificate claims.
-- The problem: Boland, Hewitt, Marshall and Savelsbergh, "The Continuous-Time Service Network
-- Design Problem", Operations Research 65, 2017.
use Rattle.std.specs.Prelude.{ℕ, ◌≤◌, List, Option}
use Rattle.fp_model.specs.declared.parts.Leg.{Leg}
use Rattle.fp_model.specs.Costs.{cost}
use Rattle.fp_model.specs.Plans.{IsPlan, NoPlanCheaper, PlanExists}
use Rattle.fp_model.specs.Problem.{Problem, IsValid}
use Rattle.fp_flatnet.specs.declared.window_tables.Window.{Window}
use Rattle.fp_flatnet.specs.Tables.{WindowTable, windows_in}
use Rattle.fp_flatnet.specs.Windows.{AreWindows, PlanLiesWithin}
use Rattle.fp_certificate_lines.specs.declared.certificates.Answer.{Answer}
use Rattle.fp_certificate_lines.specs.declared.certificates.Answer.TheVariants.{Direct, Optimal, Unfinished, Infeasible}
use Rattle.fp_certificate_lines.specs.Ranges.{IsInRange}
use Rattle.fp_certificate_lines.specs.Statements.{Statement}
use Rattle.fp_certificate_rules.specs.Accepted.{IsAccepted}

-- over every denominator, no plan that lies within the windows costs less than c
abbrev pub NoPlanWithinCheaper : Problem → (ℕ → ℕ → Option Window) → ℕ → Type 0
NoPlanWithinCheaper p windows c = (d : ℕ) (routes : List (List Leg)) → 1 ≤ d → IsPlan p d routes → PlanLiesWithin windows d routes → c ≤ cost p routes

-- what an answer claims of the plans within the windows
abbrev pub ClaimsWithin : Problem → (ℕ → ℕ → Option Window) → Answer → Type 0
ClaimsWithin p windows (Direct cost) = Unit {0}
ClaimsWithin p windows (Optimal cost) = NoPlanWithinCheaper p windows cost
ClaimsWithin p windows (Unfinished cost bound spent) = NoPlanWithinCheaper p windows bound
ClaimsWithin p windows (Infeasible shipment time) = PlanExists p → ⊥

-- what an answer claims of all plans, over every denominator
abbrev pub Claims : Problem → Answer → Type 0
Claims p (Direct cost) = Unit {0}
Claims p (Optimal cost) = NoPlanCheaper p cost
Claims p (Unfinished cost bound spent) = NoPlanCheaper p bound
Claims p (Infeasible shipment time) = PlanExists p → ⊥

-- what an accepted certificate claims is true, of the plans within the windows, and of all plans
-- where these are the instance's own
pub record AcceptedClaims : Type 0 where
  pub within : (p : Problem) (table : WindowTable) (c : Statement) → IsValid p → IsInRange p c → IsAccepted p table c → ClaimsWithin p (windows_in table) c.answer
  pub whole : (p : Problem) (table : WindowTable) (c : Statement) → IsValid p → IsInRange p c → IsAccepted p table c → AreWindows p (windows_in table) → Claims p c.answer
