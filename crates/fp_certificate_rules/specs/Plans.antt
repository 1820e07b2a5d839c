-- The plan that the leg lines of a certificate tell, with its cost and its trucks.
use Rattle.std.specs.Prelude.{ℕ, ◌+◌, ◌≡◌, List, All, AllPairs, Option}
use Rattle.fp_model.specs.declared.parts.Leg.{Leg}
use Rattle.fp_model.specs.Costs.{cost}
use Rattle.fp_model.specs.Plans.{IsPlan}
use Rattle.fp_model.specs.Problem.{Problem, arc_at}
use Rattle.fp_flatnet.specs.declared.window_tables.Window.{Window}
use Rattle.fp_flatnet.specs.Windows.{PlanLiesWithin}
use Rattle.fp_timetable.specs.declared.lines.LegLine.{LegLine}
use Rattle.fp_timetable.specs.Lines.{AreTruckLines, routes_from}
use Rattle.fp_base_lists.specs.Order.{Precedes}
use Rattle.fp_certificate_lines.specs.declared.certificates.Answer.{Answer}
use Rattle.fp_certificate_lines.specs.declared.certificates.Answer.TheVariants.{Direct, Optimal, Unfinished, Infeasible}
use Rattle.fp_certificate_lines.specs.Statements.{Statement}

-- for each shipment its legs, in the order of their lines
abbrev pub routes_of : Problem → Statement → List (List Leg)
routes_of p c = routes_from c.legs 0 p.shipments

-- the leg lines are in order, each arrives a travel time after it left, and they are a plan in
-- whole units within the windows
pub record HasPlan (p : Problem) (windows : ℕ → ℕ → Option Window) (c : Statement) : Type 0 where
  pub ascending : AllPairs (λ (k l : LegLine). Precedes k.depart k.shipment l.depart l.shipment) c.legs
  pub arrivals : All (λ (l : LegLine). l.arrive ≡ l.depart + (arc_at p l.arc).time) c.legs
  pub plan : IsPlan p 1 (routes_of p c)
  pub within : PlanLiesWithin windows 1 (routes_of p c)

-- the cost that an answer states of its plan, and 0 where it has none
abbrev pub stated_cost : Answer → ℕ
stated_cost (Direct cost) = cost
stated_cost (Optimal cost) = cost
stated_cost (Unfinished cost bound spent) = cost
stated_cost (Infeasible shipment time) = 0

-- the stated cost is the plan's
abbrev pub HasCost : Problem → Statement → Type 0
HasCost p c = stated_cost c.answer ≡ cost p (routes_of p c)

-- the truck lines are the plan's distinct departures in order, each with its trucks and its load
abbrev pub HasTrucks : Problem → Statement → Type 0
HasTrucks p c = AreTruckLines p (routes_of p c) c.trucks

-- the plan is told by the leg lines, its cost by the answer, and its departures by the truck lines
pub record HasTimetable (p : Problem) (windows : ℕ → ℕ → Option Window) (c : Statement) : Type 0 where
  pub plan : HasPlan p windows c
  pub cost : HasCost p c
  pub trucks : HasTrucks p c
