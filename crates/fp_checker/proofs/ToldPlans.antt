-- The plan that leg lines tell, and what of it the tests tell.
use Rattle.std.proofs.Common.{◌≡◌, ℕ, ◌+◌, List, subst, sym}
use Rattle.std.specs.Prelude.{All, AllPairs, Option}
use Rattle.std.proofs.lemmas.List.Elements.{recursion_from_All}
use Rattle.fp_model.specs.Plans.{IsPlan}
use Rattle.fp_model.specs.Problem.{Problem, arc_at}
use Rattle.fp_flatnet.specs.declared.window_tables.Window.{Window}
use Rattle.fp_timetable.specs.declared.lines.LegLine.{LegLine}
use Rattle.fp_timetable.specs.Lines.{routes_from}
use Rattle.fp_base_lists.specs.Order.{Precedes}
use Rattle.fp_certificate_lines.specs.Ranges.{IsLegInRange}
use Rattle.fp_certificate_lines.specs.Statements.{Statement}
use Rattle.fp_certificate_rules.specs.Plans.{HasPlan}
use Rattle.fp_checker.specs.Lines.{LeavesInside}
use Rattle.fp_checker.proofs.RoutesOfLines.{inside-routes, routes-inside}

-- what the tests tell of leg lines
pub record AreTold (p : Problem) (windows : ℕ → ℕ → Option Window) (legs : List LegLine) : Type 0 where
  pub ascending : AllPairs (λ (k l : LegLine). Precedes k.depart k.shipment l.depart l.shipment) legs
  pub arrivals : All (λ (l : LegLine). l.arrive ≡ l.depart + (arc_at p l.arc).time) legs
  pub inside : All (LeavesInside windows) legs
  pub plan : IsPlan p 1 (routes_from legs 0 p.shipments)

told-here : (p : Problem) (windows : ℕ → ℕ → Option Window) (c : Statement) → AreTold p windows c.legs → HasPlan p windows c
told-here p windows c told = record {
  ascending = told.ascending;
  arrivals = told.arrivals;
  plan = told.plan;
  within = inside-routes windows c.legs 0 p.shipments (recursion_from_All (LeavesInside windows) c.legs told.inside);
}

here-told : (p : Problem) (windows : ℕ → ℕ → Option Window) (c : Statement) → All (IsLegInRange p) c.legs → HasPlan p windows c → AreTold p windows c.legs
here-told p windows c range has = record {
  ascending = has.ascending;
  arrivals = has.arrivals;
  inside = routes-inside windows c.legs p.shipments (λ k d lt. (range k d lt).exists.0) has.within;
  plan = has.plan;
}

-- a certificate has a plan exactly where its legs pass the tests
pub HasPlan-told : (p : Problem) (windows : ℕ → ℕ → Option Window) (c : Statement) (legs : List LegLine) → legs ≡ c.legs → AreTold p windows legs → HasPlan p windows c
HasPlan-told p windows c legs same told = told-here p windows c (subst (AreTold p windows) same told)

pub told-HasPlan : (p : Problem) (windows : ℕ → ℕ → Option Window) (c : Statement) (legs : List LegLine) → legs ≡ c.legs → All (IsLegInRange p) c.legs → HasPlan p windows c → AreTold p windows legs
told-HasPlan p windows c legs same range has = subst (AreTold p windows) (sym same) (here-told p windows c range has)
