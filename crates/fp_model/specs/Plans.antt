-- Plans over a denominator, and what no plan undercuts.
-- The source of the problem: Boland, Hewitt, Marshall and Savelsbergh, "The Continuous-Time Service
-- Network Design Problem", Operations Research 65, 2017.
use Rattle.std.specs.Prelude.{ℕ, ◌≤◌, List}
use Rattle.std.specs.List.{AllZip}
use Rattle.fp_model.specs.declared.parts.Leg.{Leg}
use Rattle.fp_model.specs.Problem.{Problem}
use Rattle.fp_model.specs.Routes.{Carries}
use Rattle.fp_model.specs.Costs.{cost}

-- a plan over the denominator d: each shipment has legs that carry it within its times
abbrev pub IsPlan : Problem → ℕ → List (List Leg) → Type 0
IsPlan p d routes = AllZip (Carries p d) p.shipments routes

-- no plan over any denominator costs less than c
abbrev pub NoPlanCheaper : Problem → ℕ → Type 0
NoPlanCheaper p c = (d : ℕ) (routes : List (List Leg)) → 1 ≤ d → IsPlan p d routes → c ≤ cost p routes

-- there is a plan over some denominator
abbrev pub PlanExists : Problem → Type 0
PlanExists p = (d : ℕ) × (routes : List (List Leg)) × (1 ≤ d) × IsPlan p d routes
