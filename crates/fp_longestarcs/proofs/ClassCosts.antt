-- The classes of a plan's legs cost no more than the plan.
use Rattle.std.proofs.Common.{ℕ, ◌≤◌, List, map, refl}
use Rattle.fp_model.specs.declared.parts.Leg.{Leg}
use Rattle.fp_model.specs.Costs.{cost}
use Rattle.fp_model.specs.Problem.{Problem}
use Rattle.fp_model.proofs.Joins.{cost_joins}
use Rattle.fp_longestarcs.specs.Classes.{class_of}

-- a plan over any denominator costs at least what its classes cost
pub cost-classes : (p : Problem) (points : ℕ → List ℕ) (d : ℕ) (routes : List (List Leg)) → cost p (map (map (class_of p points d)) routes) ≤ cost p routes
cost-classes p points d routes = cost_joins p (class_of p points d) (λ k. refl) routes
