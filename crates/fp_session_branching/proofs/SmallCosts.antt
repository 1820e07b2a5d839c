-- Costs that are at most the greatest one leave room for a walk over all points.
use Rattle.std.proofs.Common.{ℕ, ◌*◌, ◌≤◌, List, arith}
use Rattle.std.specs.Prelude.{All, IfSome, Option}
use Rattle.std.proofs.Math.Nat.{mul-le-mul_right}
use Rattle.fp_labels.specs.Labels.{IsSmallFor, greatest_cost}
use Rattle.fp_timenodes.specs.declared.places.TheConstants.{MOST_POINTS}
use Rattle.fp_prices.proofs.CostBounds.{all-small}
use Rattle.fp_session_branching.specs.declared.rises.TheConstants.{GREATEST}

greatest-fits : MOST_POINTS * GREATEST ≤ greatest_cost
greatest-fits = omega arith

pub small-for : (nodes : ℕ) (costs : List (Option ℕ)) → nodes ≤ MOST_POINTS → All (λ o. IfSome o (λ (cost : ℕ). cost ≤ GREATEST)) costs → All (IsSmallFor nodes) costs
small-for nodes costs few all =
    let scaled : nodes * GREATEST ≤ MOST_POINTS * GREATEST = mul-le-mul_right GREATEST few in
    all-small costs nodes GREATEST all (omega (arith, scaled, greatest-fits))
