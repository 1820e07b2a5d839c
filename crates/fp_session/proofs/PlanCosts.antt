-- What a plan costs is in range.
use Rattle.std.proofs.Common.{ℕ, ◌≤◌, List, arith}
use Rattle.fp_model.specs.declared.parts.Leg.{Leg}
use Rattle.fp_model.specs.Costs.{cost}
use Rattle.fp_model.specs.Plans.{IsPlan}
use Rattle.fp_model.specs.Problem.{IsValid, Problem}
use Rattle.fp_model.proofs.Bounds.{cost-le-alone_total}

-- the cost of a plan of a valid instance is no larger than a field may be
pub cost-in_range : (p : Problem) (d : ℕ) (R : List (List Leg)) → IsValid p → IsPlan p d R → cost p R ≤ Rattle.fp_certificate_lines.specs.Ranges.largest_figure
cost-in_range p d R valid plan = omega (arith, cost-le-alone_total p d R plan, valid.weight)
