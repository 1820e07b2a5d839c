-- When a certificate is accepted for an instance and its windows, part by part.
use Rattle.std.specs.Prelude.{ℕ, ◌+◌, ◌<◌, Option, IfSome}
use Rattle.fp_model.specs.declared.parts.Shipment.{Shipment}
use Rattle.fp_model.specs.Numbered.{shipment_at}
use Rattle.fp_model.specs.Problem.{Problem}
use Rattle.fp_model.specs.Times.{IsFastest}
use Rattle.fp_flatnet.specs.Tables.{WindowTable, windows_in}
use Rattle.fp_certificate_lines.specs.declared.certificates.Answer.{Answer}
use Rattle.fp_certificate_lines.specs.declared.certificates.Answer.TheVariants.{Direct, Optimal, Unfinished, Infeasible}
use Rattle.fp_certificate_lines.specs.Statements.{Statement}
use Rattle.fp_certificate_rules.specs.Leaves.{AreLeavesWorth, HasTree}
use Rattle.fp_certificate_rules.specs.Plans.{HasCost, HasPlan, HasTrucks}
use Rattle.fp_certificate_rules.specs.Points.{HasPoints}
use Rattle.fp_certificate_rules.specs.Prices.{HasPrices}

-- what a certificate is tested for, in this order
pub data Part : Type 0 where
  Plan : Part
  Cost : Part
  Trucks : Part
  Points : Part
  Prices : Part
  Tree : Part
  Leaves : Part
  Blocked : Part

-- what an answer claims that no plan costs less than, and 0 where it claims nothing of the kind
abbrev pub claim_of : Answer → ℕ
claim_of (Direct cost) = 0
claim_of (Optimal cost) = cost
claim_of (Unfinished cost bound spent) = bound
claim_of (Infeasible shipment time) = 0

-- the fastest time of a shipment is as told, and it is missing or too long
pub record IsTooLate (p : Problem) (s : Shipment) (time : Option ℕ) : Type 0 where
  pub fastest : IsFastest p s time
  pub late : IfSome time (λ t. s.due < s.release + t)

-- an infeasible answer names a shipment that can't be carried in time, with its fastest time
abbrev pub IsBlockedAs : Problem → Answer → Type 0
IsBlockedAs p (Infeasible shipment time) = IsTooLate p (shipment_at p shipment) time
IsBlockedAs p _ = ⊥

-- which parts apply to an answer
abbrev pub Applies : Answer → Part → Type 0
Applies (Direct cost) Part.Plan = Unit {0}
Applies (Direct cost) Part.Cost = Unit {0}
Applies (Direct cost) Part.Trucks = Unit {0}
Applies (Direct cost) _ = ⊥
Applies (Infeasible shipment time) Part.Blocked = Unit {0}
Applies (Infeasible shipment time) _ = ⊥
Applies _ Part.Blocked = ⊥
Applies _ _ = Unit {0}

-- a part of a certificate holds
abbrev pub Holds : Problem → WindowTable → Statement → Part → Type 0
Holds p table c Part.Plan = HasPlan p (windows_in table) c
Holds p table c Part.Cost = HasCost p c
Holds p table c Part.Trucks = HasTrucks p c
Holds p table c Part.Points = HasPoints p table.anchors c
Holds p table c Part.Prices = HasPrices p table c
Holds p table c Part.Tree = HasTree p c
Holds p table c Part.Leaves = AreLeavesWorth p table c (claim_of c.answer)
Holds p table c Part.Blocked = IsBlockedAs p c.answer

-- a certificate is accepted where each part that applies to its answer holds
abbrev pub IsAccepted : Problem → WindowTable → Statement → Type 0
IsAccepted p table c = (part : Part) → Applies c.answer part → Holds p table c part
