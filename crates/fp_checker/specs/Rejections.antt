-- The parts of a certificate by number, and the first one that fails.
use Rattle.std.specs.Prelude.{ℕ, ◌<◌, ◌≤◌, ◌≡◌}
use Rattle.fp_model.specs.Problem.{Problem}
use Rattle.fp_flatnet.specs.Tables.{WindowTable}
use Rattle.fp_certificate_lines.specs.declared.certificates.Answer.{Answer}
use Rattle.fp_certificate_lines.specs.declared.certificates.Answer.TheVariants.{Infeasible}
use Rattle.fp_certificate_lines.specs.Statements.{Statement}
use Rattle.fp_certificate_rules.specs.Accepted.{Applies, Holds, Part}

-- the number of a part
abbrev pub part_number : Part → ℕ
part_number Part.Plan = 1
part_number Part.Cost = 2
part_number Part.Trucks = 3
part_number Part.Points = 4
part_number Part.Prices = 5
part_number Part.Tree = 6
part_number Part.Leaves = 7
part_number Part.Blocked = 8

-- a part with this number is the first that applies and fails
pub record IsFirstFailed (p : Problem) (table : WindowTable) (c : Statement) (number : ℕ) : Type 0 where
  pub part : Part
  pub numbered : part_number part ≡ number
  pub applies : Applies c.answer part
  pub fails : Holds p table c part → ⊥
  pub before : (other : Part) → part_number other < number → Applies c.answer other → Holds p table c other

-- all parts with lower numbers hold, whether they apply or not
abbrev pub HoldBelow : Problem → WindowTable → Statement → ℕ → Type 0
HoldBelow p table c number = (part : Part) → part_number part < number → Holds p table c part

-- a part with this number fails, and all parts with lower numbers hold
pub record IsFirstUnmet (p : Problem) (table : WindowTable) (c : Statement) (number : ℕ) : Type 0 where
  pub part : Part
  pub numbered : part_number part ≡ number
  pub fails : Holds p table c part → ⊥
  pub before : HoldBelow p table c number

-- an answer comes with a plan
abbrev pub TellsPlan : Answer → Type 0
TellsPlan (Infeasible shipment time) = ⊥
TellsPlan _ = Unit {0}

-- why no plan is read: the answer comes with none, which is number 1, or the plan, its cost or its
-- trucks fail, and this is the first
abbrev pub IsPlanRejected : Problem → WindowTable → Statement → Answer → ℕ → Type 0
IsPlanRejected p table c (Infeasible shipment time) number = number ≡ 1
IsPlanRejected p table c _ number = (number ≤ 3) × IsFirstUnmet p table c number
