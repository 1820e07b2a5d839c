-- What one more shipment costs.
use Rattle.std.specs.Prelude.{ℕ, ◌+◌, ◌-◌, ◌≤◌, ◌≡◌, List, length, take}
use Rattle.fp_model.specs.declared.parts.Leg.{Leg}
use Rattle.fp_model.specs.Costs.{cost}
use Rattle.fp_model.specs.Plans.{IsPlan, NoPlanCheaper}
use Rattle.fp_model.specs.Problem.{Problem}
use Rattle.fp_replan.specs.declared.ranges.Bracket.{Bracket}

-- the same instance but for its last shipment
abbrev pub without_last : Problem → Problem
without_last p = record p { shipments = take (length p.shipments - 1) p.shipments }

-- some plan over some denominator costs c
abbrev pub IsCostOfPlan : Problem → ℕ → Type 0
IsCostOfPlan p c = (d : ℕ) × (routes : List (List Leg)) × (1 ≤ d) × IsPlan p d routes × (cost p routes ≡ c)

-- a plan over the denominator costs at most c
abbrev pub HasPlanAtMost : Problem → ℕ → ℕ → Type 0
HasPlanAtMost p d c = (routes : List (List Leg)) × IsPlan p d routes × (cost p routes ≤ c)

-- some plan costs c, and no plan over any denominator is cheaper
pub record IsLeastCost (p : Problem) (c : ℕ) : Type 0 where
  pub attained : IsCostOfPlan p c
  pub least : NoPlanCheaper p c

-- the extra cost of the last shipment: the least cost with it is so much above the least cost
-- without it
pub record IsExtraCost (p : Problem) (extra : ℕ) : Type 0 where
  pub before : ℕ
  pub after : ℕ
  pub without : IsLeastCost (without_last p) before
  pub with_it : IsLeastCost p after
  pub more : before + extra ≡ after

-- no plan costs less than the low figure, and some plan costs the other
pub record AreFigures (p : Problem) (low c : ℕ) : Type 0 where
  pub low_is : NoPlanCheaper p low
  pub cost_is : IsCostOfPlan p c

-- a number lies between the figures
abbrev pub IsBetween : Bracket → ℕ → Type 0
IsBetween b n = (b.low ≤ n) × (n ≤ b.high)
