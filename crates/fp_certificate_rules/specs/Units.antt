-- Numbers that divide what each plan costs, and amounts rounded up by them.
use Rattle.std.specs.Prelude.{ℕ, ◌*◌, ◌%◌, ◌≡◌, ◌≤◌, ◌↔◌, All, Option, Some, None}
use Rattle.std.specs.Int.{div_ceil}
use Rattle.fp_model.specs.declared.parts.Arc.{Arc}
use Rattle.fp_model.specs.declared.parts.Shipment.{Shipment}
use Rattle.fp_model.specs.Problem.{Problem}

-- a unit divides what a truck of each arc costs, and what the freight of each shipment costs over each arc; so it divides what each
-- plan costs
pub record IsUnit (p : Problem) (unit : ℕ) : Type 0 where
  pub trucks : All (λ (a : Arc). a.truck % unit ≡ 0) p.arcs
  pub freights : All (λ (a : Arc). All (λ (s : Shipment). a.freight * s.size % unit ≡ 0) p.shipments) p.arcs

-- nothing costs anything: neither a truck of an arc nor the freight of a shipment over an arc
pub record CostsNothing (p : Problem) : Type 0 where
  pub trucks : All (λ (a : Arc). a.truck ≡ 0) p.arcs
  pub freights : All (λ (a : Arc). All (λ (s : Shipment). a.freight * s.size ≡ 0) p.shipments) p.arcs

-- the greatest unit of a problem: a unit that each unit divides; or 1 where nothing costs anything, so that each number is a unit
pub record IsGreatestUnit (p : Problem) (unit : ℕ) : Type 0 where
  pub is : IsUnit p unit
  pub greatest : ¬ CostsNothing p → (other : ℕ) → IsUnit p other → unit % other ≡ 0
  pub free : CostsNothing p → unit ≡ 1

-- an amount of money, rounded up to a multiple of the unit where there is one
abbrev pub rounded_up : Option ℕ → ℕ → ℕ
rounded_up None amount = amount
rounded_up (Some unit) amount = div_ceil amount unit * unit

-- the least amount of money that is worth a claim, where amounts are rounded up
abbrev pub IsLeastAmount : Option ℕ → (claim money : ℕ) → Type 0
IsLeastAmount unit claim money = (amount : ℕ) → (money ≤ amount) ↔ (claim ≤ rounded_up unit amount)
