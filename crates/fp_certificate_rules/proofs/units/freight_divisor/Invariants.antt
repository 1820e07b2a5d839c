use Rattle.std.proofs.Common.{◌≡◌, ℕ, take}
use Rattle.std.specs.Prelude.{◌%◌, ◌↔◌}
use Rattle.fp_certificate_rules.proofs.GreatestUnits.{DividesFreight}
use Rattle.fp_certificate_rules.proofs.units.freight_divisor.Given as goal

-- the divisors are those of the number that divide what the freight of the shipments costs that were passed
abbrev pub invariant-loop-shipment : goal.invariant-loop-shipment
invariant-loop-shipment l = (unit : ℕ) → l.divisor % unit ≡ 0 ↔ (l.number % unit ≡ 0) × DividesFreight unit (take l.shipment-index l.shipments) l.arc
