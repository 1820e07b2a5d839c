use Rattle.std.proofs.Common.{◌≡◌, ℕ, ◌*◌, ◌%◌, List, subst}
use Rattle.std.specs.Prelude.{◌↔◌}
use Rattle.std.specs.Int.{IsGcd}
use Rattle.std.proofs.lemmas.List.{take_all}
use Rattle.fp_model.specs.declared.parts.Shipment.{Shipment}
use Rattle.fp_certificate_rules.proofs.GreatestUnits.{DividesFreight, freight-next}
use Rattle.fp_certificate_rules.proofs.units.freight_divisor.Goals as goal

pub loop-shipment-preserved : goal.loop-shipment-preserved
loop-shipment-preserved c =
    let divisor : ℕ = c.loop-shipment.divisor in
    let next : ℕ = c.greatest_common_divisor-divisor.result in
    let s : Shipment = c.shipment-item.result in
    let gcd : IsGcd divisor (c.args.arc.now.freight * s.size) next =
    subst (λ (freight : ℕ). IsGcd divisor (freight * s.size) next) c.from.ensures
    (subst (λ (size : ℕ). IsGcd divisor (c.from.result * size) next) c.from-in-loop-shipment.ensures c.greatest_common_divisor-divisor.ensures) in
    freight-next c.args.number divisor next c.args.arc.now c.args.shipments.now c.loop-shipment.shipment-index s c.loop-shipment-test.true c.shipment-item.is c.loop-shipment.invariant gcd

pub returns : goal.returns
returns c = λ unit.
    subst (λ (ss : List Shipment). c.loop-shipment.divisor % unit ≡ 0 ↔ (c.args.number % unit ≡ 0) × DividesFreight unit ss c.args.arc.now)
    (take_all c.loop-shipment.shipment-index c.args.shipments.now c.loop-shipment-test.false) (c.loop-shipment.invariant unit)
