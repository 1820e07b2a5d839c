use Rattle.std.proofs.Common.{◌≡◌, ℕ, ◌%◌, ◌<◌, List, length, subst}
use Rattle.std.specs.Prelude.{◌↔◌, slice_index_or}
use Rattle.std.specs.Int.{IsGcd}
use Rattle.fp_model.specs.declared.parts.Arc.{Arc}
use Rattle.fp_model.specs.declared.parts.Shipment.{Shipment}
use Rattle.fp_model.specs.Problem.{Problem, no_arc}
use Rattle.fp_certificate_rules.proofs.GreatestUnits.{DividesFreight, HasUnits-next}
use Rattle.fp_certificate_rules.proofs.units.costs_divisor.Goals as goal

-- the divisors of one number are those of another that divide what the freight of each shipment costs over an arc
abbrev HasFreight : ℕ → ℕ → List Shipment → Arc → Type 0
HasFreight next middle shipments a = (unit : ℕ) → next % unit ≡ 0 ↔ (middle % unit ≡ 0) × DividesFreight unit shipments a

pub loop-arc-preserved : goal.loop-arc-preserved
loop-arc-preserved c =
    let p : Problem = c.args.instance.now in
    let i : ℕ = c.loop-arc.arc-index in
    let divisor : ℕ = c.loop-arc.divisor in
    let middle : ℕ = c.greatest_common_divisor-with_truck.result in
    let next : ℕ = c.freight_divisor-divisor.result in
    let same : c.arcs-arc-items.result.now ≡ p.arcs = c.arcs-arc-items.ensures.same in
    let there : i < length p.arcs = subst (λ (xs : List Arc). i < length xs) same c.loop-arc-test.true in
    let gcd : IsGcd divisor (slice_index_or p.arcs i no_arc).truck middle =
    subst (λ (xs : List Arc). IsGcd divisor (slice_index_or xs i no_arc).truck middle) same (subst (λ (n : ℕ). IsGcd divisor n middle) c.from.ensures c.greatest_common_divisor-with_truck.ensures) in
    let freight : HasFreight next middle p.shipments (slice_index_or p.arcs i no_arc) =
    subst (λ (xs : List Arc). HasFreight next middle p.shipments (slice_index_or xs i no_arc)) same
    (subst (λ (ss : List Shipment). HasFreight next middle ss (slice_index_or c.arcs-arc-items.result.now i no_arc)) c.shipments-shipments.ensures.same c.freight_divisor-divisor.ensures) in
    HasUnits-next p i divisor middle next there c.loop-arc.invariant gcd freight
