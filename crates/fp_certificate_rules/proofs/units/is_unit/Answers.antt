use Rattle.std.proofs.Common.{◌≡◌, ℕ, ◌*◌, ◌%◌, ◌<◌, ◌≤◌, List, length, refl, subst}
use Rattle.std.specs.Prelude.{All, slice_index_or}
use Rattle.std.proofs.lemmas.List.{take_all}
use Rattle.std.proofs.lemmas.List.Elements.{All-more}
use Rattle.fp_model.specs.declared.parts.Arc.{Arc}
use Rattle.fp_model.specs.declared.parts.Shipment.{Shipment}
use Rattle.fp_model.specs.Problem.{no_arc}
use Rattle.fp_certificate_rules.proofs.units.is_unit.Goals as goal

-- the unit divides what an arc's trucks cost
abbrev Trucks : ℕ → Arc → Type 0
Trucks unit a = a.truck % unit ≡ 0

-- and what the freight of each shipment costs over it
abbrev Freight : ℕ → List Shipment → Arc → Type 0
Freight unit shipments a = All (λ (s : Shipment). a.freight * s.size % unit ≡ 0) shipments

pub loop-arc-preserved : goal.loop-arc-preserved
loop-arc-preserved c =
    let arcs : List Arc = c.args.instance.now.arcs in
    let shipments : List Shipment = c.args.instance.now.shipments in
    let unit : ℕ = c.args.unit in
    let i : ℕ = c.loop-arc.arc-index in
    let same : c.arcs-arc-items.result.now ≡ arcs = c.arcs-arc-items.ensures.same in
    let there : i < length arcs = subst (λ (xs : List Arc). i < length xs) same c.loop-arc-test.true in
    let truck : Trucks unit (slice_index_or arcs i no_arc) =
    subst (λ (xs : List Arc). Trucks unit (slice_index_or xs i no_arc)) same (subst (λ (n : ℕ). n % unit ≡ 0) c.from.ensures c.if-from-unit-ne0.false) in
    let freight : Freight unit shipments (slice_index_or arcs i no_arc) =
    subst (λ (xs : List Arc). Freight unit shipments (slice_index_or xs i no_arc)) same
    (subst (λ (ss : List Shipment). Freight unit ss (slice_index_or c.arcs-arc-items.result.now i no_arc)) c.shipments-shipments.ensures.same (c.divides_freight.ensures.0 c.if-not-divides_freight.false)) in
    record {
      trucks = All-more (Trucks unit) arcs i no_arc there c.loop-arc.invariant.trucks truck;
      freights = All-more (Freight unit shipments) arcs i no_arc there c.loop-arc.invariant.freights freight;
    }

pub returns : goal.returns
returns c =
    let arcs : List Arc = c.args.instance.now.arcs in
    let i : ℕ = c.loop-arc.arc-index in
    let whole : length arcs ≤ i = subst (λ (xs : List Arc). length xs ≤ i) c.arcs-arc-items.ensures.same c.loop-arc-test.false in (
      λ _.
          record {
            trucks = subst (All (Trucks c.args.unit)) (take_all i arcs whole) c.loop-arc.invariant.trucks;
            freights = subst (All (Freight c.args.unit c.args.instance.now.shipments)) (take_all i arcs whole) c.loop-arc.invariant.freights;
          },
      λ _. refl,
    )
