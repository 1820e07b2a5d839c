use Rattle.std.proofs.Common.{◌≡◌, take}
use Rattle.std.specs.Prelude.{◌*◌, ◌%◌, All}
use Rattle.fp_model.specs.declared.parts.Arc.{Arc}
use Rattle.fp_model.specs.declared.parts.Shipment.{Shipment}
use Rattle.fp_certificate_rules.proofs.units.is_unit.Given as goal

-- the unit divides what the trucks and the freight of the arcs cost that were passed
abbrev pub invariant-loop-arc : goal.invariant-loop-arc
invariant-loop-arc l = record {
  trucks : All (λ (a : Arc). a.truck % l.unit ≡ 0) (take l.arc-index l.instance.arcs);
  freights : All (λ (a : Arc). All (λ (s : Shipment). a.freight * s.size % l.unit ≡ 0) l.instance.shipments) (take l.arc-index l.instance.arcs);
}
