use Rattle.std.proofs.Common.{◌<◌, ℕ, get_or}
use Rattle.fp_model.specs.declared.parts.Shipment.{Shipment}
use Rattle.fp_model.specs.Names.{IsName}
use Rattle.fp_certificate_lines.proofs.laws.read_names.Given as goal

-- the shipments so far have names
abbrev pub invariant-loop-shipment : goal.invariant-loop-shipment
invariant-loop-shipment l = (k : ℕ) (d : Shipment) → k < l.shipment-index → IsName (get_or l.shipments k d).name
