use Rattle.fp_reader.proofs.Fits.{shipment-fits}
use Rattle.fp_reader.proofs.additions.add_shipment.Goals as goal

pub new-requires : goal.new-requires
new-requires c = rw c.field_at.ensures (shipment-fits c.args.draft c.args.line.now c.in_ok-consignment.ensures.0).name

pub with_shipment-requires-clause-shipment : goal.with_shipment-requires-clause-shipment
with_shipment-requires-clause-shipment c =
    rw (c.in_ok-new.ensures, c.field_at.ensures, c.in_ok-consignment.ensures.1)
    (shipment-fits c.args.draft c.args.line.now c.in_ok-consignment.ensures.0).shipment
