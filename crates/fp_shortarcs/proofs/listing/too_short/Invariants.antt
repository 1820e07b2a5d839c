use Rattle.fp_longestarcs.specs.Networks.{points_in}
use Rattle.fp_shortarcs.specs.Listing.{AreTooShortBefore}
use Rattle.fp_shortarcs.proofs.listing.too_short.Given as goal

-- the too short legs of the shipments before this one
abbrev pub invariant-loop-shipment : goal.invariant-loop-shipment
invariant-loop-shipment l = AreTooShortBefore l.instance (points_in l.network) l.relaxed (record { shipment = l.shipment; leg = 0 }) l.found.items
