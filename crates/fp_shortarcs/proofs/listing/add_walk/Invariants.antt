use Rattle.fp_longestarcs.specs.Networks.{points_in}
use Rattle.fp_shortarcs.specs.Listing.{AreTooShortBefore}
use Rattle.fp_shortarcs.proofs.listing.add_walk.Given as goal

-- the too short legs before this one
abbrev pub invariant-loop-leg : goal.invariant-loop-leg
invariant-loop-leg l = AreTooShortBefore l.instance (points_in l.network) l.relaxed (record { shipment = l.shipment; leg = l.leg }) l.found.items
