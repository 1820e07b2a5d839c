use Rattle.fp_session.specs.Dividing.{NoneSeveral}
use Rattle.fp_session.proofs.dividing.first_several.Given as goal

abbrev pub invariant-loop-shipment : goal.invariant-loop-shipment
invariant-loop-shipment l = NoneSeveral l.leaf l.shipment
