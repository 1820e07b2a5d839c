use Rattle.std.proofs.Common.{◌-◌, length}
use Rattle.fp_prices.proofs.FilledCosts.{AreFilled}
use Rattle.fp_prices.proofs.classes.class_prices.ClassPricing.fill_costs.Given as goal

-- the costs of the classes before the next place were put in
abbrev pub invariant-loop-class : goal.invariant-loop-class
invariant-loop-class l = AreFilled l.self l.shipment l.size l.row l.initial.costs l.costs l.next

abbrev pub decreases-loop-class : goal.decreases-loop-class
decreases-loop-class l = length l.row - l.next
