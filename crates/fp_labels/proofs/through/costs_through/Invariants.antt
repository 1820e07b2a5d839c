use Rattle.fp_labels.specs.ThroughWalks.{AreCostsThrough}
use Rattle.fp_labels.proofs.through.costs_through.Given as goal

abbrev pub invariant-loop-number : goal.invariant-loop-number
invariant-loop-number l = AreCostsThrough l.edges l.costs l.before l.after l.number l.through.items
