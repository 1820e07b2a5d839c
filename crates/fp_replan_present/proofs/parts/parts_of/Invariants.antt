use Rattle.fp_replan_present.specs.Parts.{AreParts}
use Rattle.fp_replan_present.proofs.parts.parts_of.Given as goal

abbrev pub invariant-loop-number : goal.invariant-loop-number
invariant-loop-number l = AreParts l.instance l.present l.number l.parts
