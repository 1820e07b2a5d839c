use Rattle.fp_certificate_rules.proofs.GreatestUnits.{HasUnits, with_first}
use Rattle.fp_certificate_rules.proofs.units.costs_divisor.Given as goal

-- the divisors are the units of the problem with the arcs alone that were passed
abbrev pub invariant-loop-arc : goal.invariant-loop-arc
invariant-loop-arc l = HasUnits (with_first l.arc-index l.instance) l.divisor
