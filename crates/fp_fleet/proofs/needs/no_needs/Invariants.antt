use Rattle.fp_fleet.specs.NeedTables.{AreNoNeeds}
use Rattle.fp_fleet.proofs.needs.no_needs.Given as goal

-- the terminals so far
abbrev pub invariant-loop-terminal : goal.invariant-loop-terminal
invariant-loop-terminal l = AreNoNeeds l.terminal l.table.items
