use Rattle.std.proofs.Common.{take}
use Rattle.fp_fleet.specs.NeedTables.{IsNeedTable}
use Rattle.fp_fleet.proofs.needs.needs_of.Given as goal

-- the begins so far
abbrev pub invariant-loop-begin : goal.invariant-loop-begin
invariant-loop-begin l = IsNeedTable l.instance l.lines (take l.begin-index l.begins) l.table.items
