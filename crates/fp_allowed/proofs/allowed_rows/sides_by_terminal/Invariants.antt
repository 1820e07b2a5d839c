use Rattle.std.proofs.Common.{take}
use Rattle.fp_allowed.specs.Moments.{AreByTerminal}
use Rattle.fp_allowed.proofs.allowed_rows.sides_by_terminal.Given as goal

abbrev pub invariant-loop-side : goal.invariant-loop-side
invariant-loop-side l = AreByTerminal l.instance l.shipment (take l.side-index l.sides) l.lists.items
