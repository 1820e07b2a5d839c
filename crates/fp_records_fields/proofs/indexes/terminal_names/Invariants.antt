use Rattle.std.proofs.Common.{◌≡◌, take}
use Rattle.fp_records_fields.proofs.indexes.terminal_names.Given as goal

abbrev pub invariant-loop-terminal : goal.invariant-loop-terminal
invariant-loop-terminal l = l.names ≡ take l.terminal-index l.terminals
