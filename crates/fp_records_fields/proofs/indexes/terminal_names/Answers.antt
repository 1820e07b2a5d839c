use Rattle.fp_records_fields.proofs.DistinctParts.{fresh-name}
use Rattle.fp_records_fields.proofs.indexes.terminal_names.Goals as goal

pub add-requires : goal.add-requires
add-requires c =
    rw (c.loop-terminal.invariant, c.bytes.ensures.same, c.terminal-item.is)
    (fresh-name c.args.terminals.now c.loop-terminal.terminal-index c.terminal-item.result c.requires c.loop-terminal-test.true)
