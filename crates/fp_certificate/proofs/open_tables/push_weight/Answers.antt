use Rattle.fp_certificate.specs.Tables.{and_weight, with_last}
use Rattle.fp_certificate.proofs.LastElements.{has-element, has-list, made-last}
use Rattle.fp_certificate.proofs.open_tables.push_weight.Goals as goal

pub push_to_table-requires : goal.push_to_table-requires
push_to_table-requires c = has-element c.args.tables.now c.index-tables-last.result c.requires

pub returns : goal.returns
returns c =
    let tables = c.args.tables.now in
    made-last c.push_to_table.result (with_last (and_weight c.args.weight)) tables c.index-tables-last.result c.push_to_table.new.table (has-list tables c.requires) c.push_to_table.ensures
