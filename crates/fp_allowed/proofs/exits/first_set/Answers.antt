use Rattle.fp_allowed.proofs.FirstBits.{first_set_late, first_set_none, first_set_some}
use Rattle.fp_allowed.proofs.exits.first_set.Goals as goal

pub returns-then-first-to : goal.returns-then-first-to
returns-then-first-to c = first_set_some c.args.row.now c.args.from c.args.to c.in_ok-first.first c.in_ok-first.ensures c.if-first-to.true

pub returns-else-first-to : goal.returns-else-first-to
returns-else-first-to c = first_set_late c.args.row.now c.args.from c.args.to c.in_ok-first.first c.in_ok-first.ensures c.if-first-to.false

pub returns-in_err-first : goal.returns-in_err-first
returns-in_err-first c = rw c.from_residual.ensures (first_set_none c.args.row.now c.args.from c.args.to c.in_err-first.ensures)
