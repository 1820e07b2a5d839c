use Rattle.fp_reader.proofs.Fits.{terminal-fits}
use Rattle.fp_reader.proofs.additions.add_terminal.Goals as goal

pub with_terminal-requires : goal.with_terminal-requires
with_terminal-requires c =
    let fit = terminal-fits c.args.draft c.args.line.now c.in_ok-hold.ensures.0 in
    record {
      name = rw c.field_at.ensures fit.name;
      fresh = rw c.field_at.ensures fit.fresh;
      room = fit.room;
      hold = rw c.in_ok-hold.ensures.1 fit.hold;
    }
