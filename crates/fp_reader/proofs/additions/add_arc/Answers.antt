use Rattle.fp_reader.proofs.Fits.{arc-fits}
use Rattle.fp_reader.proofs.additions.add_arc.Goals as goal

pub with_arc-requires : goal.with_arc-requires
with_arc-requires c =
    let fit = arc-fits c.args.draft c.args.line.now c.in_ok-arc.ensures.0 in
    record {
      arc = rw c.in_ok-arc.ensures.1 fit.arc;
      fresh = rw c.in_ok-arc.ensures.1 fit.fresh;
      room = fit.room;
    }
