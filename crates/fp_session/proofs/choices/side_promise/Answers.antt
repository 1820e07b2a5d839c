-- The windows are those of the instance.
use Rattle.fp_session.proofs.EarlierPrices.{fits-here}
use Rattle.fp_session.proofs.choices.side_promise.Goals as goal

pub of-requires : goal.of-requires
of-requires g c = fits-here c.args.leaf.now.setting c.round.result.now.problem c.windows.result.now c.round.ensures.problem c.windows.ensures.same c.windows.ensures.belongs
