-- A leaf below is in the setting of the search.
use Rattle.fp_session.proofs.EarlierPrices.{fits-here, leaf-setting_of}
use Rattle.fp_session.proofs.children.better_child.Goals as goal

pub of-requires : goal.of-requires
of-requires g c = fits-here c.args.leaf.now.setting c.round.result.now.problem c.windows.result.now c.round.ensures.problem c.windows.ensures.same c.windows.ensures.belongs

pub improved-requires-clause-setting : goal.improved-requires-clause-setting
improved-requires-clause-setting g c = leaf-setting_of c.args.search.now c.args.leaf.now.setting c.in_ok-below.below.setting c.round.result.now.problem c.windows.result.now c.round.result.now.network c.requires.setting c.round.ensures.problem c.windows.ensures.same c.round.ensures.network c.in_ok-below.ensures.setting
