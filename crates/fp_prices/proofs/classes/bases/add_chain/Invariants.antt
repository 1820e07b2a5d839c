use Rattle.std.proofs.Common.{take}
use Rattle.fp_prices.proofs.ChainLoads.{AreAdded}
use Rattle.fp_prices.proofs.classes.bases.add_chain.Given as goal

-- the classes so far were added
abbrev pub invariant-loop-class : goal.invariant-loop-class
invariant-loop-class l = AreAdded l.size (take l.class-index l.classes) l.fn.forced.loads.items l.forced.loads.items l.fn.forced.row l.forced.row
