-- A leaf has no more sides than the tree has splits.
use Rattle.std.proofs.Common.{arith}
use Rattle.fp_tree.specs.declared.layout.TheConstants.{MOST_SPLITS}
use Rattle.fp_session.proofs.DeepLeaves.{near-at}
use Rattle.fp_session.proofs.leaves.sides_at.Goals as goal

pub returns-clause-deep : goal.returns-clause-deep
returns-clause-deep c = near-at c.args.search.now.tree MOST_SPLITS c.args.number (omega (arith, c.splits-splits.ensures.count, c.splits-splits.ensures.few)) c.leaf_sides.result c.leaf_sides.ensures
