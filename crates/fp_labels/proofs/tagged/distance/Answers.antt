use Rattle.fp_labels.proofs.SmallWalks.{label-small}
use Rattle.fp_labels.proofs.tagged.distance.Goals as goal

pub returns-clause-small : goal.returns-clause-small
returns-clause-small c most all =
    rw c.to.ensures.label
    (label-small c.args.graph.now c.args.costs.now c.args.start c.in_ok-labels.labels c.args.end most c.requires.ends c.requires.start c.requires.end c.in_ok-labels.ensures all)
