-- The prices grow twice.
use Rattle.fp_session.proofs.Divisions.{HasKind-grown}
use Rattle.fp_session.proofs.SameHands.{IsSearch-grown}
use Rattle.fp_session.proofs.Trials.{kept-both}
use Rattle.fp_session.proofs.choices.both_sides.Goals as goal

pub trial_child-requires-2-clause-search : goal.trial_child-requires-2-clause-search
trial_child-requires-2-clause-search g c = IsSearch-grown c.args.search.now c.args.prices.now c.trial_child.new.prices c.trial_child.ensures.grown c.requires.going c.requires.search

pub trial_child-requires-2-clause-kind : goal.trial_child-requires-2-clause-kind
trial_child-requires-2-clause-kind g c = HasKind-grown c.args.search.now.instance c.args.search.now.windows c.args.prices.now c.trial_child.new.prices c.args.inherited.kind c.trial_child.ensures.grown c.requires.kind

pub returns-clause-kept : goal.returns-clause-kept
returns-clause-kept g c =
    kept-both c.args.search.now c.trial_child.new.prices c.trial_child-2.new.prices c.args.leaf.now.sides c.args.branching.split c.args.branching.tail c.first-one.result c.second-other.result c.in_ok-first.first c.in_ok-second.second
    c.first-one.ensures c.second-other.ensures c.trial_child.ensures.grown.prices c.trial_child-2.ensures.grown c.in_ok-first.ensures.kept c.in_ok-second.ensures.kept
