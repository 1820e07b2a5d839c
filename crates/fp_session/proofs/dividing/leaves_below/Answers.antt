-- What is kept of the leaves below, one after the other, after a trial or without one.
use Rattle.fp_session.specs.Choices.{fork_by}
use Rattle.fp_session.specs.Searches.{history}
use Rattle.fp_session.proofs.Improvements.{IsKept-grown}
use Rattle.fp_session.proofs.SameHands.{IsSearch-grown}
use Rattle.fp_session.proofs.Trials.{kept-both, told-first, told-second}
use Rattle.std.proofs.Common.{ℕ, [], ◌∷◌, ◌++◌, ap, subst}
use Rattle.std.specs.Prelude.{Option}
use Rattle.fp_duals_leaves.specs.Prices.{PriceLists}
use Rattle.fp_session.specs.Nodes.{IsRaisedTo}
use Rattle.fp_session.proofs.dividing.leaves_below.Goals as goal

pub raised-requires-clause-kept : goal.raised-requires-clause-kept
raised-requires-clause-kept g c =
    told-first (history c.args.search.now c.args.prices.now) c.args.leaf.now.sides (fork_by c.args.chosen.branching) c.args.chosen.below c.in-Some.tried c.first-one.result c.in-Some.is c.first-one.ensures c.requires.chosen.below

pub raised-requires-in-Some-clause-search : goal.raised-requires-in-Some-clause-search
raised-requires-in-Some-clause-search g c = IsSearch-grown c.args.search.now c.args.prices.now c.raised.new.prices c.raised.ensures.grown c.requires.going c.requires.search

pub raised-requires-in-Some-clause-kept : goal.raised-requires-in-Some-clause-kept
raised-requires-in-Some-clause-kept g c =
    IsKept-grown c.args.search.now c.args.prices.now c.raised.new.prices (c.args.leaf.now.sides ++ (c.second-other.result ∷ [])) c.in-Some.tried.second c.requires.search.prices c.raised.ensures.grown
    (told-second (history c.args.search.now c.args.prices.now) c.args.leaf.now.sides (fork_by c.args.chosen.branching) c.args.chosen.below c.in-Some.tried c.second-other.result c.in-Some.is c.second-other.ensures c.requires.chosen.below)

pub child-requires-in-None-clause-search : goal.child-requires-in-None-clause-search
child-requires-in-None-clause-search g c = IsSearch-grown c.args.search.now c.args.prices.now c.child.new.prices c.child.ensures.grown c.requires.going c.requires.search

pub returns-in_ok-second-in-Some-clause-kept : goal.returns-in_ok-second-in-Some-clause-kept
returns-in_ok-second-in-Some-clause-kept g c =
    kept-both c.args.search.now c.raised.new.prices c.raised-in-Some.new.prices c.args.leaf.now.sides c.args.chosen.branching.split c.args.chosen.branching.tail c.first-one.result c.second-other.result c.in_ok-first-in-Some.first c.in_ok-second-in-Some.second
    c.first-one.ensures c.second-other.ensures c.raised.ensures.grown.prices c.raised-in-Some.ensures.grown c.in_ok-first-in-Some.ensures.kept c.in_ok-second-in-Some.ensures.kept

pub returns-in_ok-second-in-None-clause-kept : goal.returns-in_ok-second-in-None-clause-kept
returns-in_ok-second-in-None-clause-kept g c =
    kept-both c.args.search.now c.child.new.prices c.child-in-None.new.prices c.args.leaf.now.sides c.args.chosen.branching.split c.args.chosen.branching.tail c.first-one.result c.second-other.result c.in_ok-first-in-None.first c.in_ok-second-in-None.second
    c.first-one.ensures c.second-other.ensures c.child.ensures.grown.prices c.child-in-None.ensures.grown c.in_ok-first-in-None.ensures.kept c.in_ok-second-in-None.ensures.kept

pub raised-requires-in-Some-clause-above : goal.raised-requires-in-Some-clause-above
raised-requires-in-Some-clause-above g c =
    IsKept-grown c.args.search.now c.args.prices.now c.raised.new.prices c.args.leaf.now.sides c.args.above c.requires.search.prices c.raised.ensures.grown c.requires.above

pub child-requires-in-None-clause-above : goal.child-requires-in-None-clause-above
child-requires-in-None-clause-above g c =
    IsKept-grown c.args.search.now c.args.prices.now c.child.new.prices c.args.leaf.now.sides c.args.above c.requires.search.prices c.child.ensures.grown c.requires.above

pub returns-in_ok-second-in-Some-clause-no_less : goal.returns-in_ok-second-in-Some-clause-no_less
returns-in_ok-second-in-Some-clause-no_less g c = (
  c.in_ok-first-in-Some.ensures.no_less,
  subst (λ (o : Option ℕ). IsRaisedTo o c.args.above c.in_ok-second-in-Some.second) (ap (λ (x : PriceLists). x.unit) c.raised.ensures.grown.is) c.in_ok-second-in-Some.ensures.no_less,
)

pub returns-in_ok-second-in-None-clause-no_less : goal.returns-in_ok-second-in-None-clause-no_less
returns-in_ok-second-in-None-clause-no_less g c = (
  c.in_ok-first-in-None.ensures.no_less,
  subst (λ (o : Option ℕ). IsRaisedTo o c.args.above c.in_ok-second-in-None.second) (ap (λ (x : PriceLists). x.unit) c.child.ensures.grown.is) c.in_ok-second-in-None.ensures.no_less,
)
