-- The branching that was chosen leaves the prices as they are.
use Rattle.std.proofs.Common.{sym, subst}
use Rattle.std.proofs.lemmas.Result.{IfOk-weaker}
use Rattle.fp_duals_leaves.specs.Prices.{HaveGrown, PriceLists}
use Rattle.fp_session.specs.Choices.{IsChosen}
use Rattle.fp_session.specs.Moves.{AreNoLess}
use Rattle.fp_session.specs.Nodes.{IsKept}
use Rattle.fp_session.specs.Searches.{IsSearch, history}
use Rattle.fp_session.proofs.planning.several_move.Goals as goal

pub division-requires-clause-search : goal.division-requires-clause-search
division-requires-clause-search g c = subst (IsSearch c.args.search.now) (sym c.choice.ensures.same) c.requires.search

pub division-requires-clause-chosen : goal.division-requires-clause-chosen
division-requires-clause-chosen g c =
    subst (λ (x : PriceLists). IsChosen (history c.args.search.now x) c.args.leaf.now.sides c.in_ok-chosen.chosen) (sym c.choice.ensures.same) c.in_ok-chosen.ensures.chosen

pub division-requires-clause-above : goal.division-requires-clause-above
division-requires-clause-above g c = subst (λ (x : PriceLists). IsKept (history c.args.search.now x) c.args.leaf.now.sides c.args.kept.payload c.args.kept.value) (sym c.choice.ensures.same) c.requires.kept

pub returns-clause-no_less : goal.returns-clause-no_less
returns-clause-no_less g c =
    IfOk-weaker c.division.result (AreNoLess c.choice.new.prices.unit c.args.kept) (AreNoLess c.args.prices.now.unit c.args.kept)
    (λ d less. subst (λ (x : PriceLists). AreNoLess x.unit c.args.kept d) c.choice.ensures.same less) c.division.ensures.no_less

pub returns-clause-grown : goal.returns-clause-grown
returns-clause-grown g c =
    subst (λ (ts : PriceLists). HaveGrown c.args.search.now.instance c.args.search.now.windows ts c.division.new.prices) c.choice.ensures.same c.division.ensures.grown
