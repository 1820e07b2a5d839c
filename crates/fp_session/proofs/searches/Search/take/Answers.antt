-- A cheaper plan is taken, and the plan in reserve stays only where it is cheaper still.
use Rattle.std.proofs.Common.{sym, subst}
use Rattle.std.specs.Prelude.{IfSome, Option}
use Rattle.fp_session_looks.specs.declared.cheaper.Cheaper.{Cheaper}
use Rattle.fp_session.specs.Searches.{IsCheaper}
use Rattle.fp_session.proofs.SearchChanges.{IsSearch-better, still-below}
use Rattle.fp_session.proofs.searches.Search.take.Goals as goal

pub returns-clause-search : goal.returns-clause-search
returns-clause-search c =
    IsSearch-better c.args.self.now c.args.prices.now c.requires.search c.requires.going c.args.cheaper c.waiting.result c.after_plan-self.result c.requires.cheaper
    (still-below c.args.self.now.instance c.args.self.now.windows c.args.self.now.cost c.args.cheaper.cost c.take.result c.waiting.result
    (subst (λ (o : Option Cheaper). IfSome o (IsCheaper c.args.self.now)) (sym c.take.ensures.value) c.requires.search.reserve) c.waiting.ensures.less)
