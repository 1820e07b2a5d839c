-- The plan in reserve is taken.
use Rattle.std.proofs.Common.{◌≡◌, ◌∙◌, subst, sym, ap}
use Rattle.std.specs.Prelude.{IfSome, None, Option, Some}
use Rattle.fp_session_looks.specs.declared.cheaper.Cheaper.{Cheaper}
use Rattle.fp_session.specs.declared.searches.Search.{Search}
use Rattle.fp_session.specs.Searches.{IsCheaper, cheapest, cheapest_cost}
use Rattle.fp_session.specs.StepCauses.{with_incumbent}
use Rattle.fp_session.proofs.SearchChanges.{IsSearch-better}
use Rattle.fp_session.proofs.searches.Search.take_reserve.Goals as goal

-- the plan in reserve is cheaper
reserved : (s : Search) (c : Cheaper) → IfSome s.reserve (IsCheaper s) → s.reserve ≡ Some c → IsCheaper s c
reserved s c is same = subst (λ (o : Option Cheaper). IfSome o (IsCheaper s)) same is

-- it is the cheapest
cheapest-is : (s : Search) (c : Cheaper) → s.reserve ≡ Some c → with_incumbent s c None s.preparation ≡ with_incumbent s (record { plan = cheapest s.incumbent s.reserve; cost = cheapest_cost s.cost s.reserve }) None s.preparation
cheapest-is s c same = sym (ap (λ (o : Option Cheaper). let t : Search = with_incumbent s (record { plan = cheapest s.incumbent o; cost = cheapest_cost s.cost o }) None s.preparation in t) same)

pub returns-clause-search : goal.returns-clause-search
returns-clause-search c =
    IsSearch-better c.args.self.now c.args.prices.now c.requires.search c.requires.going c.in-Some.cheaper c.take.new.self c.args.self.now.preparation
    (reserved c.args.self.now c.in-Some.cheaper c.requires.search.reserve (sym c.take.ensures.value ∙ c.in-Some.is))
    (subst (λ (o : Option Cheaper). IfSome o (IsCheaper (with_incumbent c.args.self.now c.in-Some.cheaper o c.args.self.now.preparation))) (sym c.take.ensures.after) tt)

pub returns-clause-taken : goal.returns-clause-taken
returns-clause-taken c =
    ap (λ (o : Option Cheaper). with_incumbent c.args.self.now c.in-Some.cheaper o c.args.self.now.preparation) c.take.ensures.after
    ∙ cheapest-is c.args.self.now c.in-Some.cheaper (sym c.take.ensures.value ∙ c.in-Some.is)

pub returns-clause-less : goal.returns-clause-less
returns-clause-less c = (reserved c.args.self.now c.in-Some.cheaper c.requires.search.reserve (sym c.take.ensures.value ∙ c.in-Some.is)).less
