-- The cheaper plan waits in reserve.
use Rattle.std.proofs.Common.{◌≡◌, ◌≤◌, ℕ, ⊎_elim, sym, subst, arith}
use Rattle.std.specs.Prelude.{◌⊎◌, IfSome, None, Option, Some}
use Rattle.fp_session_looks.specs.declared.cheaper.Cheaper.{Cheaper}
use Rattle.fp_session.specs.declared.searches.Search.{Search}
use Rattle.fp_session.specs.Searches.{IsCheaper, cheapest_cost}
use Rattle.fp_session.proofs.SearchChanges.{IsSearch-reserve, none-left}
use Rattle.fp_session.proofs.searches.Search.hold.Goals as goal

-- one of two cheaper plans is cheaper
either-cheaper : (s : Search) (was : Option Cheaper) (other now : Cheaper) → IfSome was (IsCheaper s) → IsCheaper s other → (was ≡ Some now) ⊎ (now ≡ other) → IsCheaper s now
either-cheaper s was other now is own one =
    ⊎_elim (λ (same : was ≡ Some now). subst (λ (o : Option Cheaper). IfSome o (IsCheaper s)) same is) (λ (same : now ≡ other). subst (IsCheaper s) (sym same) own) one

-- what costs no more than a plan below a cost, and one in reserve, costs no more than the cheapest
no-dearer : (cost other : ℕ) (was : Option Cheaper) (now : ℕ) → other ≤ cost → now ≤ cheapest_cost other was → now ≤ cheapest_cost cost was
no-dearer cost other None now le less = omega (arith, le, less)
no-dearer cost other (Some plan) now le less = less

pub returns-clause-search : goal.returns-clause-search
returns-clause-search c =
    IsSearch-reserve c.args.self.now c.args.prices.now (Some c.cheaper_of.result) c.args.self.now.preparation c.requires.search
    (either-cheaper c.args.self.now c.take.result c.args.cheaper c.cheaper_of.result
    (subst (λ (o : Option Cheaper). IfSome o (IsCheaper c.args.self.now)) (sym c.take.ensures.value) c.requires.search.reserve) c.requires.cheaper c.cheaper_of.ensures.one)
    (none-left c.args.self.now.left (λ left. Some c.cheaper_of.result ≡ None) c.requires.going)

pub returns-clause-cheapest : goal.returns-clause-cheapest
returns-clause-cheapest c =
    subst (λ (o : Option Cheaper). c.cheaper_of.result.cost ≤ cheapest_cost c.args.self.now.cost o) c.take.ensures.value
    (no-dearer c.args.self.now.cost c.args.cheaper.cost c.take.result c.cheaper_of.result.cost (omega (arith, c.requires.cheaper.less)) c.cheaper_of.ensures.less)
