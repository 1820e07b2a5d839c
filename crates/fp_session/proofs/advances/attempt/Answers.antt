use Rattle.std.proofs.Common.{ℕ, ap, subst}
use Rattle.std.specs.Prelude.{IfOk, Option}
use Rattle.fp_duals_leaves.specs.Prices.{PriceLists}
use Rattle.fp_session.specs.Order.{IsInOrder}
use Rattle.fp_session.specs.Searches.{in_hand}
use Rattle.fp_session.proofs.BestOpen.{best-open}
use Rattle.fp_session.proofs.SameHands.{IsSearch-grown}
use Rattle.fp_session.proofs.advances.attempt.Goals as goal

pub planned_in_time-requires-clause-leaf : goal.planned_in_time-requires-clause-leaf
planned_in_time-requires-clause-leaf g c = c.requires.least.there

pub planned_in_time-requires-clause-still_open : goal.planned_in_time-requires-clause-still_open
planned_in_time-requires-clause-still_open g c = best-open c.args.search.now.tree c.args.leaf c.requires.least

pub apply-requires-clause-search : goal.apply-requires-clause-search
apply-requires-clause-search g c = IsSearch-grown c.args.search.now c.args.prices.now c.planned_in_time.new.prices c.planned_in_time.ensures.grown c.requires.going c.requires.search

pub returns-clause-order : goal.returns-clause-order
returns-clause-order g c =
    subst (λ (o : Option ℕ). IfOk c.apply.result (IsInOrder o (in_hand c.args.search.now) (in_hand c.apply.new.self))) (ap (λ (x : PriceLists). x.unit) c.planned_in_time.ensures.grown.is) c.apply.ensures.order
