-- There is a branching.
use Rattle.std.proofs.Common.{◌≤◌, List, length, sym, subst, arith}
use Rattle.fp_session.specs.declared.branchings.Branching.{Branching}
use Rattle.fp_session.specs.Choices.{IsBranching}
use Rattle.fp_session.specs.Searches.{history}
use Rattle.fp_session.proofs.choices.choice.Goals as goal

pub best-requires-clause-some : goal.best-requires-clause-some
best-requires-clause-some g c = subst (λ (list : List Branching). 1 ≤ length list) (sym c.deref.ensures.value) c.in_ok-list.ensures.some

pub index-requires : goal.index-requires
index-requires g c = omega (arith, c.in_ok-list.ensures.some, c.in_ok-list.list.ok)

pub returns-then-len-eq1-clause-chosen : goal.returns-then-len-eq1-clause-chosen
returns-then-len-eq1-clause-chosen g c =
    let some = c.in_ok-list.ensures.some in
    record { branching = subst (IsBranching (history c.args.search.now c.args.prices.now) c.args.leaf.now.sides) (sym c.index.ensures) (c.in_ok-list.ensures.each 0 c.index.result.now (omega (arith, some))); below = tt }
