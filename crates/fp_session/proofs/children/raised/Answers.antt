-- The prices have grown as it was improved with more effort.
use Rattle.std.proofs.Common.{ℕ, sym, ap, ◌∙◌, subst}
use Rattle.std.specs.Prelude.{⊤, IsSomeAnd, Option}
use Rattle.fp_duals_leaves.specs.Prices.{PriceLists}
use Rattle.fp_session.proofs.Improvements.{IsKept-grown}
use Rattle.fp_session.proofs.SameHands.{IsSearch-grown}
use Rattle.fp_session.proofs.TakenValuations.{inherited-ok, raised-ok}
use Rattle.fp_session.proofs.children.raised.Goals as goal

pub returns-then-is_no_less-clause-no_less : goal.returns-then-is_no_less-clause-no_less
returns-then-is_no_less-clause-no_less g c = λ so. c.is_no_less.ensures.yes c.if-is_no_less.true

pub returns-then-is_no_less-2-clause-no_less : goal.returns-then-is_no_less-2-clause-no_less
returns-then-is_no_less-2-clause-no_less g c = λ so. c.is_no_less-2.ensures.yes c.if-is_no_less-2.true

pub as_inherited-requires-clause-search : goal.as_inherited-requires-clause-search
as_inherited-requires-clause-search g c = IsSearch-grown c.args.search.now c.args.prices.now c.better_child.new.prices c.better_child.ensures.grown c.requires.going c.requires.search

pub as_inherited-requires-clause-above : goal.as_inherited-requires-clause-above
as_inherited-requires-clause-above g c =
    IsKept-grown c.args.search.now c.args.prices.now c.better_child.new.prices c.args.leaf.now.sides c.args.above c.requires.search.prices c.better_child.ensures.grown c.requires.above

pub returns-in-None-clause-no_less : goal.returns-in-None-clause-no_less
returns-in-None-clause-no_less g c =
    inherited-ok c.args.prices.now.unit c.args.above c.as_inherited.result
    (sym (ap (λ (x : PriceLists). x.unit) c.better_child.ensures.grown.is) ∙ sym c.unit.ensures ∙ c.in-None.is) c.as_inherited.ensures.steady

pub no_less-requires-clause-search : goal.no_less-requires-clause-search
no_less-requires-clause-search g c = IsSearch-grown c.args.search.now c.args.prices.now c.better_child.new.prices c.better_child.ensures.grown c.requires.going c.requires.search

pub no_less-requires-clause-spans : goal.no_less-requires-clause-spans
no_less-requires-clause-spans g c = subst (λ (o : Option ℕ). IsSomeAnd o (λ (u : ℕ). ⊤)) (sym c.in-Some.is ∙ c.unit.ensures) tt

pub no_less-requires-clause-above : goal.no_less-requires-clause-above
no_less-requires-clause-above g c =
    IsKept-grown c.args.search.now c.args.prices.now c.better_child.new.prices c.args.leaf.now.sides c.args.above c.requires.search.prices c.better_child.ensures.grown c.requires.above

pub returns-in-Some-clause-no_less : goal.returns-in-Some-clause-no_less
returns-in-Some-clause-no_less g c = raised-ok c.args.prices.now.unit c.args.above c.no_less.result c.no_less.ensures.no_less
