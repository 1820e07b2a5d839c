-- The prices have grown as it was improved with little effort.
use Rattle.std.proofs.Common.{ℕ, [], ◌∷◌, ◌++◌, sym, ap, subst}
use Rattle.std.specs.Prelude.{IfOk, Option}
use Rattle.fp_duals_leaves.specs.Prices.{PriceLists}
use Rattle.fp_session.specs.declared.kept.Kept.{Kept}
use Rattle.fp_session.specs.Nodes.{IsKept, IsRaisedTo}
use Rattle.fp_session.specs.Searches.{history}
use Rattle.fp_session.proofs.Improvements.{IsKept-grown}
use Rattle.fp_session.proofs.SameHands.{IsSearch-grown}
use Rattle.fp_session.proofs.children.child.Goals as goal

pub raised-requires-clause-search : goal.raised-requires-clause-search
raised-requires-clause-search g c = IsSearch-grown c.args.search.now c.args.prices.now c.new_child.new.prices c.new_child.ensures.grown c.requires.going c.requires.search

pub raised-requires-clause-above : goal.raised-requires-clause-above
raised-requires-clause-above g c =
    IsKept-grown c.args.search.now c.args.prices.now c.new_child.new.prices c.args.leaf.now.sides c.args.above c.requires.search.prices c.new_child.ensures.grown c.requires.above

-- what is noted of it changes nothing that is known of it
pub raised-requires-clause-kept : goal.raised-requires-clause-kept
raised-requires-clause-kept g c =
    let kept = c.in_ok-kept.ensures in
    subst (λ (k : Kept). IsKept (history c.args.search.now c.new_child.new.prices) (c.args.leaf.now.sides ++ (c.args.side ∷ [])) k.payload k.value) (sym c.noted-kept.ensures)
    (record { price = kept.kept.price; under = kept.kept.under; worth = kept.kept.worth })

pub returns-clause-no_less : goal.returns-clause-no_less
returns-clause-no_less g c =
    subst (λ (o : Option ℕ). IfOk c.raised.result (IsRaisedTo o c.args.above)) (ap (λ (x : PriceLists). x.unit) c.new_child.ensures.grown.is) c.raised.ensures.no_less
