-- The greater of two trials is one of them, and the prices are as they were.
use Rattle.std.proofs.Common.{◌∙◌, subst, sym}
use Rattle.fp_duals_leaves.specs.Prices.{PriceLists}
use Rattle.fp_session.specs.declared.choices.Trial.{Trial}
use Rattle.fp_session.specs.Choices.{IsChosen}
use Rattle.fp_session.specs.Searches.{history}
use Rattle.fp_session.proofs.choices.best.Goals as goal
use Rattle.fp_session.proofs.choices.best.Goals.{then-is_more, else-is_more}

pub loop-place-preserved : goal.loop-place-preserved
loop-place-preserved g c = record {
  same = c.tried-in-loop-place.ensures.same ∙ c.loop-place.invariant.same;
  chosen = elim c.if-is_more.branch [
    | then-is_more w ↦
        subst (λ (t : Trial). IsChosen (history c.args.search.now c.tried.new.prices) c.args.leaf.now.sides t.chosen) (sym w.best-is)
        (subst (λ (x : PriceLists). IsChosen (history c.args.search.now x) c.args.leaf.now.sides c.in_ok-next.next.chosen) c.loop-place.invariant.same c.in_ok-next.ensures.chosen)
    | else-is_more w ↦
        subst (λ (t : Trial). IsChosen (history c.args.search.now c.tried.new.prices) c.args.leaf.now.sides t.chosen) (sym w.best-is) c.loop-place.invariant.chosen
  ];
}
