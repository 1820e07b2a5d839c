-- As of the round of its price the leaf is worth no less than the one above, or is valued as that one is.
use Rattle.std.proofs.Common.{ℕ, List, [], ◌∷◌, ◌++◌, sym, ap, ◌∙◌, subst, arith}
use Rattle.fp_tree.specs.declared.sides.Side.{Side}
use Rattle.fp_duals_leaves.specs.Prices.{PriceLists}
use Rattle.fp_session.specs.declared.kept.Kept.{Kept}
use Rattle.fp_session.specs.declared.searches.Search.{Search}
use Rattle.fp_session.specs.Nodes.{IsKept}
use Rattle.fp_session.specs.Outcomes.{taken_kept}
use Rattle.fp_session.specs.Searches.{history}
use Rattle.fp_session.proofs.Improvements.{IsKept-grown}
use Rattle.fp_session.proofs.TakenValuations.{AreAtMost, AreAtMost-kept, AreAtMost-more, kept-taken, no-unit, some-unit}
use Rattle.fp_session.proofs.children.no_less.Goals as goal

pub returns-then-kept-price-clause-kept : goal.returns-then-kept-price-clause-kept
returns-then-kept-price-clause-kept g c =
    let s : Search = c.args.search.now in
    let before : PriceLists = c.args.prices.now in
    let above : List Side = c.args.leaf.now.sides in
    let sides : List Side = above ++ (c.args.side ∷ []) in
    let round = c.args.above.payload.valuation.price.round in
    let most : AreAtMost (history s before) round sides c.args.above.value =
    AreAtMost-more (history s before) round sides c.args.kept.value c.args.above.value (omega (arith, c.requires.less))
    (AreAtMost-kept (history s before) sides c.args.kept.payload c.args.kept.value round c.requires.kept c.requires.open_still c.if-kept-price.true) in
    subst (λ (k : Kept). IsKept (history s before) sides k.payload k.value)
    (sym (c.taken.ensures ∙ ap (taken_kept c.args.above) c.depth_of.ensures))
    (kept-taken (history s before) above (c.args.side ∷ []) c.args.above c.requires.above c.requires.some (some-unit before.unit c.requires.spans) most)

pub returns-clause-kept : goal.returns-clause-kept
returns-clause-kept g c =
    let s : Search = c.args.search.now in
    let before : PriceLists = c.args.prices.now in
    let after : PriceLists = c.as_of_price.new.prices in
    let above : List Side = c.args.leaf.now.sides in
    let sides : List Side = above ++ (c.args.side ∷ []) in
    let round : ℕ = c.args.above.payload.valuation.price.round in
    let then : Kept = c.in_ok-then.then in
    let less = c.is_no_less.ensures.no c.if-is_no_less.false in
    let most : AreAtMost (history s after) round sides c.args.above.value =
    AreAtMost-more (history s after) round sides then.value c.args.above.value (omega (arith, less.1))
    (AreAtMost-kept (history s after) sides then.payload then.value round c.in_ok-then.ensures.kept less.0 c.in_ok-then.ensures.round) in
    subst (λ (k : Kept). IsKept (history s after) sides k.payload k.value)
    (sym (c.taken-2.ensures ∙ ap (taken_kept c.args.above) c.depth_of-2.ensures))
    (kept-taken (history s after) above (c.args.side ∷ []) c.args.above (IsKept-grown s before after above c.args.above c.requires.search.prices c.as_of_price.ensures.grown c.requires.above) c.requires.some
    (no-unit s.instance s.windows before after c.as_of_price.ensures.grown c.requires.spans) most)
