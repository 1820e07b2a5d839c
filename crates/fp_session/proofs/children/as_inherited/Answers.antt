-- What is kept of a leaf, or what it is worth by a price of the leaf above, whichever is more.
use Rattle.std.proofs.Common.{◌≡◌, ⊎_elim, List, [], ◌∷◌, ◌++◌, sym, ap, ◌∙◌, subst}
use Rattle.fp_prices.specs.declared.leaf_prices.LeafPrice.{LeafPrice}
use Rattle.fp_tree.specs.declared.sides.Side.{Side}
use Rattle.fp_duals_leaves.specs.Prices.{HaveGrown, PriceLists}
use Rattle.fp_duals_leaves.proofs.SpansBeside.{ungiven-none}
use Rattle.fp_session.specs.declared.kept.Kept.{Kept}
use Rattle.fp_session.specs.declared.searches.Search.{Search}
use Rattle.fp_session.specs.Nodes.{IsKept}
use Rattle.fp_session.specs.Outcomes.{IsNoLessBy}
use Rattle.fp_session.specs.Searches.{history}
use Rattle.fp_session.proofs.Improvements.{HaveGrown-twice, IsKept-grown}
use Rattle.fp_session.proofs.SameHands.{IsSearch-grown}
use Rattle.fp_session.proofs.SteadyPrices.{steady-no_less}
use Rattle.fp_session.proofs.children.as_inherited.Goals as goal

pub as_of_price-requires-clause-search : goal.as_of_price-requires-clause-search
as_of_price-requires-clause-search g c = IsSearch-grown c.args.search.now c.args.prices.now c.price_below.new.prices c.price_below.ensures.grown c.requires.going c.requires.search

pub returns-clause-kept : goal.returns-clause-kept
returns-clause-kept g c =
    let s : Search = c.args.search.now in
    let before : PriceLists = c.args.prices.now in
    let after : PriceLists = c.as_of_price.new.prices in
    let sides : List Side = c.args.leaf.now.sides ++ (c.args.side ∷ []) in
    let grown : HaveGrown s.instance s.windows before after = HaveGrown-twice s.instance s.windows before c.price_below.new.prices after c.price_below.ensures.grown c.as_of_price.ensures.grown in
    let IsKeptNow : Kept → Type 0 = λ (k : Kept). IsKept (history s after) sides k.payload k.value in
    ⊎_elim
    (λ (same : c.better_of.result ≡ c.args.kept). subst IsKeptNow (sym same) (IsKept-grown s before after sides c.args.kept c.requires.search.prices grown c.requires.kept))
    (λ (same : c.better_of.result ≡ c.in_ok-then.then). subst IsKeptNow (sym same) c.in_ok-then.ensures.kept)
    c.better_of.ensures.either

pub returns-clause-steady : goal.returns-clause-steady
returns-clause-steady g c =
    let s : Search = c.args.search.now in
    let before : PriceLists = c.args.prices.now in
    let after : PriceLists = c.as_of_price.new.prices in
    let above : List Side = c.args.leaf.now.sides in
    let grown : HaveGrown s.instance s.windows before after = HaveGrown-twice s.instance s.windows before c.price_below.new.prices after c.price_below.ensures.grown c.as_of_price.ensures.grown in
    let without = ap (λ (x : PriceLists). x.unit) grown.is ∙ c.requires.without in
    λ steady.
    c.better_of.ensures.no_less c.args.above.value
    (steady-no_less (history s after) above (c.args.side ∷ []) c.args.above c.in_ok-then.then steady without (ungiven-none s.instance s.windows after c.args.above.payload.valuation.price.kind grown.prices without)
    (IsKept-grown s before after above c.args.above c.requires.search.prices grown c.requires.above) c.requires.some
    (subst (λ (price : LeafPrice). IsNoLessBy (history s after) (above ++ (c.args.side ∷ [])) price c.in_ok-then.then) (c.in_ok-price.ensures.same steady)
    (c.in_ok-then.ensures.inherited (ap (λ (x : PriceLists). x.unit) c.price_below.ensures.grown.is ∙ c.requires.without))))
