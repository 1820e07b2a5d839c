-- What is kept of the leaf on one side of a split.
use Rattle.std.proofs.Common.{◌≡◌, List, [], ◌∷◌, ◌++◌, sym, ◌∙◌, subst, arith}
use Rattle.fp_tree.specs.declared.sides.Side.{Side}
use Rattle.fp_session.specs.declared.kept.Kept.{Kept}
use Rattle.fp_session.specs.declared.searches.Search.{Search}
use Rattle.fp_session.specs.Nodes.{IsKept}
use Rattle.fp_session.specs.Outcomes.{empty_kept, priced_kept}
use Rattle.fp_session.specs.Searches.{history}
use Rattle.fp_allowed.specs.Settings.{Setting}
use Rattle.fp_duals_leaves.specs.Prices.{HaveGrown, PriceLists}
use Rattle.fp_session.proofs.EarlierPrices.{fits-here, leaf-setting_of}
use Rattle.fp_session.proofs.Improvements.{empty-here, priced-here}
use Rattle.fp_session.proofs.children.new_child.Goals as goal

-- what is kept of a leaf is kept under the sides that it has
kept-under : (s : Search) (prices : PriceLists) (own sides : List Side) (kept made : Kept) → own ≡ sides → kept ≡ made → IsKept (history s prices) own made.payload made.value → IsKept (history s prices) sides kept.payload kept.value
kept-under s prices own sides kept made way is keeps =
    subst (λ (k : Kept). IsKept (history s prices) sides k.payload k.value) (sym is) (subst (λ (l : List Side). IsKept (history s prices) l made.payload made.value) way keeps)

pub of-requires : goal.of-requires
of-requires g c = fits-here c.args.leaf.now.setting c.round.result.now.problem c.windows.result.now c.round.ensures.problem c.windows.ensures.same c.windows.ensures.belongs

pub returns-in-Empty-clause-kept : goal.returns-in-Empty-clause-kept
returns-in-Empty-clause-kept g c =
    kept-under c.args.search.now c.improve.new.prices c.in_ok-below.below.sides (c.args.leaf.now.sides ++ (c.args.side ∷ [])) c.emptied.result (empty_kept c.in-Empty.price)
    (c.in_ok-below.ensures.sides ∙ c.deref.ensures.value ∙ c.in_ok-sides.ensures) c.emptied.ensures
    (empty-here c.args.search.now c.args.prices.now c.improve.new.prices c.requires.search c.in_ok-below.below.sides c.in_ok-below.below.setting (leaf-setting_of c.args.search.now c.args.leaf.now.setting c.in_ok-below.below.setting c.round.result.now.problem c.windows.result.now c.round.result.now.network c.requires.setting c.round.ensures.problem c.windows.ensures.same c.round.ensures.network c.in_ok-below.ensures.setting) c.len-number.result
    c.in_ok-price.field-0 c.in_ok-price.ensures.improved (omega (arith, c.len-number.ensures, c.args.search.now.trace.ok)) c.in-Empty.price c.in-Empty.is)

pub returns-clause-kept : goal.returns-clause-kept
returns-clause-kept g c =
    let setting = leaf-setting_of c.args.search.now c.args.leaf.now.setting c.in_ok-below.below.setting c.round.result.now.problem c.windows.result.now c.round.result.now.network c.requires.setting c.round.ensures.problem c.windows.ensures.same c.round.ensures.network c.in_ok-below.ensures.setting in
    let grown : HaveGrown c.args.search.now.instance c.args.search.now.windows c.args.prices.now c.improve.new.prices = subst (λ (x : Setting). HaveGrown x.problem x.windows c.args.prices.now c.improve.new.prices) setting c.improve.ensures.grown in
    kept-under c.args.search.now c.improve.new.prices c.in_ok-below.below.sides (c.args.leaf.now.sides ++ (c.args.side ∷ [])) c.priced.result (priced_kept c.in-Priced.price c.in-Priced.value)
    (c.in_ok-below.ensures.sides ∙ c.deref.ensures.value ∙ c.in_ok-sides.ensures) c.priced.ensures
    (priced-here c.args.search.now c.args.prices.now c.improve.new.prices c.requires.search c.in_ok-below.below.sides c.in_ok-below.below.setting setting c.len-number.result
    c.in_ok-price.field-0 c.in_ok-price.ensures.improved (omega (arith, c.len-number.ensures, c.args.search.now.trace.ok)) c.in-Priced.price c.in-Priced.value c.in-Priced.walks c.in-Priced.is grown.prices)
