-- What is kept of the leaf on one side of a split, as of the round that a price of the leaf above is of.
use Rattle.std.proofs.Common.{◌≡◌, inl, ℕ, List, [], ◌∷◌, ◌++◌, sym, ap, ◌∙◌, subst}
use Rattle.std.proofs.lemmas.Result.{IfOk-weaker}
use Rattle.fp_longestarcs.specs.Networks.{point_count}
use Rattle.fp_tree.specs.declared.sides.Side.{Side}
use Rattle.fp_allowed.specs.Settings.{Setting}
use Rattle.fp_duals_leaves.specs.Prices.{HaveGrown, PriceLists}
use Rattle.fp_session.specs.declared.kept.Kept.{Kept}
use Rattle.fp_session.specs.declared.searches.Search.{Search}
use Rattle.fp_session.specs.Nodes.{IsKept}
use Rattle.fp_session.specs.Outcomes.{IsBestBy, IsNoLessBy, empty_kept}
use Rattle.fp_session.specs.Searches.{history}
use Rattle.fp_session.proofs.EarlierPrices.{IsPriceOf-grown, best-under, empty-then, leaf-setting_with}
use Rattle.fp_session.proofs.PointLimits.{few-of}
use Rattle.fp_session.proofs.children.as_of_price.Goals as goal

-- what is kept of a leaf is kept under the sides that it has
kept-under : (s : Search) (prices : PriceLists) (own sides : List Side) (kept made : Kept) → own ≡ sides → kept ≡ made → IsKept (history s prices) own made.payload made.value → IsKept (history s prices) sides kept.payload kept.value
kept-under s prices own sides kept made way is keeps =
    subst (λ (k : Kept). IsKept (history s prices) sides k.payload k.value) (sym is) (subst (λ (l : List Side). IsKept (history s prices) l made.payload made.value) way keeps)

pub over-requires-clause-few : goal.over-requires-clause-few
over-requires-clause-few g c = few-of c.args.search.now c.args.prices.now c.requires.search (point_count c.in_ok-network.network) c.in_ok-network.ensures.few

pub returns-in-Empty-clause-kept : goal.returns-in-Empty-clause-kept
returns-in-Empty-clause-kept g c =
    let s : Search = c.args.search.now in
    let round : ℕ = c.args.price.round in
    let setting = leaf-setting_with s c.in_ok-network.network c.in_ok-round.round c.in_ok-below.below.setting c.in_ok-round.ensures c.in_ok-below.ensures.setting in
    kept-under s c.improve.new.prices c.in_ok-below.below.sides (c.args.leaf.now.sides ++ (c.args.side ∷ [])) c.emptied.result (empty_kept c.in-Empty.own)
    (c.in_ok-below.ensures.sides ∙ c.deref.ensures.value ∙ c.in_ok-sides.ensures) c.emptied.ensures
    ((empty-then s c.args.prices.now c.improve.new.prices c.requires.search c.in_ok-below.below.sides c.in_ok-network.network round c.requires.price.round c.in_ok-network.ensures.whole
    c.in_ok-below.below.setting setting c.in_ok-own.field-0 c.in_ok-own.ensures.improved c.in-Empty.own c.in-Empty.is).0)

pub returns-in-Empty-clause-round : goal.returns-in-Empty-clause-round
returns-in-Empty-clause-round g c =
    let s : Search = c.args.search.now in
    let setting = leaf-setting_with s c.in_ok-network.network c.in_ok-round.round c.in_ok-below.below.setting c.in_ok-round.ensures c.in_ok-below.ensures.setting in
    ap (λ (k : Kept). k.payload.valuation.price.round) c.emptied.ensures
    ∙ (empty-then s c.args.prices.now c.improve.new.prices c.requires.search c.in_ok-below.below.sides c.in_ok-network.network c.args.price.round c.requires.price.round c.in_ok-network.ensures.whole
    c.in_ok-below.below.setting setting c.in_ok-own.field-0 c.in_ok-own.ensures.improved c.in-Empty.own c.in-Empty.is).1

pub returns-in-Empty-clause-inherited : goal.returns-in-Empty-clause-inherited
returns-in-Empty-clause-inherited g c = λ _. inl (ap (λ (k : Kept). k.payload.empty) c.emptied.ensures)

pub or_by-requires-clause-kind : goal.or_by-requires-clause-kind
or_by-requires-clause-kind g c =
    let s : Search = c.args.search.now in
    let setting = leaf-setting_with s c.in_ok-network.network c.in_ok-round.round c.in_ok-below.below.setting c.in_ok-round.ensures c.in_ok-below.ensures.setting in
    (IsPriceOf-grown s c.args.prices.now c.improve.new.prices c.args.price (subst (λ (x : Setting). HaveGrown x.problem x.windows c.args.prices.now c.improve.new.prices) setting c.improve.ensures.grown) c.requires.price).kind

pub returns-clause-kept : goal.returns-clause-kept
returns-clause-kept g c =
    let s : Search = c.args.search.now in
    let after : PriceLists = c.improve.new.prices in
    let sides : List Side = c.args.leaf.now.sides ++ (c.args.side ∷ []) in
    let setting = leaf-setting_with s c.in_ok-network.network c.in_ok-round.round c.in_ok-below.below.setting c.in_ok-round.ensures c.in_ok-below.ensures.setting in
    let grown = subst (λ (x : Setting). HaveGrown x.problem x.windows c.args.prices.now after) setting c.improve.ensures.grown in
    let kind = (IsPriceOf-grown s c.args.prices.now after c.args.price grown c.requires.price).kind in
    IfOk-weaker c.or_by.result (IsBestBy c.in_ok-below.below after c.priced.result c.args.price) (λ (kept : Kept). IsKept (history s after) sides kept.payload kept.value)
    (λ kept best.
    (best-under s c.args.prices.now after c.requires.search c.in_ok-below.below.sides sides c.in_ok-network.network c.args.price c.requires.price.round c.in_ok-network.ensures.whole
    c.in_ok-below.below.setting setting c.in_ok-own.field-0 c.in_ok-own.ensures.improved kind grown c.in-Priced.own c.in-Priced.value c.in-Priced.walks c.in-Priced.is c.priced.result c.priced.ensures
    (c.in_ok-below.ensures.sides ∙ c.deref.ensures.value ∙ c.in_ok-sides.ensures) kept best).0)
    c.or_by.ensures

pub returns-clause-round : goal.returns-clause-round
returns-clause-round g c =
    let s : Search = c.args.search.now in
    let after : PriceLists = c.improve.new.prices in
    let sides : List Side = c.args.leaf.now.sides ++ (c.args.side ∷ []) in
    let setting = leaf-setting_with s c.in_ok-network.network c.in_ok-round.round c.in_ok-below.below.setting c.in_ok-round.ensures c.in_ok-below.ensures.setting in
    let grown = subst (λ (x : Setting). HaveGrown x.problem x.windows c.args.prices.now after) setting c.improve.ensures.grown in
    let kind = (IsPriceOf-grown s c.args.prices.now after c.args.price grown c.requires.price).kind in
    IfOk-weaker c.or_by.result (IsBestBy c.in_ok-below.below after c.priced.result c.args.price) (λ (kept : Kept). kept.payload.valuation.price.round ≡ c.args.price.round)
    (λ kept best.
    (best-under s c.args.prices.now after c.requires.search c.in_ok-below.below.sides sides c.in_ok-network.network c.args.price c.requires.price.round c.in_ok-network.ensures.whole
    c.in_ok-below.below.setting setting c.in_ok-own.field-0 c.in_ok-own.ensures.improved kind grown c.in-Priced.own c.in-Priced.value c.in-Priced.walks c.in-Priced.is c.priced.result c.priced.ensures
    (c.in_ok-below.ensures.sides ∙ c.deref.ensures.value ∙ c.in_ok-sides.ensures) kept best).1)
    c.or_by.ensures

pub returns-clause-inherited : goal.returns-clause-inherited
returns-clause-inherited g c =
    let s : Search = c.args.search.now in
    let after : PriceLists = c.improve.new.prices in
    let sides : List Side = c.args.leaf.now.sides ++ (c.args.side ∷ []) in
    let setting = leaf-setting_with s c.in_ok-network.network c.in_ok-round.round c.in_ok-below.below.setting c.in_ok-round.ensures c.in_ok-below.ensures.setting in
    let grown = subst (λ (x : Setting). HaveGrown x.problem x.windows c.args.prices.now after) setting c.improve.ensures.grown in
    let kind = (IsPriceOf-grown s c.args.prices.now after c.args.price grown c.requires.price).kind in
    λ without.
    IfOk-weaker c.or_by.result (IsBestBy c.in_ok-below.below after c.priced.result c.args.price) (IsNoLessBy (history s after) sides c.args.price)
    (λ kept best.
    (best-under s c.args.prices.now after c.requires.search c.in_ok-below.below.sides sides c.in_ok-network.network c.args.price c.requires.price.round c.in_ok-network.ensures.whole
    c.in_ok-below.below.setting setting c.in_ok-own.field-0 c.in_ok-own.ensures.improved kind grown c.in-Priced.own c.in-Priced.value c.in-Priced.walks c.in-Priced.is c.priced.result c.priced.ensures
    (c.in_ok-below.ensures.sides ∙ c.deref.ensures.value ∙ c.in_ok-sides.ensures) kept best).2 without)
    c.or_by.ensures
