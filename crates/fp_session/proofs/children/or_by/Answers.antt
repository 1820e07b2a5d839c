-- What is kept of a leaf by its own prices or by another one.
use Rattle.std.proofs.Common.{inl, inr, refl, ap, ◌∙◌, subst}
use Rattle.std.specs.Prelude.{⊤, IsSomeAnd, Option, Some}
use Rattle.fp_flatnet.specs.Tables.{windows_in}
use Rattle.fp_longestarcs.specs.Networks.{points_in}
use Rattle.fp_prices.specs.declared.values.bounds.LeafBound.{LeafBound}
use Rattle.fp_prices.specs.Rounds.{LeafModel}
use Rattle.fp_duals_leaves.specs.Pricing.{IsPricedBound}
use Rattle.fp_session.proofs.children.or_by.Goals as goal

-- without gifts there is a bound
pub returns-in_default : goal.returns-in_default
returns-in_default c = inl (refl, inr (λ none. subst (λ (o : Option LeafBound). IsSomeAnd o (λ (b : LeafBound). ⊤)) c.in_default.is (c.in_ok-bound.ensures.priced none)))

pub returns-in-Empty : goal.returns-in-Empty
returns-in-Empty c =
    let l : LeafModel = c.args.leaf.now in
    let first =
    subst (IsPricedBound l.setting.problem (windows_in l.setting.windows) (points_in l.setting.network) l.sides c.args.prices.now c.args.price.round c.args.price) (c.in-Some.is ∙ ap (λ (b : LeafBound). Some b) c.in-Empty.is)
    c.in_ok-bound.ensures.exact in
    inl (refl, inl (record { shipment = c.in-Empty.shipment; exists = first.exists; none = first.none }))

pub returns-in-Value : goal.returns-in-Value
returns-in-Value c =
    let l : LeafModel = c.args.leaf.now in
    inr (
      c.in-Value.value,
      subst (IsPricedBound l.setting.problem (windows_in l.setting.windows) (points_in l.setting.network) l.sides c.args.prices.now c.args.price.round c.args.price) (c.in-Some.is ∙ ap (λ (b : LeafBound). Some b) c.in-Value.is)
          c.in_ok-bound.ensures.exact,
      c.greater.ensures,
    )
