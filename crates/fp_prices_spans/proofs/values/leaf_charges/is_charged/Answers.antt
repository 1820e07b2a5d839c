use Rattle.std.proofs.Common.{◌≡◌, ℕ, ◌<◌, Bool, false, List, ⊎_elim, sym, ap, ◌∙◌, subst, arith}
use Rattle.std.specs.Prelude.{not}
use Rattle.std.proofs.lemmas.Bool.{both_ways, cases_eq, false≢true}
use Rattle.fp_flatnet.specs.Tables.{windows_in}
use Rattle.fp_model.specs.declared.parts.Leg.{Leg}
use Rattle.fp_model.specs.Costs.{all_legs, has_leg, load}
use Rattle.fp_model.specs.Problem.{Problem}
use Rattle.fp_longestarcs.specs.Networks.{IsClass, TimedNetwork, class_number}
use Rattle.fp_longestarcs.specs.Whole.{IsWholeNetwork}
use Rattle.fp_longestarcs.proofs.ClassNumbers.{number-within}
use Rattle.fp_allowed.specs.Listing.{class_at}
use Rattle.fp_allowed.proofs.ListedClasses.{class_at-number}
use Rattle.fp_prices.specs.LeafPricings.{AreChainsOf, allowed_at}
use Rattle.fp_prices.specs.Rounds.{LeafModel}
use Rattle.fp_prices_spans.specs.ClassRanges.{IsRangeOf}
use Rattle.fp_prices_spans.specs.SpanCosts.{IsUsable}
use Rattle.fp_prices_spans.specs.SpanLeaves.{IsCharged}
use Rattle.fp_prices_spans.specs.SpanPrices.{holds}
use Rattle.fp_prices_spans.proofs.AllowedInNetwork.{allowed-class}
use Rattle.fp_prices_spans.proofs.Between.{between-true}
use Rattle.fp_prices_spans.proofs.MarkedBits.{load-told}
use Rattle.fp_prices_spans.proofs.values.leaf_charges.is_charged.Goals as goal
use Rattle.fp_prices_spans.proofs.values.leaf_charges.is_charged.Goals.{else-is_none-via-then-is_none+else-is_usable, else-is_none-via-else-is_none}

pub loop-class-init : goal.loop-class-init
loop-class-init c = record { from = omega arith; until = omega (arith, c.range_of-range.ensures.order); none = λ chains are n from below not_free usable. absurd (omega (arith, from, below)) }

pub loop-class-preserved : goal.loop-class-preserved
loop-class-preserved c = record {
  from = omega (arith, c.loop-class.invariant.from);
  until = omega arith;
  none = λ chains are n from below not_free usable.
      ⊎_elim
      (λ (here : n ≡ c.loop-class.class).
      last chains are (subst (λ (k : ℕ). has_leg (class_at c.args.pricing.now.leaf.setting.network k) (all_legs chains) ≡ false) here not_free)
      (subst (λ (k : ℕ). IsUsable c.args.pricing.now.leaf (class_at c.args.pricing.now.leaf.setting.network k)) here usable))
      (λ (other : n ≡ c.loop-class.class → ⊥). c.loop-class.invariant.none chains are n from (let less : n < c.loop-class.class = omega (arith, below, other) in less) not_free usable)
      (cases_eq n c.loop-class.class);
}
  where
    last : (chains : List (List Leg)) → AreChainsOf c.args.pricing.now.leaf c.args.pricing.now.forced chains →
        has_leg (class_at c.args.pricing.now.leaf.setting.network c.loop-class.class) (all_legs chains) ≡ false →
        IsUsable c.args.pricing.now.leaf (class_at c.args.pricing.now.leaf.setting.network c.loop-class.class) → ⊥
    last chains are not_free usable =
        let k : ℕ = c.loop-class.class in
        let has : Bool = has_leg (class_at c.args.pricing.now.leaf.setting.network k) (all_legs chains) in
        let loaded = load-told c.forced_load.result has (λ size. size ≡ load c.args.pricing.now.leaf.setting.problem.shipments chains (class_at c.args.pricing.now.leaf.setting.network k)) (c.forced_load.ensures chains are) in
        let none : has ≡ not c.is_none.result = sym loaded ∙ c.is_none.ensures in
        elim c.else-is_none.branch as (λ _. ⊥) [
          | else-is_none-via-then-is_none+else-is_usable w ↦
              both_ways w.is_usable.result w.if-is_usable.false (w.is_usable.ensures.1 (subst (λ (l : LeafModel). IsUsable l (class_at l.setting.network k)) (sym c.leaf-leaf.ensures) usable))
          | else-is_none-via-else-is_none w ↦ both_ways has not_free (none ∙ ap not w.if-is_none.false)
        ]

pub returns : goal.returns
returns c chains are = (
  λ no. absurd (false≢true no),
  λ (is : IsCharged c.args.pricing.now.leaf.setting.problem (allowed_at c.args.pricing.now.leaf) chains c.args.span.now).
      let leaf : LeafModel = c.args.pricing.now.leaf in
      let p : Problem = leaf.setting.problem in
      let net : TimedNetwork = leaf.setting.network in
      let same_network : c.round-2.result.now.network ≡ net = c.round-2.ensures.network ∙ ap (λ (l : LeafModel). l.setting.network) c.leaf-leaf.ensures in
      let same_problem : c.round-2.result.now.problem ≡ p = c.round-2.ensures.problem ∙ ap (λ (l : LeafModel). l.setting.problem) c.leaf-leaf.ensures in
      let whole : IsWholeNetwork p net =
      subst (λ (q : Problem). IsWholeNetwork q net) same_problem (subst (λ (n : TimedNetwork). IsWholeNetwork c.round-2.result.now.problem n) same_network c.network.ensures.whole) in
      let range : IsRangeOf net c.args.span.now c.range_of-range.result = subst (λ (n : TimedNetwork). IsRangeOf n c.args.span.now c.range_of-range.result) (c.network.ensures.same ∙ same_network) c.range_of-range.ensures in
      let class : IsClass net is.class = allowed-class p net (windows_in leaf.setting.windows) leaf.sides is.shipment is.class whole is.allowed_for_it in
      let n : ℕ = class_number net is.class in
      let at : class_at net n ≡ is.class = class_at-number net is.class whole.valid class in
      let inside = between-true c.range_of-range.result.first c.range_of-range.result.end n (range.told n (number-within net is.class whole.valid class) ∙ ap (holds c.args.span.now) at ∙ is.held) in
      let usable : IsUsable leaf (class_at net n) = subst (IsUsable leaf) (sym at) (record { shipment = is.shipment; exists = is.exists; allows = is.allowed_for_it }) in
      absurd (c.loop-class.invariant.none chains are n inside.0 (omega (arith, inside.1)) (ap (λ (e : Leg). has_leg e (all_legs chains)) at ∙ is.not_free) usable),
)
