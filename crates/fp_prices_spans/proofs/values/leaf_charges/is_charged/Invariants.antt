use Rattle.std.proofs.Common.{ℕ, ◌<◌, ◌≤◌, List, ◌≡◌, false}
use Rattle.fp_model.specs.declared.parts.Leg.{Leg}
use Rattle.fp_model.specs.Costs.{all_legs, has_leg}
use Rattle.fp_allowed.specs.Listing.{class_at}
use Rattle.fp_prices.specs.LeafPricings.{AreChainsOf}
use Rattle.fp_prices_spans.specs.SpanCosts.{IsUsable}
use Rattle.fp_prices_spans.proofs.values.leaf_charges.is_charged.Given as goal

-- each class so far is forced, or allowed for no shipment
abbrev pub invariant-loop-class : goal.invariant-loop-class
invariant-loop-class l = record {
  from : l.initial.class ≤ l.class;
  until : l.class ≤ l.class-end;
  none : (chains : List (List Leg)) → AreChainsOf l.pricing.leaf l.pricing.forced chains → (n : ℕ) → l.initial.class ≤ n → n < l.class →
      has_leg (class_at l.pricing.leaf.setting.network n) (all_legs chains) ≡ false → IsUsable l.pricing.leaf (class_at l.pricing.leaf.setting.network n) → ⊥;
}
