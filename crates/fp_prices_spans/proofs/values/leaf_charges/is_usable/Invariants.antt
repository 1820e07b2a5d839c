use Rattle.std.proofs.Common.{ℕ, ◌≡◌, ◌<◌, false}
use Rattle.fp_allowed.specs.Listing.{class_at}
use Rattle.fp_prices.specs.LeafPricings.{allowed_at}
use Rattle.fp_prices_spans.proofs.values.leaf_charges.is_usable.Given as goal

-- the class is allowed for none of the shipments so far
abbrev pub invariant-loop-shipment : goal.invariant-loop-shipment
invariant-loop-shipment l = (k : ℕ) → k < l.shipment → allowed_at l.leaf k (class_at l.leaf.setting.network l.class) ≡ false
