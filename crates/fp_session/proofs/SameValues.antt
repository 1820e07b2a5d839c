-- What a leaf is worth by a price of a search is the same over other lists of the same points.
use Rattle.std.proofs.Common.{◌≡◌, ℕ, ◌<◌, true, Bool, List, [], ◌∷◌, length, ⊎_elim, inl, inr, sym, ◌∙◌}
use Rattle.std.specs.List.{AllByRecursion}
use Rattle.std.proofs.lemmas.List.Elements.{All-get_or, recursion_from_All}
use Rattle.fp_base_lists.specs.Membership.{list_has}
use Rattle.fp_model.specs.declared.parts.Shipment.{Shipment}
use Rattle.fp_model.specs.Problem.{IsArc, IsValid, Problem, no_arc}
use Rattle.fp_flatnet.specs.Tables.{WindowTable, windows_in}
use Rattle.fp_tree.specs.declared.sides.Side.{Side}
use Rattle.fp_allowed.specs.Allowed.{tails_of}
use Rattle.fp_allowed.specs.SamePoints.{AgreeOnPoints}
use Rattle.fp_prices.specs.declared.leaf_prices.Kind.{Kind}
use Rattle.fp_prices_spans.specs.SpanKinds.{spans_beside}
use Rattle.fp_prices_spans.proofs.SameSpanValues.{span_value-same}
use Rattle.fp_prices_gifts.specs.declared.gifts.Gift.{Gift}
use Rattle.fp_prices_gifts.specs.GiftKinds.{IsPricedValue, gifts_beside}
use Rattle.fp_prices_gifts.specs.GiftLeaves.{EndsAtPoints}
use Rattle.fp_duals_leaves.specs.Prices.{ArePrices, PriceLists}
use Rattle.fp_duals_leaves.proofs.SpansBeside.{beside-sound}

module _ (p : Problem) (valid : IsValid p) (points others : ℕ → List ℕ) (same : AgreeOnPoints p points others) where
  -- where runs end at points, they end at the same points in other lists
  ends-same : (gifts : List Gift) → AllByRecursion (λ (gift : Gift). gift.arc < length p.arcs) gifts → AllByRecursion (EndsAtPoints p points) gifts → AllByRecursion (EndsAtPoints p others) gifts
  ends-same [] exist ends = tt
  ends-same (gift ∷ gifts) exist ends = (
    record {
      point = sym (same (tails_of p gift.arc) tail gift.point) ∙ ends.0.point;
      until = ⊎_elim
          (λ (there : list_has (points (tails_of p gift.arc)) gift.until ≡ true). inl (sym (same (tails_of p gift.arc) tail gift.until) ∙ there))
          (λ (late : AllByRecursion (λ (s : Shipment). s.due < gift.until) p.shipments). inr late) ends.0.until;
    },
    ends-same gifts exist.1 ends.1,
  )
    where
      tail : tails_of p gift.arc < length p.terminals
      tail = (All-get_or (IsArc (length p.terminals)) p.arcs gift.arc no_arc exist.0 valid.parts.arcs).from

  -- so the value is the same
  pub priced_value-same : (table : WindowTable) (sides : List Side) (x : PriceLists) → ArePrices p table x → (kind : Kind) (forced : Bool) (value : ℕ) →
      IsPricedValue p (windows_in table) points sides x.tables x.spans x.gifts kind forced value → IsPricedValue p (windows_in table) others sides x.tables x.spans x.gifts kind forced value
  priced_value-same table sides x are kind forced value is = record {
    before = is.before;
    plain = is.plain;
    by_spans = span_value-same p valid (windows_in table) points others same sides x.tables (spans_beside x.spans kind) kind forced is.before is.by_spans;
    given = record {
      numbers = is.given.numbers;
      ends = ends-same (gifts_beside x.gifts kind) (recursion_from_All (λ (gift : Gift). gift.arc < length p.arcs) (gifts_beside x.gifts kind) (beside-sound p table x kind are).gifts.exist) is.given.ends;
      are_numbers = is.given.are_numbers;
      value_is = is.given.value_is;
    };
  }
