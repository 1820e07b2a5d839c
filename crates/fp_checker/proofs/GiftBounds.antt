-- The bounds of leaves over other lists of the same points, and without spans and gifts.
use Rattle.std.proofs.Common.{◌≡◌, ◌∙◌, ℕ, ◌<◌, true, Bool, List, [], ◌∷◌, length, ⊎_elim, inl, inr, sym, subst}
use Rattle.std.specs.Prelude.{None, Option, Some}
use Rattle.std.specs.List.{AllByRecursion}
use Rattle.std.proofs.lemmas.List.Elements.{All-get_or}
use Rattle.fp_base_lists.specs.Membership.{list_has}
use Rattle.fp_model.specs.declared.parts.Shipment.{Shipment}
use Rattle.fp_model.specs.Problem.{IsArc, IsValid, Problem, no_arc}
use Rattle.fp_flatnet.specs.declared.window_tables.Window.{Window}
use Rattle.fp_tree.specs.declared.sides.Side.{Side}
use Rattle.fp_allowed.specs.Allowed.{tails_of}
use Rattle.fp_allowed.specs.SamePoints.{AgreeOnPoints}
use Rattle.fp_allowed.proofs.SamePoints.{AgreeOnPoints_sym}
use Rattle.fp_prices.specs.declared.leaf_prices.Kind.{Kind}
use Rattle.fp_prices.specs.declared.values.bounds.LeafBound.{LeafBound}
use Rattle.fp_prices.specs.declared.values.bounds.LeafBound.TheVariants.{Empty, Value}
use Rattle.fp_prices.specs.Leaves.{IsBoundOf}
use Rattle.fp_prices.specs.Shares.{ClassShare}
use Rattle.fp_prices_gifts.specs.declared.gifts.Gift.{Gift}
use Rattle.fp_prices_gifts.specs.GiftLeaves.{EndsAtPoints, IsGiftBound, IsGiftBoundOf}
use Rattle.fp_prices_gifts.proofs.OneGiftValue.{values-without-gifts}
use Rattle.fp_prices_spans.specs.Spans.{ClassSpan}
use Rattle.fp_prices_spans.proofs.SameSpanValues.{span_bound-same, span_value-same}
use Rattle.fp_prices_spans.proofs.SpanlessValues.{spanless-values}

-- where runs end at points, they end at the same points in other lists
pub ends-same : (p : Problem) (points others : ℕ → List ℕ) (gifts : List Gift) → IsValid p → AgreeOnPoints p points others → AllByRecursion (λ (gift : Gift). gift.arc < length p.arcs) gifts →
    AllByRecursion (EndsAtPoints p points) gifts → AllByRecursion (EndsAtPoints p others) gifts
ends-same p points others [] valid same exist ends = tt
ends-same p points others (gift ∷ gifts) valid same exist ends =
    let tail : tails_of p gift.arc < length p.terminals = (All-get_or (IsArc (length p.terminals)) p.arcs gift.arc no_arc exist.0 valid.parts.arcs).from in (
      record {
        point = sym (same (tails_of p gift.arc) tail gift.point) ∙ ends.0.point;
        until = ⊎_elim
            (λ (there : list_has (points (tails_of p gift.arc)) gift.until ≡ true). inl (sym (same (tails_of p gift.arc) tail gift.until) ∙ there))
            (λ (late : AllByRecursion (λ (s : Shipment). s.due < gift.until) p.shipments). inr late) ends.0.until;
      },
      ends-same p points others gifts valid same exist.1 ends.1,
    )

module _ (p : Problem) (windows : ℕ → ℕ → Option Window) (sides : List Side) (tables : List (List ClassShare)) (kind : Kind) (forced : Bool) where
  module _ (valid : IsValid p) (spans : List ClassSpan) (gifts : List Gift) (exist : AllByRecursion (λ (gift : Gift). gift.arc < length p.arcs) gifts) where
    pub gift_bound_of-same : (points others : ℕ → List ℕ) → AgreeOnPoints p points others → (b : LeafBound) → IsGiftBoundOf p windows points sides tables spans gifts kind forced b →
        IsGiftBoundOf p windows others sides tables spans gifts kind forced b
    gift_bound_of-same points others same (Empty shipment) is = span_bound-same p valid windows points others same sides tables spans kind forced (Empty shipment) is
    gift_bound_of-same points others same (Value value) is = record {
      before = is.before;
      plain = is.plain;
      by_spans = span_value-same p valid windows points others same sides tables spans kind forced is.before is.by_spans;
      given = record {
        numbers = is.given.numbers;
        ends = ends-same p points others gifts valid same exist is.given.ends;
        are_numbers = is.given.are_numbers;
        value_is = is.given.value_is;
      };
    }

    -- a bound, or none, over other lists of the same points
    pub gift_bound-same : (points others : ℕ → List ℕ) → AgreeOnPoints p points others → (found : Option LeafBound) → IsGiftBound p windows points sides tables spans gifts kind forced found →
        IsGiftBound p windows others sides tables spans gifts kind forced found
    gift_bound-same points others same None none = λ b is. none b (gift_bound_of-same others points (AgreeOnPoints_sym p points others same) b is)
    gift_bound-same points others same (Some b) is = gift_bound_of-same points others same b is

  -- without spans and gifts the bound is that by the tables
  bare-bound : (points : ℕ → List ℕ) (b : LeafBound) → IsBoundOf p windows points sides tables kind forced b → IsGiftBoundOf p windows points sides tables [] [] kind forced b
  bare-bound points (Empty shipment) is = record {
    exists = is.exists;
    none = λ walk via. is.none walk via.by_heads;
    before = λ j below none. is.before j below (λ walk goes. none walk (record { by_heads = goes; goes_by = tt }));
  }
  bare-bound points (Value value) is =
      (values-without-gifts p windows points sides tables [] kind forced value).1 ((spanless-values p windows points sides tables kind forced value).1 is)

  -- so it is where both lists are found to be empty
  pub unspanned-bound : (points : ℕ → List ℕ) (spans : List ClassSpan) (gifts : List Gift) (b : LeafBound) → spans ≡ [] → gifts ≡ [] → IsBoundOf p windows points sides tables kind forced b →
      IsGiftBound p windows points sides tables spans gifts kind forced (Some b)
  unspanned-bound points spans gifts b no_spans no_gifts is =
      subst (λ (s : List ClassSpan). IsGiftBoundOf p windows points sides tables s gifts kind forced b) (sym no_spans)
      (subst (λ (g : List Gift). IsGiftBoundOf p windows points sides tables [] g kind forced b) (sym no_gifts) (bare-bound points b is))
