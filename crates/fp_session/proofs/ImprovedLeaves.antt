-- What is kept of a leaf whose price was improved.
use Rattle.std.proofs.Common.{◌≡◌, ℕ, ◌*◌, ◌≤◌, Bool, true, false, List, [], length, refl, sym, subst, arith}
use Rattle.std.specs.Prelude.{MatchBool, None}
use Rattle.fp_base_lists.specs.Numbered.{AllZipFrom}
use Rattle.fp_base_lists.proofs.Numbered.{AllZipFrom-weaker}
use Rattle.fp_model.specs.declared.parts.Leg.{Leg}
use Rattle.fp_model.specs.declared.parts.Shipment.{Shipment}
use Rattle.fp_model.specs.Costs.{cost}
use Rattle.fp_model.specs.Problem.{IsValid}
use Rattle.fp_flatnet.specs.Tables.{windows_in}
use Rattle.fp_longestarcs.specs.Networks.{TimedNetwork, points_in}
use Rattle.fp_tree.specs.declared.sides.Side.{Side}
use Rattle.fp_allowed.specs.Allowed.{is_allowed}
use Rattle.fp_allowed.specs.SamePoints.{AgreeOnPoints}
use Rattle.fp_allowed.specs.Walks.{IsTimedWalk}
use Rattle.fp_allowed.proofs.SamePoints.{allowed_walk_same, is_allowed_same}
use Rattle.fp_prices.specs.declared.leaf_prices.Kind.TheVariants.{Even, Linear}
use Rattle.fp_prices.specs.declared.leaf_prices.LeafPrice.{LeafPrice}
use Rattle.fp_prices.specs.Leaves.{IsLeafValue}
use Rattle.fp_prices.specs.Shares.{ClassShare}
use Rattle.fp_prices.proofs.TableAppends.{HasKind-append}
use Rattle.fp_prices_gifts.specs.declared.gifts.Gift.{Gift}
use Rattle.fp_prices_gifts.specs.GiftKinds.{IsPricedValue}
use Rattle.fp_prices_spans.specs.SpanKinds.{spans_beside}
use Rattle.fp_prices_spans.specs.SpanLeaves.{IsSpanLeafEmpty}
use Rattle.fp_prices_spans.specs.Spans.{ClassSpan}
use Rattle.fp_duals.specs.Improvements.{IsReachedChain}
use Rattle.fp_session_history.specs.Notes.{History, last_round, points_of, with_tables}
use Rattle.fp_session_history.specs.PrintedLeaves.{IsEmptyAt}
use Rattle.fp_session_history.proofs.SamePoints.{EachValue_same, IsSpanLeafEmpty_same}
use Rattle.fp_session_history.proofs.Stays.{IsEarnedAt-with_tables, IsEmptyAt-with_tables}
use Rattle.fp_session.specs.declared.kept.Kept.{Kept}
use Rattle.fp_session.specs.declared.payloads.Payload.{Payload}
use Rattle.fp_certificate_lines.specs.declared.certificates.Valuation.{Valuation}
use Rattle.fp_session.specs.Nodes.{IsEarnedAs, IsKept, IsValuedUnder}
use Rattle.fp_session.specs.Outcomes.{IsAtLeastStarts, IsFound}
use Rattle.fp_duals_leaves.specs.Prices.{ArePrices, PriceLists}
use Rattle.fp_duals_leaves.specs.Pricing.{IsEmptyFound, IsPriceFound}
use Rattle.fp_session.proofs.SameValues.{priced_value-same}

-- what is kept of a leaf stays true with more prices
pub IsKept-with_tables : (h : History) (more : List (List ClassShare)) (spans : List (List ClassSpan)) (gifts : List (List Gift)) (sides : List Side) (payload : Payload) (value : ℕ) → length h.spans ≡ length h.tables → length h.gifts ≡ length h.tables →
    IsKept h sides payload value → IsKept (with_tables h more spans gifts) sides payload value
IsKept-with_tables h more spans gifts sides payload value beside given kept = record {
  price = record { round = kept.price.round; kind = HasKind-append h.tables more payload.valuation.price.kind kept.price.kind };
  under = record { few = kept.under.few; whole = kept.under.whole };
  worth = by_mark payload.empty kept.worth;
}
  where
    by_mark : (b : Bool) → MatchBool b (IsEmptyAt h sides payload.valuation) (IsEarnedAs h sides payload.valuation value) →
        MatchBool b (IsEmptyAt (with_tables h more spans gifts) sides payload.valuation) (IsEarnedAs (with_tables h more spans gifts) sides payload.valuation value)
    by_mark true is = IsEmptyAt-with_tables h more spans gifts sides payload.valuation beside kept.price.kind is
    by_mark false is = record { earned = IsEarnedAt-with_tables h more spans gifts sides payload.valuation beside given kept.price.kind is.earned; is = is.is }

-- the prices of a search
abbrev pub prices_of : History → PriceLists
prices_of h = record { tables = h.tables; spans = h.spans; gifts = h.gifts; unit = h.unit }

-- a price, under all sides of a leaf
abbrev pub whole_price : LeafPrice → Valuation
whole_price price = record { price = price; sides = None }

under-all : (h : History) (sides : List Side) (price : LeafPrice) → IsValuedUnder h sides (whole_price price)
under-all h sides price = record { few = tt; whole = λ none. refl }

-- a leaf whose price was improved as of a round that there was is earned by the price
pub kept-as-of : (h : History) (net : TimedNetwork) (sides : List Side) (valid : IsValid h.problem) → ArePrices h.problem h.windows (prices_of h) → (round : ℕ) → round ≤ last_round h → AgreeOnPoints h.problem (points_in net) (points_of h round) →
    (price : LeafPrice) (value : ℕ) (walks : List (List Leg)) →
    IsPriceFound h.problem (windows_in h.windows) (points_in net) sides (prices_of h) round (record { price = price; value = value }) walks → (incumbent : ℕ) →
    IsKept h sides (record { valuation = whole_price price; empty = false; incumbent = incumbent; improved = None }) value
kept-as-of h net sides valid are round had same price value walks is incumbent = record {
  price = record { round = omega (arith, had, is.worth.of_round); kind = is.worth.kind };
  under = under-all h sides price;
  worth = record {
    earned = record {
      value = value;
      is = at (λ points. IsPricedValue h.problem (windows_in h.windows) points sides h.tables h.spans h.gifts price.kind price.forced value)
          (priced_value-same h.problem valid (points_in net) (points_of h round) same h.windows sides (prices_of h) are price.kind price.forced value is.worth.is);
      linear = linear;
      even = even;
      linear_under = linear;
      even_under = even;
    };
    is = refl;
  };
}
  where
    at : (P : (ℕ → List ℕ) → Type 0) → P (points_of h round) → P (points_of h price.round)
    at P = subst (λ (r : ℕ). P (points_of h r)) (sym is.worth.of_round)

    linear : (f : Bool) (other : ℕ) → IsLeafValue h.problem (windows_in h.windows) (points_of h price.round) sides [] Linear f other → other ≤ value
    linear =
        at (λ points. (f : Bool) (other : ℕ) → IsLeafValue h.problem (windows_in h.windows) points sides [] Linear f other → other ≤ value)
        (EachValue_same h.problem valid (windows_in h.windows) (points_in net) (points_of h round) same sides [] Linear value is.linear)

    even : (f : Bool) (other : ℕ) → IsLeafValue h.problem (windows_in h.windows) (points_of h price.round) sides [] Even f other → other ≤ value
    even =
        at (λ points. (f : Bool) (other : ℕ) → IsLeafValue h.problem (windows_in h.windows) points sides [] Even f other → other ≤ value)
        (EachValue_same h.problem valid (windows_in h.windows) (points_in net) (points_of h round) same sides [] Even value is.even)

-- and one that is empty as of such a round is kept as empty
pub empty-as-of : (h : History) (net : TimedNetwork) (sides : List Side) (valid : IsValid h.problem) (round : ℕ) → round ≤ last_round h → AgreeOnPoints h.problem (points_in net) (points_of h round) →
    (price : LeafPrice) (incumbent value : ℕ) → IsEmptyFound h.problem (windows_in h.windows) (points_in net) sides (prices_of h) round price →
    IsKept h sides (record { valuation = whole_price price; empty = true; incumbent = incumbent; improved = None }) value
empty-as-of h net sides valid round had same price incumbent value found = record {
  price = record { round = omega (arith, had, found.of_round); kind = found.kind };
  under = under-all h sides price;
  worth = record {
    empty = subst (λ (n : ℕ). IsSpanLeafEmpty h.problem (windows_in h.windows) (points_of h n) sides (spans_beside h.spans price.kind)) (sym found.of_round)
        (IsSpanLeafEmpty_same h.problem valid (windows_in h.windows) (points_in net) (points_of h round) same sides (spans_beside h.spans price.kind) found.is);
    whole = refl;
  };
}

module _ (h : History) (net : TimedNetwork) (sides : List Side) (valid : IsValid h.problem) (same : AgreeOnPoints h.problem (points_in net) (points_of h (last_round h))) where
  -- an empty leaf is kept as one
  pub kept-empty : (price : LeafPrice) (incumbent value : ℕ) → IsEmptyFound h.problem (windows_in h.windows) (points_in net) sides (prices_of h) (last_round h) price →
      IsKept h sides (record { valuation = whole_price price; empty = true; incumbent = incumbent; improved = None }) value
  kept-empty price incumbent value found = empty-as-of h net sides valid (last_round h) (omega arith) same price incumbent value found

  module _ (price : LeafPrice) (value : ℕ) (walks : List (List Leg))
      (is : IsPriceFound h.problem (windows_in h.windows) (points_in net) sides (prices_of h) (last_round h) (record { price = price; value = value }) walks) where
    -- the value is at least those by linear and by even prices
    pub starts-priced : IsAtLeastStarts h sides value
    starts-priced = record {
      linear = EachValue_same h.problem valid (windows_in h.windows) (points_in net) (points_of h (last_round h)) same sides [] Linear value is.linear;
      even = EachValue_same h.problem valid (windows_in h.windows) (points_in net) (points_of h (last_round h)) same sides [] Even value is.even;
    }

    -- the leaf is earned by the price
    pub kept-priced : ArePrices h.problem h.windows (prices_of h) → (incumbent : ℕ) → IsKept h sides (record { valuation = whole_price price; empty = false; incumbent = incumbent; improved = None }) value
    kept-priced are incumbent = kept-as-of h net sides valid are (last_round h) (omega arith) same price value walks is incumbent

    -- and this is found of it, whichever price is kept that has no less value
    pub found-priced : (kept : Kept) → IsKept h sides kept.payload kept.value → kept.payload.empty ≡ false → value ≤ kept.value → IsFound h sides kept walks
    found-priced kept is_kept some no_less = record {
      kept = is_kept;
      some = some;
      starts = record {
        linear = λ f other v. omega (arith, starts-priced.linear f other v, no_less);
        even = λ f other v. omega (arith, starts-priced.even f other v, no_less);
      };
      walks = AllZipFrom-weaker
          (λ k (s : Shipment) walk. IsTimedWalk h.problem (points_in net) (is_allowed h.problem (windows_in h.windows) (points_in net) sides k) s walk)
          (λ k (s : Shipment) walk. IsTimedWalk h.problem (points_of h (last_round h)) (is_allowed h.problem (windows_in h.windows) (points_of h (last_round h)) sides k) s walk)
          (λ k s walk timed. allowed_walk_same h.problem valid (points_in net) (points_of h (last_round h)) same (windows_in h.windows) sides k s walk timed) 0 h.problem.shipments walks is.walks;
      reached = λ chains all.
          let most : h.problem.scale * cost h.problem chains ≤ value =
          is.reached chains
          (subst (λ (allowed : ℕ → Leg → Bool). AllZipFrom (λ k. IsReachedChain h.problem (allowed k)) 0 h.problem.shipments chains)
          (sym (is_allowed_same h.problem valid (points_in net) (points_of h (last_round h)) same (windows_in h.windows) sides)) all) in
          omega (arith, most, no_less);
    }
