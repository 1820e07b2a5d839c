-- Under sides that ask alike the same classes are allowed, and gifts are for as many trucks, so a leaf is worth the same.
use Rattle.std.proofs.Common.{◌≡◌, ◌∙◌, ℕ, ◌+◌, Bool, List, [], ◌∷◌, length, take, refl, sym, ap, subst}
use Rattle.std.specs.Prelude.{Option, Some, None, ◌&&◌, nat_eq, nat_le, nat_lt, if◌then◌else◌}
use Rattle.std.specs.List.{AllZip}
use Rattle.fp_base_lists.specs.Numbered.{AllZipFrom}
use Rattle.fp_base_lists.proofs.CountsBelow.{some_below-same}
use Rattle.fp_model.specs.declared.parts.Leg.{Leg}
use Rattle.fp_model.specs.declared.parts.Shipment.{Shipment}
use Rattle.fp_model.specs.Numbered.{shipment_at}
use Rattle.fp_model.specs.Problem.{Problem}
use Rattle.fp_timenodes.specs.Floor.{floor_point}
use Rattle.fp_flatnet.specs.declared.window_tables.Window.{Window}
use Rattle.fp_tree.specs.declared.sides.Side.{Side}
use Rattle.fp_allowed.specs.Allowed.{exit_of, has_moment, is_allowed, is_moment, tails_of}
use Rattle.fp_prices.specs.declared.leaf_prices.Kind.{Kind}
use Rattle.fp_prices.specs.Leaves.{IsChain}
use Rattle.fp_prices.specs.Shares.{ClassShare}
use Rattle.fp_prices_gifts.specs.declared.gifts.Gift.{Gift}
use Rattle.fp_prices_gifts.specs.GiftLeaves.{IsGiftLeafValue}
use Rattle.fp_prices_gifts.specs.GiftNumbers.{gift_number}
use Rattle.fp_prices_spans.specs.declared.ways.TheConstants.{MOST_WAYS}
use Rattle.fp_prices_spans.specs.SpanLeaves.{IsChargeOf, IsSpanLeafEmpty, IsSpanLeafValue, leaf_heads}
use Rattle.fp_prices_spans.specs.SpanPrices.{leaf_span_price}
use Rattle.fp_prices_spans.specs.Spans.{ClassSpan}
use Rattle.fp_prices_spans.specs.Ways.{HasNoWalkVia, IsLeastCostVia, leaf_ways, ways_fit}
use Rattle.fp_checker.specs.LeafWays.{AskAlike}

-- sides ask alike both ways
pub AskAlike-sym : (sides others : List Side) → AskAlike sides others → AskAlike others sides
AskAlike-sym sides others alike = record { legs = λ k e. sym (alike.legs k e); numbers = λ gift. sym (alike.numbers gift); ways = λ k. sym (alike.ways k) }

module _ (p : Problem) (windows : ℕ → ℕ → Option Window) (points : ℕ → List ℕ) (sides others : List Side) (alike : AskAlike sides others) where
  moment-alike : (k : ℕ) (c : Leg) (o : Option Window) → has_moment p points sides k c o ≡ has_moment p points others k c o
  moment-alike k c None = refl
  moment-alike k c (Some w) =
      some_below-same (w.hi + 1) (is_moment p points sides k c w) (is_moment p points others k c w)
      (λ m. ap (λ (b : Bool). nat_eq (floor_point (points (tails_of p c.arc)) 1 m) c.depart && nat_le w.lo m && nat_le m w.hi && b) (alike.legs k (exit_of p (record { arc = c.arc; depart = m }))))

  one-alike : (k : ℕ) (c : Leg) → is_allowed p windows points sides k c ≡ is_allowed p windows points others k c
  one-alike k c = ap (λ (b : Bool). nat_lt c.arc (length p.arcs) && b) (moment-alike k c (windows k c.arc))

  -- the same classes are allowed for each shipment
  pub allowed-alike : is_allowed p windows points sides ≡ is_allowed p windows points others
  allowed-alike = λ i k c. one-alike k c i

  -- and the walks of a leaf go by the same arcs
  ways-alike : (spans : List ClassSpan) (k : ℕ) → leaf_ways p sides spans k ≡ leaf_ways p others spans k
  ways-alike [] k = refl
  ways-alike (span ∷ spans) k = ap (λ (ways : List ℕ). if ways_fit p then take MOST_WAYS ways else []) (alike.ways k)

  pub all_ways-alike : (spans : List ClassSpan) → leaf_ways p sides spans ≡ leaf_ways p others spans
  all_ways-alike spans = λ i k. ways-alike spans k i

  -- so a leaf is empty alike
  pub empty-alike : (spans : List ClassSpan) → IsSpanLeafEmpty p windows points sides spans → IsSpanLeafEmpty p windows points others spans
  empty-alike spans empty = record {
    shipment = empty.shipment;
    exists = empty.exists;
    none = subst (λ (ways : List ℕ). HasNoWalkVia p (leaf_heads p windows points spans empty.shipment) ways (is_allowed p windows points others empty.shipment) (shipment_at p empty.shipment)) (ways-alike spans empty.shipment)
        (subst (λ (allowed : ℕ → Leg → Bool). HasNoWalkVia p (leaf_heads p windows points spans empty.shipment) (leaf_ways p sides spans empty.shipment) (allowed empty.shipment) (shipment_at p empty.shipment)) allowed-alike empty.none);
  }

  -- and has the same value by spans
  pub span_value-alike : (tables : List (List ClassShare)) (spans : List ClassSpan) (kind : Kind) (forced : Bool) (value : ℕ) →
      IsSpanLeafValue p windows points sides tables spans kind forced value → IsSpanLeafValue p windows points others tables spans kind forced value
  span_value-alike tables spans kind forced value is = record {
    chains = is.chains;
    costs = is.costs;
    charges = is.charges;
    are_chains = subst (λ (allowed : ℕ → Leg → Bool). AllZipFrom (λ k. IsChain p (allowed k) forced) 0 p.shipments is.chains) allowed-alike is.are_chains;
    are_least = subst (λ (ways : ℕ → List ℕ). AllZipFrom (λ k (s : Shipment) n. IsLeastCostVia p (leaf_heads p windows points spans k) (ways k) (is_allowed p windows points others k) s (leaf_span_price p tables spans (is_allowed p windows points others) kind is.chains k s.size) n) 0 p.shipments is.costs) (all_ways-alike spans)
        (subst (λ (allowed : ℕ → Leg → Bool). AllZipFrom (λ k (s : Shipment) n. IsLeastCostVia p (leaf_heads p windows points spans k) (leaf_ways p sides spans k) (allowed k) s (leaf_span_price p tables spans allowed kind is.chains k s.size) n) 0 p.shipments is.costs) allowed-alike
        is.are_least);
    are_charges = subst (λ (allowed : ℕ → Leg → Bool). AllZip (IsChargeOf p allowed is.chains) spans is.charges) allowed-alike is.are_charges;
    value_is = is.value_is;
  }

  -- the gifts are for as many trucks
  pub numbers-alike : (gifts : List Gift) (numbers : List ℕ) → AllZip (λ gift n. gift_number sides gift ≡ Some n) gifts numbers → AllZip (λ gift n. gift_number others gift ≡ Some n) gifts numbers
  numbers-alike [] [] are = tt
  numbers-alike [] (n ∷ numbers) are = absurd are
  numbers-alike (gift ∷ gifts) [] are = absurd are
  numbers-alike (gift ∷ gifts) (n ∷ numbers) are = (sym (alike.numbers gift) ∙ are.0, numbers-alike gifts numbers are.1)

  -- so it has the same value with gifts
  pub value-alike : (tables : List (List ClassShare)) (spans : List ClassSpan) (gifts : List Gift) (kind : Kind) (forced : Bool) (value : ℕ) →
      IsGiftLeafValue p windows points sides tables spans gifts kind forced value → IsGiftLeafValue p windows points others tables spans gifts kind forced value
  value-alike tables spans gifts kind forced value is = record {
    before = is.before;
    plain = is.plain;
    by_spans = span_value-alike tables spans kind forced is.before is.by_spans;
    given = record {
      numbers = is.given.numbers;
      ends = is.given.ends;
      are_numbers = numbers-alike gifts is.given.numbers is.given.are_numbers;
      value_is = is.given.value_is;
    };
  }
