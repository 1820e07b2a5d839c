-- Over other lists of the same points the same classes are barred.
use Rattle.std.proofs.Common.{◌≡◌, ℕ, ◌<◌, ◌≤◌, Bool, true, false, List, length, ⊎_elim, inl, inr, subst}
use Rattle.std.specs.Prelude.{All, MatchBool, Option, nat_eq}
use Rattle.std.specs.Int.{div_ceil}
use Rattle.std.specs.List.{AllByRecursion, AllZip}
use Rattle.fp_base_lists.specs.Numbered.{AllZipFrom}
use Rattle.fp_base_lists.proofs.Numbered.{AllZipFrom-weaker}
use Rattle.fp_model.specs.declared.parts.Leg.{Leg}
use Rattle.fp_model.specs.declared.parts.Shipment.{Shipment}
use Rattle.fp_model.specs.Numbered.{shipment_at}
use Rattle.fp_model.specs.Problem.{IsValid, Problem}
use Rattle.fp_flatnet.specs.declared.window_tables.Window.{Window}
use Rattle.fp_flatnet.specs.Tables.{windows_in}
use Rattle.fp_tree.specs.declared.sides.Side.{Side}
use Rattle.fp_allowed.specs.Allowed.{is_allowed}
use Rattle.fp_allowed.specs.SamePoints.{AgreeOnPoints}
use Rattle.fp_allowed.proofs.SamePoints.{AgreeOnPoints_sym, is_allowed_same}
use Rattle.fp_prices.specs.declared.leaf_prices.Kind.{Kind}
use Rattle.fp_prices.specs.declared.values.bounds.LeafBound.TheVariants.{Value}
use Rattle.fp_prices.specs.Leaves.{IsChain}
use Rattle.fp_prices.specs.Shares.{ClassShare}
use Rattle.fp_prices_gifts.specs.declared.gifts.Gift.{Gift}
use Rattle.fp_prices_gifts.specs.GiftBars.{IsGiftBarred, IsGiftValueThrough, IsMomentBarred}
use Rattle.fp_prices_spans.specs.SpanBars.{HasNoWalkThrough, IsLeastCostThrough, IsSpanValueThrough}
use Rattle.fp_prices_spans.specs.SpanLeaves.{IsChargeOf, leaf_heads}
use Rattle.fp_prices_spans.specs.SpanLists.{IsSpanOf}
use Rattle.fp_prices_spans.specs.SpanPrices.{leaf_span_price}
use Rattle.fp_prices_spans.specs.Spans.{ClassSpan}
use Rattle.fp_prices_spans.specs.Ways.{IsLeastCostVia, leaf_ways}
use Rattle.fp_prices_spans.proofs.LeafHeads.{leaf_walk-same}
use Rattle.fp_prices_spans.proofs.LeafWays.{leaf_via-same}
use Rattle.fp_checker.proofs.ChargedChains.{charged-chains}
use Rattle.fp_checker.proofs.GiftBounds.{ends-same, gift_bound_of-same}
use Rattle.fp_checker.proofs.MomentBounds.{charged-same}

module _ (p : Problem) (valid : IsValid p) (points others : ℕ → List ℕ) (same : AgreeOnPoints p points others) (sides : List Side) (tables : List (List ClassShare)) (spans : List ClassSpan) (kind : Kind) (forced : Bool) (k : ℕ) (class : Leg) where
  module _ (windows : ℕ → ℕ → Option Window) where
    -- no walk there has a class that none has here
    none-same : HasNoWalkThrough p (leaf_heads p windows points spans k) (is_allowed p windows points sides k) (shipment_at p k) class →
        HasNoWalkThrough p (leaf_heads p windows others spans k) (is_allowed p windows others sides k) (shipment_at p k) class
    none-same none = λ walk is has. none walk (leaf_walk-same p valid others points (AgreeOnPoints_sym p points others same) windows sides spans k (shipment_at p k) walk is) has

    -- the walks that have a class cost the same
    least_through-same : (j : ℕ) (s : Shipment) (price : Leg → ℕ) (n : ℕ) → IsLeastCostThrough p (leaf_heads p windows points spans j) (is_allowed p windows points sides j) s price class n →
        IsLeastCostThrough p (leaf_heads p windows others spans j) (is_allowed p windows others sides j) s price class n
    least_through-same j s price n least = record {
      walk = least.walk;
      is = leaf_walk-same p valid points others same windows sides spans j s least.walk least.is;
      has = least.has;
      cost = least.cost;
      least = λ other is has. least.least other (leaf_walk-same p valid others points (AgreeOnPoints_sym p points others same) windows sides spans j s other is) has;
    }

    -- and so do all
    least_via-same : (j : ℕ) (s : Shipment) (price : Leg → ℕ) (n : ℕ) → IsLeastCostVia p (leaf_heads p windows points spans j) (leaf_ways p sides spans j) (is_allowed p windows points sides j) s price n →
        IsLeastCostVia p (leaf_heads p windows others spans j) (leaf_ways p sides spans j) (is_allowed p windows others sides j) s price n
    least_via-same j s price n least = record {
      walk = least.walk;
      is = leaf_via-same p valid points others same windows sides spans j s least.walk least.is;
      cost = least.cost;
      least = λ other is. least.least other (leaf_via-same p valid others points (AgreeOnPoints_sym p points others same) windows sides spans j s other is);
    }

    -- what a shipment costs, where one is made to go by a class
    abbrev IsLeast : (over : ℕ → List ℕ) (allowed : ℕ → Leg → Bool) (chains : List (List Leg)) (own : Bool) (j : ℕ) → Shipment → ℕ → Type 0
    IsLeast over allowed chains own j s n =
        MatchBool own
        (IsLeastCostThrough p (leaf_heads p windows over spans j) (is_allowed p windows over sides j) s (leaf_span_price p tables spans allowed kind chains j s.size) class n)
        (IsLeastCostVia p (leaf_heads p windows over spans j) (leaf_ways p sides spans j) (is_allowed p windows over sides j) s (leaf_span_price p tables spans allowed kind chains j s.size) n)

    cost-same : (allowed : ℕ → Leg → Bool) (chains : List (List Leg)) (own : Bool) (j : ℕ) (s : Shipment) (n : ℕ) → IsLeast points allowed chains own j s n → IsLeast others allowed chains own j s n
    cost-same allowed chains true j s n least = least_through-same j s (leaf_span_price p tables spans allowed kind chains j s.size) n least
    cost-same allowed chains false j s n least = least_via-same j s (leaf_span_price p tables spans allowed kind chains j s.size) n least

    -- so a leaf has the same value where a shipment is made to go by a class
    through-same : (value : ℕ) → IsSpanValueThrough p windows points sides tables spans kind forced k class value → IsSpanValueThrough p windows others sides tables spans kind forced k class value
    through-same value is =
        let e = is_allowed_same p valid points others same windows sides in
        let old : ℕ → Leg → Bool = is_allowed p windows points sides in
        record {
          chains = is.chains;
          costs = is.costs;
          charges = is.charges;
          are_chains = subst (λ (allowed : ℕ → Leg → Bool). AllZipFrom (λ j. IsChain p (allowed j) forced) 0 p.shipments is.chains) e is.are_chains;
          are_least = subst (λ (allowed : ℕ → Leg → Bool). AllZipFrom (λ j (s : Shipment) n. IsLeast others allowed is.chains (nat_eq j k) j s n) 0 p.shipments is.costs) e
              (AllZipFrom-weaker (λ j (s : Shipment) n. IsLeast points old is.chains (nat_eq j k) j s n) (λ j (s : Shipment) n. IsLeast others old is.chains (nat_eq j k) j s n)
              (λ j s n. cost-same old is.chains (nat_eq j k) j s n) 0 p.shipments is.costs is.are_least);
          are_charges = subst (λ (allowed : ℕ → Leg → Bool). AllZip (IsChargeOf p allowed is.chains) spans is.charges) e is.are_charges;
          value_is = is.value_is;
        }

  module _ (gifts : List Gift) (exist : AllByRecursion (λ (gift : Gift). gift.arc < length p.arcs) gifts) where
    gift_through-same : (windows : ℕ → ℕ → Option Window) (value : ℕ) → IsGiftValueThrough p windows points sides tables spans gifts kind forced k class value →
        IsGiftValueThrough p windows others sides tables spans gifts kind forced k class value
    gift_through-same windows value is = record {
      before = is.before;
      plain = is.plain;
      by_spans = through-same windows is.before is.by_spans;
      given = record {
        numbers = is.given.numbers;
        ends = ends-same p points others gifts valid same exist is.given.ends;
        are_numbers = is.given.are_numbers;
        value_is = is.given.value_is;
      };
    }

    -- and the class is barred alike
    pub gift_barred-same : (windows : ℕ → ℕ → Option Window) (money : ℕ) → IsGiftBarred p windows points sides tables spans gifts kind forced money k class →
        IsGiftBarred p windows others sides tables spans gifts kind forced money k class
    gift_barred-same windows money is = record {
      fits = is.fits;
      exists = is.exists;
      allows = subst (λ (allowed : ℕ → Leg → Bool). allowed k class ≡ true) (is_allowed_same p valid points others same windows sides) is.allows;
      value = is.value;
      leaf = gift_bound_of-same p windows sides tables kind forced valid spans gifts exist points others same (Value is.value) is.leaf;
      why = ⊎_elim
          (λ (none : HasNoWalkThrough p (leaf_heads p windows points spans k) (is_allowed p windows points sides k) (shipment_at p k) class). inl (none-same windows none))
          (λ (worth : (through : ℕ) × IsGiftValueThrough p windows points sides tables spans gifts kind forced k class through × (money ≤ div_ceil through p.scale)).
          inr (worth.0, gift_through-same windows worth.0 worth.1, worth.2))
          is.why;
    }

    -- also by moments
    pub moment_barred-same : (windows : ℕ → ℕ → Option Window) (money : ℕ) → All (IsSpanOf p) spans → IsMomentBarred p windows points sides tables spans gifts kind forced money k class →
        IsMomentBarred p windows others sides tables spans gifts kind forced money k class
    moment_barred-same windows money of is =
        let over : ℕ → ℕ → Option Window = windows_in is.narrower in
        let old : List (List Leg) = is.barred.leaf.by_spans.chains in
        let barred : IsGiftBarred p over others sides tables spans gifts kind forced money k class = gift_barred-same over money is.barred in
        record {
          narrower = is.narrower;
          under = is.under;
          barred = barred;
          paid = charged-chains p over others (is_allowed p over others sides) forced spans old barred.leaf.by_spans.chains
              (subst (λ (allowed : ℕ → Leg → Bool). AllZipFrom (λ j. IsChain p (allowed j) forced) 0 p.shipments old) (is_allowed_same p valid points others same over sides) is.barred.leaf.by_spans.are_chains)
              barred.leaf.by_spans.are_chains (charged-same p valid sides points others same over old spans of is.paid);
        }
