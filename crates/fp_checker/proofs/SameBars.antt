-- Under sides that ask alike the same classes are barred.
use Rattle.std.proofs.Common.{◌≡◌, ℕ, ◌≤◌, true, Bool, List, ⊎_elim, inl, inr, subst}
use Rattle.std.specs.Prelude.{MatchBool, Option, nat_eq}
use Rattle.std.specs.Int.{div_ceil}
use Rattle.std.specs.List.{AllZip}
use Rattle.fp_base_lists.specs.Numbered.{AllZipFrom}
use Rattle.fp_model.specs.declared.parts.Leg.{Leg}
use Rattle.fp_model.specs.declared.parts.Shipment.{Shipment}
use Rattle.fp_model.specs.Numbered.{shipment_at}
use Rattle.fp_model.specs.Problem.{Problem}
use Rattle.fp_flatnet.specs.declared.window_tables.Window.{Window}
use Rattle.fp_flatnet.specs.Tables.{windows_in}
use Rattle.fp_tree.specs.declared.sides.Side.{Side}
use Rattle.fp_allowed.specs.Allowed.{is_allowed}
use Rattle.fp_prices.specs.declared.leaf_prices.Kind.{Kind}
use Rattle.fp_prices.specs.Leaves.{IsChain}
use Rattle.fp_prices.specs.Shares.{ClassShare}
use Rattle.fp_prices_gifts.specs.declared.gifts.Gift.{Gift}
use Rattle.fp_prices_gifts.specs.GiftBars.{IsGiftBarred, IsGiftValueThrough, IsMomentBarred}
use Rattle.fp_prices_spans.specs.PaidLeaves.{ChargedPay}
use Rattle.fp_prices_spans.specs.SpanBars.{HasNoWalkThrough, IsLeastCostThrough, IsSpanValueThrough}
use Rattle.fp_prices_spans.specs.SpanLeaves.{IsChargeOf, leaf_heads}
use Rattle.fp_prices_spans.specs.SpanPrices.{leaf_span_price}
use Rattle.fp_prices_spans.specs.Spans.{ClassSpan}
use Rattle.fp_prices_spans.specs.Ways.{IsLeastCostVia, leaf_ways}
use Rattle.fp_checker.specs.LeafWays.{AskAlike}
use Rattle.fp_checker.proofs.ChargedChains.{charged-chains}
use Rattle.fp_checker.proofs.SameMoments.{rows-alike}
use Rattle.fp_checker.proofs.SameSides.{all_ways-alike, allowed-alike, numbers-alike, value-alike}

module _ (p : Problem) (tables : List (List ClassShare)) (spans : List ClassSpan) (gifts : List Gift) (kind : Kind) (forced : Bool) (k : ℕ) (class : Leg) (sides others : List Side) (alike : AskAlike sides others) where
  module _ (windows : ℕ → ℕ → Option Window) (points : ℕ → List ℕ) where
    -- the costs of shipments, where one is made to go by a class
    abbrev AreLeast : (ways : ℕ → List ℕ) (allowed : ℕ → Leg → Bool) (chains : List (List Leg)) (costs : List ℕ) → Type 0
    AreLeast ways allowed chains costs =
        AllZipFrom
        (λ j (s : Shipment) n. MatchBool (nat_eq j k)
        (IsLeastCostThrough p (leaf_heads p windows points spans j) (allowed j) s (leaf_span_price p tables spans allowed kind chains j s.size) class n)
        (IsLeastCostVia p (leaf_heads p windows points spans j) (ways j) (allowed j) s (leaf_span_price p tables spans allowed kind chains j s.size) n))
        0 p.shipments costs

    -- a leaf has the same value where a shipment is made to go by a class
    through-alike : (value : ℕ) → IsSpanValueThrough p windows points sides tables spans kind forced k class value → IsSpanValueThrough p windows points others tables spans kind forced k class value
    through-alike value is =
        let same = allowed-alike p windows points sides others alike in
        record {
          chains = is.chains;
          costs = is.costs;
          charges = is.charges;
          are_chains = subst (λ (allowed : ℕ → Leg → Bool). AllZipFrom (λ j. IsChain p (allowed j) forced) 0 p.shipments is.chains) same is.are_chains;
          are_least = subst (λ (ways : ℕ → List ℕ). AreLeast ways (is_allowed p windows points others) is.chains is.costs) (all_ways-alike p windows points sides others alike spans)
              (subst (λ (allowed : ℕ → Leg → Bool). AreLeast (leaf_ways p sides spans) allowed is.chains is.costs) same is.are_least);
          are_charges = subst (λ (allowed : ℕ → Leg → Bool). AllZip (IsChargeOf p allowed is.chains) spans is.charges) same is.are_charges;
          value_is = is.value_is;
        }

    gift_through-alike : (value : ℕ) → IsGiftValueThrough p windows points sides tables spans gifts kind forced k class value → IsGiftValueThrough p windows points others tables spans gifts kind forced k class value
    gift_through-alike value is = record {
      before = is.before;
      plain = is.plain;
      by_spans = through-alike is.before is.by_spans;
      given = record {
        numbers = is.given.numbers;
        ends = is.given.ends;
        are_numbers = numbers-alike p windows points sides others alike gifts is.given.numbers is.given.are_numbers;
        value_is = is.given.value_is;
      };
    }

    -- so the class is barred alike
    pub gift_barred-alike : (money : ℕ) → IsGiftBarred p windows points sides tables spans gifts kind forced money k class → IsGiftBarred p windows points others tables spans gifts kind forced money k class
    gift_barred-alike money is =
        let same = allowed-alike p windows points sides others alike in
        record {
          fits = is.fits;
          exists = is.exists;
          allows = subst (λ (allowed : ℕ → Leg → Bool). allowed k class ≡ true) same is.allows;
          value = is.value;
          leaf = value-alike p windows points sides others alike tables spans gifts kind forced is.value is.leaf;
          why = ⊎_elim
              (λ (none : HasNoWalkThrough p (leaf_heads p windows points spans k) (is_allowed p windows points sides k) (shipment_at p k) class).
              inl (subst (λ (allowed : ℕ → Leg → Bool). HasNoWalkThrough p (leaf_heads p windows points spans k) (allowed k) (shipment_at p k) class) same none))
              (λ (worth : (through : ℕ) × IsGiftValueThrough p windows points sides tables spans gifts kind forced k class through × (money ≤ div_ceil through p.scale)).
              inr (worth.0, gift_through-alike worth.0 worth.1, worth.2))
              is.why;
        }

  -- also by moments
  pub moment_barred-alike : (windows : ℕ → ℕ → Option Window) (points : ℕ → List ℕ) (money : ℕ) → IsMomentBarred p windows points sides tables spans gifts kind forced money k class →
      IsMomentBarred p windows points others tables spans gifts kind forced money k class
  moment_barred-alike windows points money is =
      let over : ℕ → ℕ → Option Window = windows_in is.narrower in
      let same = allowed-alike p over points sides others alike in
      let old : List (List Leg) = is.barred.leaf.by_spans.chains in
      let barred : IsGiftBarred p over points others tables spans gifts kind forced money k class = gift_barred-alike over points money is.barred in
      record {
        narrower = is.narrower;
        under = rows-alike p windows sides others alike is.narrower.rows is.under;
        barred = barred;
        paid = charged-chains p over points (is_allowed p over points others) forced spans old barred.leaf.by_spans.chains
            (subst (λ (allowed : ℕ → Leg → Bool). AllZipFrom (λ j. IsChain p (allowed j) forced) 0 p.shipments old) same is.barred.leaf.by_spans.are_chains) barred.leaf.by_spans.are_chains
            (subst (λ (allowed : ℕ → Leg → Bool). ChargedPay p over points allowed old spans) same is.paid);
      }
