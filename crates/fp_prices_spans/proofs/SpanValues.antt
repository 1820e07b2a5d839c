-- The value of a leaf by spans, shipment by shipment.
use Rattle.std.proofs.Common.{◌≡◌, ℕ, suc, ◌+◌, ◌*◌, ◌^◌, ◌<◌, ◌≤◌, List, [], ◌∷◌, ◌++◌, length, get_or, take, sym, ap, subst, arith}
use Rattle.std.specs.Prelude.{None, Some, sum_by}
use Rattle.std.proofs.lemmas.List.{get_or-take, length-take, take_all, take_more}
use Rattle.std.proofs.lemmas.List.Sums.{sum_by-append, sum_by-cons, sum_by_more, sum_by-take-le}
use Rattle.fp_base_lists.specs.Numbered.{AllZipFrom}
use Rattle.fp_base_lists.proofs.Numbered.{AllZipFrom-get_or, AllZipFrom-push}
use Rattle.fp_model.specs.declared.parts.Leg.{Leg}
use Rattle.fp_model.specs.declared.parts.Shipment.{Shipment}
use Rattle.fp_model.specs.Numbered.{no_shipment, shipment_at}
use Rattle.fp_model.specs.Problem.{IsValid, Problem, alone_cost, alone_total}
use Rattle.fp_prices.specs.LeafPricings.{AreChainsOf, PricingModel, allowed_at}
use Rattle.fp_prices.specs.declared.values.bounds.LeafBound.TheVariants.{Value}
use Rattle.fp_prices_spans.specs.SpanCosts.{HasChains, IsLeastBySpans, IsSmallBySpans, IsValueBySpans, heads_at, most_layers, own_weights, ways_at}
use Rattle.fp_prices_spans.specs.SpanLeaves.{IsSmallSpanBound}
use Rattle.fp_prices_spans.specs.SpanLists.{weight_total}
use Rattle.fp_prices_spans.specs.SpanPrices.{leaf_span_price}
use Rattle.fp_prices_spans.specs.Spans.{ClassSpan}
use Rattle.fp_prices_spans.specs.Ways.{IsFirstWithoutVia, IsLeastCostVia, IsWalkVia}
use Rattle.fp_prices_spans.proofs.SpanCosts.{sums-fit}
use Rattle.fp_prices_spans.proofs.WeightTotals.{below-le, weights_below}

module _ (m : PricingModel) (spans : List ClassSpan) (bases : ℕ) where
  abbrev own : Problem
  own = m.leaf.setting.problem

  -- a number is the least cost of a shipment by spans
  abbrev IsLeast : List (List Leg) → ℕ → Shipment → ℕ → Type 0
  IsLeast chains k s n =
      IsLeastCostVia own (heads_at m.leaf spans k) (ways_at m.leaf spans k) (allowed_at m.leaf k) s (leaf_span_price own m.tables spans (allowed_at m.leaf) m.kind chains k s.size) n

  -- the value is the bases and the least costs of the shipments so far, and small
  pub record AreLeastSoFar (i value : ℕ) : Type 0 where
    pub costs : List ℕ
    pub least : (chains : List (List Leg)) → AreChainsOf m.leaf m.forced chains → AllZipFrom (IsLeast chains) 0 (take i own.shipments) costs
    pub small : sum_by (λ (n : ℕ). n) costs ≤ most_layers own * (65536 * (own.scale * alone_total own.arcs (take i own.shipments) + weights_below spans i))
    pub is : value ≡ bases + sum_by (λ (n : ℕ). n) costs

  pub least-none : AreLeastSoFar 0 bases
  least-none = record { costs = []; least = λ chains are. tt; small = omega arith; is = omega arith }

  module _ (i value : ℕ) (exists : i < length own.shipments) (so_far : AreLeastSoFar i value) where
    -- what all shipments so far and this one cost alone
    alone-more : alone_total own.arcs (take (i + 1) own.shipments) ≡ alone_total own.arcs (take i own.shipments) + sum_by (alone_cost (shipment_at own i).size) own.arcs
    alone-more = sum_by_more (λ (s : Shipment). sum_by (alone_cost s.size) own.arcs) own.shipments i no_shipment exists

    costs-more : (cost : ℕ) → cost ≤ most_layers own * (65536 * (own.scale * sum_by (alone_cost (shipment_at own i).size) own.arcs + own_weights spans i)) →
        sum_by (λ (n : ℕ). n) so_far.costs + cost ≤ most_layers own * (65536 * (own.scale * alone_total own.arcs (take (i + 1) own.shipments) + weights_below spans (i + 1)))
    costs-more cost small =
        let before : ℕ = alone_total own.arcs (take i own.shipments) in
        let here : ℕ = sum_by (alone_cost (shipment_at own i).size) own.arcs in
        let layers : ℕ = most_layers own in
        let weights : weights_below spans (i + 1) ≡ weights_below spans i + own_weights spans i = ap (weights_below spans) (let e : i + 1 ≡ suc i = omega arith in e) in
        let all : own.scale * alone_total own.arcs (take (i + 1) own.shipments) + weights_below spans (i + 1) ≡ (own.scale * before + weights_below spans i) + (own.scale * here + own_weights spans i) =
        omega (arith, ap (λ (n : ℕ). own.scale * n) alone-more, weights) in
        let parts : layers * (65536 * ((own.scale * before + weights_below spans i) + (own.scale * here + own_weights spans i)))
        ≡ layers * (65536 * (own.scale * before + weights_below spans i)) + layers * (65536 * (own.scale * here + own_weights spans i)) = omega arith in
        omega (arith, so_far.small, small, parts, ap (λ (n : ℕ). layers * (65536 * n)) all)

    -- one more cost
    pub least-more : (cost : ℕ) → IsLeastBySpans m spans i (Some cost) → IsSmallBySpans own spans i (Some cost) → AreLeastSoFar (i + 1) (value + cost)
    least-more cost least small =
        let more : take (i + 1) own.shipments ≡ take i own.shipments ++ (shipment_at own i ∷ []) = take_more own.shipments i no_shipment exists in
        let number : 0 + length (take i own.shipments) ≡ i = omega (arith, length-take i own.shipments, exists) in
        let one : sum_by (λ (n : ℕ). n) (so_far.costs ++ (cost ∷ [])) ≡ sum_by (λ (n : ℕ). n) so_far.costs + cost =
        omega (arith, sum_by-append (λ (n : ℕ). n) so_far.costs (cost ∷ []), sum_by-cons (λ (n : ℕ). n) cost []) in
        record {
          costs = so_far.costs ++ (cost ∷ []);
          least = λ chains are.
              subst (λ (l : List Shipment). AllZipFrom (IsLeast chains) 0 l (so_far.costs ++ (cost ∷ []))) (sym more)
              (AllZipFrom-push (IsLeast chains) 0 (take i own.shipments) so_far.costs (shipment_at own i) cost (so_far.least chains are)
              (subst (λ (k : ℕ). IsLeast chains k (shipment_at own i) cost) (sym number) (least chains are)));
          small = omega (arith, one, costs-more cost small);
          is = omega (arith, so_far.is, one);
        }

    -- it fits
    pub more-fits : (cost : ℕ) → IsValid own → weight_total spans < 2 ^ 100 → bases ≤ own.scale * alone_total own.arcs own.shipments → IsSmallBySpans own spans i (Some cost) → value + cost < 2 ^ 128
    more-fits cost valid light few small =
        let part : alone_total own.arcs (take (i + 1) own.shipments) ≤ alone_total own.arcs own.shipments = sum_by-take-le (λ (s : Shipment). sum_by (alone_cost s.size) own.arcs) own.shipments (i + 1) in
        let all : most_layers own * (65536 * (own.scale * alone_total own.arcs (take (i + 1) own.shipments) + weights_below spans (i + 1))) ≤ 2 ^ 127 + 2 ^ 120 =
        sums-fit own (alone_total own.arcs (take (i + 1) own.shipments)) (weights_below spans (i + 1)) valid part (omega (arith, below-le spans (i + 1), light)) in
        omega (arith, so_far.is, few, costs-more cost small, all, valid.fits)

    -- the first shipment without an allowed walk by the leaf's heads and ways
    pub first-without : HasChains m.leaf m.forced → IsLeastBySpans m spans i None → IsFirstWithoutVia own (heads_at m.leaf spans) (ways_at m.leaf spans) (allowed_at m.leaf) i
    first-without has none = record {
      exists = exists;
      none = none has.0 has.1;
      before = λ j below no_walk.
          let at = AllZipFrom-get_or (IsLeast has.0) (take i own.shipments) so_far.costs no_shipment 0 0 j (so_far.least has.0 has.1) (omega (arith, below, length-take i own.shipments, exists)) in
          let same : get_or (take i own.shipments) j no_shipment ≡ shipment_at own j = get_or-take i own.shipments j no_shipment below in
          let number : 0 + j ≡ j = omega arith in
          no_walk at.walk
          (subst (λ (k : ℕ). IsWalkVia own (heads_at m.leaf spans k) (ways_at m.leaf spans k) (allowed_at m.leaf k) (shipment_at own j) at.walk) number
          (subst (λ (s : Shipment). IsWalkVia own (heads_at m.leaf spans (0 + j)) (ways_at m.leaf spans (0 + j)) (allowed_at m.leaf (0 + j)) s at.walk) same at.is));
    }

  -- all shipments
  pub least-all : (i value : ℕ) → length own.shipments ≤ i → AreLeastSoFar i value → IsValueBySpans m spans bases value
  least-all i value all so_far = record {
    costs = so_far.costs;
    least = λ chains are. subst (λ (l : List Shipment). AllZipFrom (IsLeast chains) 0 l so_far.costs) (take_all i own.shipments all) (so_far.least chains are);
    is = so_far.is;
  }

  -- the value is small
  pub all-small : (i value : ℕ) → IsValid own → weight_total spans < 2 ^ 100 → bases ≤ own.scale * alone_total own.arcs own.shipments → AreLeastSoFar i value → IsSmallSpanBound (Value value)
  all-small i value valid light few so_far =
      let part : alone_total own.arcs (take i own.shipments) ≤ alone_total own.arcs own.shipments = sum_by-take-le (λ (s : Shipment). sum_by (alone_cost s.size) own.arcs) own.shipments i in
      let all : most_layers own * (65536 * (own.scale * alone_total own.arcs (take i own.shipments) + weights_below spans i)) ≤ 2 ^ 127 + 2 ^ 120 =
      sums-fit own (alone_total own.arcs (take i own.shipments)) (weights_below spans i) valid part (omega (arith, below-le spans i, light)) in
      omega (arith, so_far.is, few, so_far.small, all, valid.fits)
