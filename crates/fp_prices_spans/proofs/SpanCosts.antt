-- What the classes cost a shipment by spans, and that it is small.
use Rattle.std.proofs.Common.{◌≡◌, ℕ, ◌+◌, ◌-◌, ◌*◌, ◌^◌, ◌<◌, ◌≤◌, Bool, true, false, List, length, cond, get_or, ⊎_elim, refl, sym, ap, ap₂, ◌∙◌, subst, arith}
use Rattle.std.specs.Prelude.{◌&&◌, All, IfSome, None, Option, Some, if◌then◌else◌, nat_lt, not}
use Rattle.std.specs.Option.{option_map}
use Rattle.std.proofs.Math.Nat.{mul-le-mul_left, mul-le-mul_right}
use Rattle.std.proofs.lemmas.Bool.{and_parts, cases_Bool, cond-false, cond-true, ltb-true}
use Rattle.fp_labels.specs.Labels.{IsSmallFor}
use Rattle.fp_model.specs.declared.parts.Leg.{Leg}
use Rattle.fp_model.specs.Costs.{all_legs, has_leg}
use Rattle.fp_model.specs.Numbered.{shipment_at}
use Rattle.fp_model.specs.Problem.{IsValid, Problem, alone_cost, alone_total, arc_at, weight_at}
use Rattle.fp_timenodes.specs.declared.places.TheConstants.{MOST_POINTS}
use Rattle.fp_flatnet.specs.Tables.{windows_in}
use Rattle.fp_longestarcs.specs.Networks.{TimedNetwork, class_count, class_number, points_in}
use Rattle.fp_longestarcs.specs.Whole.{IsWholeNetwork}
use Rattle.fp_longestarcs.proofs.ClassNumbers.{number-within}
use Rattle.fp_allowed.specs.Bits.{bit_of}
use Rattle.fp_allowed.specs.Listing.{class_at}
use Rattle.fp_allowed.proofs.AllowedClasses.{is_allowed_parts}
use Rattle.fp_allowed.proofs.ListedClasses.{class_at-number}
use Rattle.fp_prices.specs.ClassCosts.{IsFree}
use Rattle.fp_prices.specs.LeafPricings.{AreChainsOf, AreCostsOf, PricingModel, allowed_at}
use Rattle.fp_prices.specs.Points.{edges_of}
use Rattle.fp_prices.specs.Prices.{AllKeepRule, truck_price}
use Rattle.fp_prices.proofs.CostBounds.{all-at-most, all-small}
use Rattle.fp_prices.proofs.GraphWalks.{AreCosts}
use Rattle.fp_prices.proofs.ShipmentCosts.{most_of}
use Rattle.fp_prices.proofs.SmallPrices.{arc-alone, leaf_price-small, priced-alone, shipment-alone}
use Rattle.fp_prices_spans.specs.ClassRanges.{ArePricesBySpans, IsSpannedRow, is_spanned}
use Rattle.fp_prices_spans.specs.SpanCosts.{AreSpanCostsOf, IsSmallBySpans, cost_at, most_layers, own_weights, span_prices_at}
use Rattle.fp_prices_spans.specs.SpanLists.{AreSpans}
use Rattle.fp_prices_spans.specs.SpanPrices.{is_held, span_price}
use Rattle.fp_prices_spans.specs.Spans.{ClassSpan}
use Rattle.fp_prices_spans.specs.Ways.{ways_fit}
use Rattle.fp_prices_spans.proofs.AllowedInNetwork.{allowed-class}
use Rattle.fp_prices_spans.proofs.WeightTotals.{own-le, price-le_own}

-- a cost that is there is replaced where some span holds for a class that no chain has
by_tests : (allows has held : Bool) (truck by_spans flow : ℕ) →
    (if held && not has then option_map (λ (_ : ℕ). by_spans + flow) (if allows then Some ((if has then 0 else truck) + flow) else None)
    else (if allows then Some ((if has then 0 else truck) + flow) else None))
    ≡ (if allows then Some ((if has then 0 else (if held then by_spans else truck)) + flow) else None)
by_tests true true true truck by_spans flow = refl
by_tests true true false truck by_spans flow = refl
by_tests true false true truck by_spans flow = refl
by_tests true false false truck by_spans flow = refl
by_tests false true true truck by_spans flow = refl
by_tests false true false truck by_spans flow = refl
by_tests false false true truck by_spans flow = refl
by_tests false false false truck by_spans flow = refl

-- over all layers a sum of so much for each point is below 2^127
pub layers-fit : (p : Problem) (most : ℕ) → IsValid p → most ≤ p.scale * alone_total p.arcs p.shipments + 2 ^ 100 → most_layers p * MOST_POINTS * most ≤ 2 ^ 127 - 1
layers-fit p most valid few =
    ⊎_elim
    (λ (yes : ways_fit p ≡ true).
    let fits : weight_at (16 * p.scale) p.arcs p.shipments < 2 ^ 127 =
    ltb-true (weight_at (16 * p.scale) p.arcs p.shipments) (2 ^ 127) (and_parts (nat_lt (16 * p.scale) (2 ^ 32)) (nat_lt (weight_at (16 * p.scale) p.arcs p.shipments) (2 ^ 127)) yes).1 in
    subst (λ (l : ℕ). l * MOST_POINTS * most ≤ 2 ^ 127 - 1) (sym (cond-true (ways_fit p) 16 1 yes)) (omega (arith, few, fits)))
    (λ (no : ways_fit p ≡ false). subst (λ (l : ℕ). l * MOST_POINTS * most ≤ 2 ^ 127 - 1) (sym (cond-false (ways_fit p) 16 1 no)) (omega (arith, few, valid.fits)))
    (cases_Bool (ways_fit p))

-- and the sums of what some shipments cost alone, with their weights, are together below 2^128
pub sums-fit : (p : Problem) (alone weights : ℕ) → IsValid p → alone ≤ alone_total p.arcs p.shipments → weights < 2 ^ 100 → most_layers p * (65536 * (p.scale * alone + weights)) ≤ 2 ^ 127 + 2 ^ 120
sums-fit p alone weights valid few light =
    let scaled : p.scale * alone ≤ p.scale * alone_total p.arcs p.shipments = mul-le-mul_left p.scale few in
    ⊎_elim
    (λ (yes : ways_fit p ≡ true).
    let fits : weight_at (16 * p.scale) p.arcs p.shipments < 2 ^ 127 =
    ltb-true (weight_at (16 * p.scale) p.arcs p.shipments) (2 ^ 127) (and_parts (nat_lt (16 * p.scale) (2 ^ 32)) (nat_lt (weight_at (16 * p.scale) p.arcs p.shipments) (2 ^ 127)) yes).1 in
    subst (λ (l : ℕ). l * (65536 * (p.scale * alone + weights)) ≤ 2 ^ 127 + 2 ^ 120) (sym (cond-true (ways_fit p) 16 1 yes)) (omega (arith, scaled, light, fits)))
    (λ (no : ways_fit p ≡ false). subst (λ (l : ℕ). l * (65536 * (p.scale * alone + weights)) ≤ 2 ^ 127 + 2 ^ 120) (sym (cond-false (ways_fit p) 16 1 no)) (omega (arith, scaled, light, valid.fits)))
    (cases_Bool (ways_fit p))

module _ (m : PricingModel) (spans : List ClassSpan) where
  abbrev own : Problem
  own = m.leaf.setting.problem

  abbrev net : TimedNetwork
  net = m.leaf.setting.network

  -- the costs of a shipment with those of the row's classes put in anew
  pub costs-by_spans : (k : ℕ) (row : List Bool) (prices : List ℕ) (old new : List (Option ℕ)) → IsWholeNetwork own net → IsSpannedRow m spans row → ArePricesBySpans net spans k prices → AreCostsOf m k old →
      ((n : ℕ) → get_or new n None ≡ (if bit_of row n then option_map (λ (_ : ℕ). cost_at own net prices k n) (get_or old n None) else get_or old n None)) → AreSpanCostsOf m spans k new
  costs-by_spans k row prices old new whole spanned are costs put chains chains_are c class =
      let n : ℕ = class_number net c in
      let within : n < class_count net = number-within net c whole.valid class in
      let at : class_at net n ≡ c = class_at-number net c whole.valid class in
      let has : Bool = has_leg c (all_legs chains) in
      let held : Bool = is_held spans c in
      let truck : ℕ = truck_price own m.tables (allowed_at m.leaf) m.kind c k (shipment_at own k).size in
      let flow : ℕ = own.scale * (arc_at own c.arc).freight * (shipment_at own k).size in
      let before : Option ℕ = if allowed_at m.leaf k c then Some ((if has then 0 else truck) + flow) else None in
      let bit : bit_of row n ≡ (held && not has) = spanned.told chains chains_are n within ∙ ap (λ (e : Leg). is_spanned spans chains e) at in
      let priced : cost_at own net prices k n ≡ span_price spans k c + flow =
      ap₂ (λ (a b : ℕ). a + b) (are.told n within ∙ ap (λ (e : Leg). span_price spans k e) at) (ap (λ (e : Leg). own.scale * (arc_at own e.arc).freight * (shipment_at own k).size) at) in
      put n ∙ ap₂ (λ (b : Bool) (o : Option ℕ). if b then option_map (λ (_ : ℕ). cost_at own net prices k n) o else o) bit (costs chains chains_are c class)
      ∙ ap (λ (v : ℕ). if held && not has then option_map (λ (_ : ℕ). v) before else before) priced
      ∙ by_tests (allowed_at m.leaf k c) has held truck (span_price spans k c) flow

  -- the costs of all edges, where those past the classes are free
  pub costs-of : (chains : List (List Leg)) (k : ℕ) (costs : List (Option ℕ)) → IsValid own → IsWholeNetwork own net → length costs ≡ length (edges_of own net) → IsFree (class_count net) costs → AreChainsOf m.leaf m.forced chains → AreSpanCostsOf m spans k costs →
      AreCosts own net (allowed_at m.leaf k) (span_prices_at m spans chains k) (shipment_at own k).size costs
  costs-of chains k costs valid whole count free are_chains are = record {
    valid = valid;
    whole = whole;
    count = count;
    free = free;
    classes = λ c h. allowed-class own net (windows_in m.leaf.setting.windows) m.leaf.sides k c whole h;
    holds = are chains are_chains;
  }

  module _ (chains : List (List Leg)) (valid : IsValid own) (keep : AllKeepRule own m.tables) (are : AreSpans own spans) (k : ℕ) (exists : k < length own.shipments) where
    -- what an allowed class costs
    class-small : (c : Leg) → allowed_at m.leaf k c ≡ true → span_prices_at m spans chains k c + own.scale * (arc_at own c.arc).freight * (shipment_at own k).size ≤ most_of own k + own_weights spans k
    class-small c is =
        let size : ℕ = (shipment_at own k).size in
        let has : Bool = has_leg c (all_legs chains) in
        let held : Bool = is_held spans c in
        let truck : ℕ = truck_price own m.tables (allowed_at m.leaf) m.kind c k size in
        let by_spans : ℕ = span_price spans k c in
        let arc_exists : c.arc < length own.arcs = (is_allowed_parts own (windows_in m.leaf.setting.windows) (points_in net) m.leaf.sides k c is).0 in
        let priced : cond has 0 truck + own.scale * (arc_at own c.arc).freight * size ≤ own.scale * alone_cost size (arc_at own c.arc) =
        priced-alone own (arc_at own c.arc) (cond has 0 truck) size (leaf_price-small own m.tables (allowed_at m.leaf) m.kind chains c k valid keep exists arc_exists is) in
        let all : own.scale * alone_cost size (arc_at own c.arc) ≤ most_of own k = mul-le-mul_left own.scale (arc-alone own size c.arc arc_exists) in
        let light : by_spans ≤ own_weights spans k = price-le_own spans k c in
        let one : cond has 0 (cond held by_spans truck) ≤ cond has 0 truck + by_spans = either has held truck by_spans in
        omega (arith, priced, all, light, one)
      where
        either : (a b : Bool) (t s : ℕ) → cond a 0 (cond b s t) ≤ cond a 0 t + s
        either true b t s = omega arith
        either false true t s = omega arith
        either false false t s = omega arith

    module _ (costs : List (Option ℕ)) (are_costs : AreCosts own net (allowed_at m.leaf k) (span_prices_at m spans chains k) (shipment_at own k).size costs) where
      pub costs-at_most : All (λ o. IfSome o (λ (n : ℕ). n ≤ most_of own k + own_weights spans k)) costs
      costs-at_most = all-at-most own net (allowed_at m.leaf k) (span_prices_at m spans chains k) (shipment_at own k).size costs (most_of own k + own_weights spans k) are_costs class-small

      -- so they leave room for a walk over all points of each layer
      pub costs-small : (nodes : ℕ) → nodes ≤ most_layers own * MOST_POINTS → All (IsSmallFor nodes) costs
      costs-small nodes few =
          let most : ℕ = most_of own k + own_weights spans k in
          let times : nodes * most ≤ most_layers own * MOST_POINTS * most = mul-le-mul_right most few in
          let alone : most_of own k ≤ own.scale * alone_total own.arcs own.shipments = mul-le-mul_left own.scale (shipment-alone own k exists) in
          all-small costs nodes most costs-at_most (omega (arith, times, layers-fit own most valid (omega (arith, alone, own-le spans k, are.light))))

-- a cost that is at most so much for each point of each layer is small
pub small-by_points : (p : Problem) (spans : List ClassSpan) (k nodes : ℕ) (o : Option ℕ) → nodes ≤ most_layers p * MOST_POINTS → IfSome o (λ (n : ℕ). n ≤ nodes * (most_of p k + own_weights spans k)) → IsSmallBySpans p spans k o
small-by_points p spans k nodes None few told = tt
small-by_points p spans k nodes (Some n) few told =
    let most : ℕ = most_of p k + own_weights spans k in
    let times : nodes * most ≤ most_layers p * MOST_POINTS * most = mul-le-mul_right most few in
    let more : most_layers p * (MOST_POINTS * most) ≤ most_layers p * (65536 * most) = mul-le-mul_left (most_layers p) (mul-le-mul_right most (let e : MOST_POINTS ≤ 65536 = omega arith in e)) in
    omega (arith, told, times, more)

-- entries past the classes stay free
still-free : (count : ℕ) (old new : List (Option ℕ)) → length new ≡ length old → ((n : ℕ) → count ≤ n → get_or new n None ≡ get_or old n None) → IsFree count old → IsFree count new
still-free count old new long others free e from h = others e from ∙ free e from (omega (arith, h, long))

-- what the edges cost, by the chains of the leaf
pub costs-for : (m : PricingModel) (spans : List ClassSpan) (k : ℕ) (old new : List (Option ℕ)) (chains : List (List Leg)) → IsValid m.leaf.setting.problem → IsWholeNetwork m.leaf.setting.problem m.leaf.setting.network →
    length new ≡ length old → length old ≡ length (edges_of m.leaf.setting.problem m.leaf.setting.network) → ((n : ℕ) → class_count m.leaf.setting.network ≤ n → get_or new n None ≡ get_or old n None) →
    IsFree (class_count m.leaf.setting.network) old → AreChainsOf m.leaf m.forced chains → AreSpanCostsOf m spans k new →
    AreCosts m.leaf.setting.problem m.leaf.setting.network (allowed_at m.leaf k) (span_prices_at m spans chains k) (shipment_at m.leaf.setting.problem k).size new
costs-for m spans k old new chains valid whole long edges others free are_chains are =
    costs-of m spans chains k new valid whole (long ∙ edges) (still-free (class_count m.leaf.setting.network) old new long others free) are_chains are
