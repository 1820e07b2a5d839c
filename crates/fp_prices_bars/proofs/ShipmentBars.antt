-- The classes that a test bars for a shipment are those that are barred at the leaf, and so shipment by shipment.
use Rattle.std.proofs.Common.{◌≡◌, ℕ, suc, ◌∷◌, ◌+◌, ◌-◌, ◌*◌, ◌^◌, ◌<◌, ◌≤◌, Bool, true, false, List, [], length, ⊎_elim, inl, inr, refl, sym, ap, ◌∙◌, subst, arith}
use Rattle.std.specs.Prelude.{◌&&◌, ◌⊎◌, ◌↔◌, All, IfSome, MatchOption, None, Option, Some, nat_eq, not, slice_index_or, sum_by}
use Rattle.std.specs.Int.{div_ceil}
use Rattle.std.proofs.lemmas.Bool.{and_from, and_parts, cases_Bool, cases_lt, eq-eqb, eqb-true, false≢true, le-leb, leb-true, not_from_false}
use Rattle.std.proofs.lemmas.List.Elements.{All-weaker}
use Rattle.fp_base_lists.specs.Numbered.{AllZipFrom}
use Rattle.fp_base_lists.proofs.Numbered.{AllZipFrom-get_or}
use Rattle.fp_labels.specs.Walks.{cost_of}
use Rattle.fp_model.specs.declared.limits.TheConstants.{LATEST}
use Rattle.fp_model.specs.declared.parts.Leg.{Leg}
use Rattle.fp_model.specs.declared.parts.Shipment.{Shipment}
use Rattle.fp_model.specs.Costs.{all_legs, departures_cost}
use Rattle.fp_model.specs.Numbered.{no_shipment, shipment_at}
use Rattle.fp_model.specs.Problem.{Problem}
use Rattle.fp_flatnet.specs.declared.window_tables.Window.{Window}
use Rattle.fp_flatnet.specs.Tables.{windows_in}
use Rattle.fp_longestarcs.specs.Classes.{class_of}
use Rattle.fp_longestarcs.specs.Networks.{IsClass, TimedNetwork, class_count, class_number, points_in}
use Rattle.fp_longestarcs.specs.Whole.{IsWholeNetwork}
use Rattle.fp_longestarcs.proofs.ClassNumbers.{number-within}
use Rattle.fp_tree.specs.declared.sides.Side.{Side}
use Rattle.fp_tree.specs.declared.sides.Side.TheVariants.{Without, Only, Before, From, AtMost, MoreThan, Through, Outside}
use Rattle.fp_allowed.specs.Allowed.{exit_of, is_allowed, meets_all}
use Rattle.fp_allowed.specs.Bits.{IsRowUnder, bit_of}
use Rattle.fp_allowed.proofs.ListedClasses.{class_at-number}
use Rattle.fp_prices.specs.LeafPricings.{AreChainsOf, PricingModel, allowed_at}
use Rattle.fp_prices_spans.specs.SpanBars.{AreBarsOf, HasNoWalkThrough, IsBar, IsLeastCostThrough, IsSpanBarred, IsSpanValueThrough}
use Rattle.fp_prices_spans.specs.SpanCosts.{HasChains, IsLeastBySpans, heads_at, span_prices_at, ways_at}
use Rattle.fp_prices_spans.specs.SpanLeaves.{IsSpanLeafEmpty, IsSpanLeafValue, leaf_heads}
use Rattle.fp_prices_spans.specs.SpanPrices.{leaf_span_price}
use Rattle.fp_prices_spans.specs.Spans.{ClassSpan}
use Rattle.fp_prices_spans.specs.Ways.{IsLeastCostVia, ways_fit}
use Rattle.fp_prices_spans.proofs.OneSpanValue.{span_leaves-have-one-value}
use Rattle.fp_prices_bars.specs.declared.bar_tests.BarTest.{BarTest}
use Rattle.fp_prices_bars.specs.declared.limits.BarLimit.{BarLimit}
use Rattle.fp_prices_bars.specs.declared.leaf_values.LeafValue.{LeafValue}
use Rattle.fp_prices_bars.specs.BarRuns.{BarAlso, IsRun}
use Rattle.fp_prices_bars.specs.BarTests.{bars_by, is_barred_by}
use Rattle.fp_prices_bars.specs.LeafValues.{IsLeafTotal}
use Rattle.fp_prices_bars.specs.Limits.{ReachesLimit}
use Rattle.fp_prices_bars.specs.ThroughCosts.{AreThroughBySpans}
use Rattle.fp_prices_bars.proofs.ClassEnds.{moment-class}
use Rattle.fp_prices_bars.proofs.ThroughTotals.{replaced, replaced-sum, through-unique, through-value}

module _ (m : PricingModel) (spans : List ClassSpan) (limit : BarLimit) where
  abbrev p : Problem
  p = m.leaf.setting.problem

  abbrev net : TimedNetwork
  net = m.leaf.setting.network

  abbrev over : ℕ → ℕ → Option Window
  over = windows_in m.leaf.setting.windows

  -- a class is barred at the leaf
  abbrev pub IsBarred : ℕ → Leg → Type 0
  IsBarred = IsSpanBarred p over (points_in net) m.leaf.sides m.tables spans m.kind m.forced (ReachesLimit limit p.scale)

  abbrev IsThrough : ℕ → Leg → ℕ → Type 0
  IsThrough k class v = IsSpanValueThrough p over (points_in net) m.leaf.sides m.tables spans m.kind m.forced k class v

  abbrev HasNone : ℕ → Leg → Type 0
  HasNone k class = HasNoWalkThrough p (leaf_heads p over (points_in net) spans k) (is_allowed p over (points_in net) m.leaf.sides k) (shipment_at p k) class

  module _ (fits : ways_fit p ≡ true) (v : LeafValue) (k own : ℕ) (through : List (Option ℕ)) (row : List Bool) (chains : List (List Leg)) (exists : k < length p.shipments) (are : AreChainsOf m.leaf m.forced chains)
      (total : IsLeafTotal m spans chains v) (least : IsLeastBySpans m spans k (Some own)) (costs : AreThroughBySpans m spans k through) where
    abbrev test : BarTest
    test = record { rest = v.total - own; charges = v.charges; scale = p.scale; limit = limit }

    abbrev bases : ℕ
    bases = p.scale * departures_cost p chains (all_legs chains)

    abbrev IsLeast : ℕ → Shipment → ℕ → Type 0
    IsLeast j s n = IsLeastCostVia p (heads_at m.leaf spans j) (ways_at m.leaf spans j) (allowed_at m.leaf j) s (leaf_span_price p m.tables spans (allowed_at m.leaf) m.kind chains j s.size) n

    -- what the shipment costs is its entry among the least costs
    own-is : slice_index_or total.costs k 0 ≡ own
    own-is =
        let at : IsLeast (0 + k) (shipment_at p k) (slice_index_or total.costs k 0) = AllZipFrom-get_or IsLeast p.shipments total.costs no_shipment 0 0 k total.least exists in
        let here : IsLeast k (shipment_at p k) (slice_index_or total.costs k 0) = subst (λ (j : ℕ). IsLeast j (shipment_at p k) (slice_index_or total.costs k 0)) (let e : 0 + k ≡ k = omega arith in e) at in
        let one : IsLeast k (shipment_at p k) own = least chains are in
        omega (arith, here.least one.walk one.is, here.cost, one.least here.walk here.is, one.cost)

    -- the value where it is made to go by a class at a cost
    abbrev value-at : ℕ → ℕ
    value-at cost = bases + sum_by (λ (n : ℕ). n) (replaced total.costs k cost) - sum_by (λ (n : ℕ). n) total.charges

    long-from : {X : Type 0} (Q : ℕ → X → ℕ → Type 0) (i : ℕ) (xs : List X) (ys : List ℕ) → AllZipFrom Q i xs ys → length ys ≡ length xs
    long-from Q i [] [] all = refl
    long-from Q i [] (y ∷ ys) all = absurd all
    long-from Q i (x ∷ xs) [] all = absurd all
    long-from Q i (x ∷ xs) (y ∷ ys) all = ap (λ (n : ℕ). suc n) (long-from Q (i + 1) xs ys all.1)

    -- what it costs is part of the total
    pub own-within : own ≤ v.total
    own-within =
        let inside : k < length total.costs = omega (arith, exists, long-from IsLeast 0 p.shipments total.costs total.least) in
        omega (arith, replaced-sum total.costs k 0 inside, own-is, total.total)

    -- it is the total with the cost in the place of the shipment's own, less the charges
    value-is : (cost : ℕ) → value-at cost ≡ v.total - own + cost - sum_by (λ (n : ℕ). n) total.charges
    value-is cost =
        let inside : k < length total.costs = omega (arith, exists, long-from IsLeast 0 p.shipments total.costs total.least) in
        omega (arith, replaced-sum total.costs k cost inside, replaced-sum total.costs k 0 inside, own-is, total.total)

    -- the test asks whether it reaches the limit
    pub test-value : (cost : ℕ) → v.total ≤ 2 ^ 127 + 2 ^ 125 → cost ≤ 2 ^ 124 → value-at cost ≡ v.total - own + cost - v.charges
    test-value cost small few = value-is cost ∙ sym (total.charged (v.total - own + cost) (omega (arith, small, few)))

    abbrev IsLeastAt : Leg → ℕ → Type 0
    IsLeastAt c n = IsLeastCostThrough p (heads_at m.leaf spans k) (allowed_at m.leaf k) (shipment_at p k) (span_prices_at m spans chains k) c n

    module _ (small : v.total ≤ 2 ^ 127 + 2 ^ 125) (c : Leg) where
      -- by what a class costs the shipment, if it can go by it
      barred-why : (o : Option ℕ) → IfSome o (λ (n : ℕ). n ≤ 2 ^ 124) → MatchOption o (HasNone k c) (IsLeastAt c) → bars_by test o ≡ true →
          HasNone k c ⊎ ((w : ℕ) × IsThrough k c w × ReachesLimit limit p.scale w)
      barred-why None few none bars = inl none
      barred-why (Some cost) few is bars =
          let same : value-at cost ≡ v.total - own + cost - v.charges = test-value cost small few in
          inr (
            value-at cost,
            through-value p over (points_in net) m.leaf.sides m.tables spans m.kind m.forced k c chains total.costs total.charges cost exists are total.least total.are_charges is,
            subst (λ (w : ℕ). ReachesLimit limit p.scale w) (sym same) (leb-true limit.money (div_ceil (v.total - own + cost - v.charges + limit.more - limit.less) p.scale) bars),
          )

      -- and back
      why-barred : (o : Option ℕ) → IfSome o (λ (n : ℕ). n ≤ 2 ^ 124) → MatchOption o (HasNone k c) (IsLeastAt c) → HasNone k c ⊎ ((w : ℕ) × IsThrough k c w × ReachesLimit limit p.scale w) → bars_by test o ≡ true
      why-barred None few none why = refl
      why-barred (Some cost) few is why =
          ⊎_elim
          (λ (none : HasNone k c). absurd (none is.walk is.is is.has))
          (λ (worth : (w : ℕ) × IsThrough k c w × ReachesLimit limit p.scale w).
          let own_value = through-value p over (points_in net) m.leaf.sides m.tables spans m.kind m.forced k c chains total.costs total.charges cost exists are total.least total.are_charges is in
          let one : worth.0 ≡ value-at cost = through-unique p over (points_in net) m.leaf.sides m.tables spans m.kind m.forced k c worth.0 (value-at cost) worth.1 own_value in
          let same : value-at cost ≡ v.total - own + cost - v.charges = test-value cost small few in
          le-leb limit.money (div_ceil (v.total - own + cost - v.charges + limit.more - limit.less) p.scale)
          (subst (λ (w : ℕ). ReachesLimit limit p.scale w) (one ∙ same) worth.2))
          why

      module _ (whole : IsWholeNetwork p net) (under : IsRowUnder m.leaf.setting m.leaf.sides k row) (few : All (λ (o : Option ℕ). IfSome o (λ (n : ℕ). n ≤ 2 ^ 124)) through) (long : class_count net ≤ length through) (is : IsClass net c) where
        abbrev n : ℕ
        n = class_number net c

        within : n < class_count net
        within = number-within net c whole.valid is

        here : MatchOption (cost_of through n) (HasNone k c) (IsLeastAt c)
        here = subst (λ (e : Leg). MatchOption (cost_of through n) (HasNone k e) (IsLeastAt e)) (class_at-number net c whole.valid is) (costs chains are n within)

        little : IfSome (cost_of through n) (λ (cost : ℕ). cost ≤ 2 ^ 124)
        little = few n None (omega (arith, within, long))

        value-of : IsSpanLeafValue p over (points_in net) m.leaf.sides m.tables spans m.kind m.forced (v.total - sum_by (λ (n : ℕ). n) total.charges)
        value-of = record {
          chains = chains;
          costs = total.costs;
          charges = total.charges;
          are_chains = are;
          are_least = total.least;
          are_charges = total.are_charges;
          value_is = ap (λ (t : ℕ). t - sum_by (λ (n : ℕ). n) total.charges) total.total;
        }

        -- so the class is barred by the test exactly where it is at the leaf
        pub test-barred : (is_barred_by test row through n ≡ true) ↔ IsBarred k c
        test-barred = (
          λ yes.
              let both = and_parts (bit_of row n) (bars_by test (cost_of through n)) yes in
              record {
                fits = fits;
                exists = exists;
                allows = sym (under.exact c is) ∙ both.0;
                value = v.total - sum_by (λ (n : ℕ). n) total.charges;
                leaf = value-of;
                why = barred-why (cost_of through n) little here both.1;
              },
          λ barred. and_from (bit_of row n) (bars_by test (cost_of through n)) (under.exact c is ∙ barred.allows) (why-barred (cost_of through n) little here barred.why),
        )

  -- bars of the shipments before one
  pub record AreBarsBefore (i : ℕ) (bars : List Side) : Type 0 where
    pub runs : All (IsRun p) bars
    pub exact : (k : ℕ) (l : Leg) → k < length p.shipments → l.arc < length p.arcs → l.depart ≤ LATEST →
        (meets_all k bars (exit_of p l) ≡ true) ↔ (k < i → IsBarred k (class_of p (points_in net) 1 l) → ⊥)

  pub before-none : AreBarsBefore 0 []
  before-none = record { runs = λ j d lt. absurd (omega (arith, lt)); exact = λ k l exists arc small. (λ yes lt barred. omega (arith, lt), λ free. refl) }

  -- with those of this one they are those before the next
  pub before-more : (i : ℕ) (f : ℕ → Bool) (old new : List Side) → IsWholeNetwork p net → ((c : Leg) → IsClass net c → (f (class_number net c) ≡ true) ↔ IsBarred i c) → AreBarsBefore i old → All (IsRun p) new →
      BarAlso p net i f old new → AreBarsBefore (i + 1) new
  before-more i f old new whole decides so_far runs also = record {
    runs = runs;
    exact = λ k l exists arc small.
        let c : Leg = class_of p (points_in net) 1 l in
        let is : IsClass net c = moment-class p net whole l arc in
        let met : Bool = meets_all k old (exit_of p l) in
        let out : Bool = nat_eq k i && f (class_number net c) in
        let all : meets_all k new (exit_of p l) ≡ (met && not out) = also k l arc small in
        let before = so_far.exact k l exists arc small in (
          λ yes lt barred.
              let both = and_parts met (not out) (sym all ∙ yes) in
              ⊎_elim
              (λ (less : k < i). before.0 both.0 less barred)
              (λ (last : i ≤ k).
              let same : k ≡ i = omega (arith, last, lt) in
              let hit : out ≡ true = and_from (nat_eq k i) (f (class_number net c)) (eq-eqb k i same) ((decides c is).1 (subst (λ (j : ℕ). IsBarred j c) same barred)) in
              false≢true (sym (ap not hit) ∙ both.1))
              (cases_lt k i),
          λ free.
              all
              ∙ and_from met (not out) (before.1 (λ less. free (omega (arith, less))))
              (⊎_elim
              (λ (hit : out ≡ true).
              let both = and_parts (nat_eq k i) (f (class_number net c)) hit in
              let same : k ≡ i = eqb-true k i both.0 in
              absurd (free (omega (arith, same)) (subst (λ (j : ℕ). IsBarred j c) (sym same) ((decides c is).0 both.1))))
              (λ (miss : out ≡ false). not_from_false out miss)
              (cases_Bool out)),
        );
  }

  -- a run is a bar
  run-bar : (side : Side) → IsRun p side → IsBar p side
  run-bar (Without shipment arc) is = absurd is
  run-bar (Only shipment arc tail) is = absurd is
  run-bar (Before shipment terminal at) is = absurd is
  run-bar (From shipment terminal at) is = absurd is
  run-bar (AtMost arc point until trucks) is = absurd is
  run-bar (MoreThan arc point until trucks) is = absurd is
  run-bar (Through shipment arc) is = absurd is
  run-bar (Outside shipment arc point until) is = (is.0, is.1, is.3)

  -- and those of all shipments are the leaf's
  pub before-all : (i : ℕ) (bars : List Side) → length p.shipments ≤ i → AreBarsBefore i bars → AreBarsOf p (points_in net) IsBarred bars
  before-all i bars all so_far = record {
    are = All-weaker (IsRun p) (IsBar p) run-bar bars so_far.runs;
    exact = λ k l exists arc small. (
      λ yes barred. (so_far.exact k l exists arc small).0 yes (omega (arith, exists, all)) barred,
      λ free. (so_far.exact k l exists arc small).1 (λ lt. free),
    );
  }

  -- a leaf that is empty has no bars
  pub empty-unbarred : IsSpanLeafEmpty p over (points_in net) m.leaf.sides spans → (k : ℕ) (class : Leg) → IsBarred k class → ⊥
  empty-unbarred empty k class barred = span_leaves-have-one-value.some p over (points_in net) m.leaf.sides m.tables spans m.kind m.forced barred.value barred.leaf empty

  -- and is so where a shipment has no walk
  pub without-empty : (i : ℕ) → i < length p.shipments → HasChains m.leaf m.forced → IsLeastBySpans m spans i None → IsSpanLeafEmpty p over (points_in net) m.leaf.sides spans
  without-empty i exists chains none = record { shipment = i; exists = exists; none = none chains.0 chains.1 }
