-- The bound of an instance from what its root is worth.
use Rattle.std.proofs.Common.{◌≡◌, ℕ, ◌*◌, ◌<◌, ◌≤◌, Bool, List, [], ◌∙◌, arith, mul_comm, subst, sym}
use Rattle.std.specs.Prelude.{Option}
use Rattle.fp_base_lists.proofs.Ceilings.{div_ceil-least, div_ceil_mono}
use Rattle.fp_model.specs.declared.parts.Leg.{Leg}
use Rattle.fp_model.specs.Costs.{cost}
use Rattle.fp_model.specs.Plans.{IsPlan, NoPlanCheaper, PlanExists}
use Rattle.fp_model.specs.Problem.{IsValid, Problem}
use Rattle.fp_timenodes.specs.declared.places.Place.{Place}
use Rattle.fp_timenodes.specs.Floor.{HaveSamePoints}
use Rattle.fp_timenodes.specs.Points.{TimePoints, points_at}
use Rattle.fp_flatnet.specs.Initial.{BeginAt, initial_points}
use Rattle.fp_flatnet.specs.declared.window_tables.Window.{Window}
use Rattle.fp_flatnet.specs.Tables.{WindowTable, windows_in}
use Rattle.fp_flatnet.specs.Windows.{CoverPlans}
use Rattle.fp_longestarcs.specs.Networks.{TimedNetwork, points_in}
use Rattle.fp_longestarcs.specs.Whole.{IsNetworkOf}
use Rattle.fp_allowed.specs.SamePoints.{AgreeOnPoints}
use Rattle.fp_allowed.proofs.FewerSides.{PlanObeys-none}
use Rattle.fp_allowed.proofs.SamePoints.{AgreeOnPoints_sym}
use Rattle.fp_prices.specs.declared.values.bounds.LeafBound.TheVariants.{Value}
use Rattle.fp_prices.specs.declared.leaf_prices.Kind.{Kind}
use Rattle.fp_prices.specs.declared.leaf_prices.Kind.TheVariants.{Even, Linear}
use Rattle.fp_prices.specs.declared.leaf_prices.LeafPrice.{LeafPrice}
use Rattle.fp_prices.specs.Leaves.{IsPlanOfLeaf}
use Rattle.fp_prices.specs.Shares.{ClassShare}
use Rattle.fp_prices.specs.Tables.{AreTables}
use Rattle.fp_prices.proofs.LeafPlans.{IsPlanOfLeaf-within}
use Rattle.fp_prices.proofs.SamePoints.{bound-same}
use Rattle.fp_prices_gifts.specs.declared.gifts.Gift.{Gift}
use Rattle.fp_prices_gifts.specs.GiftKinds.{gifts_beside}
use Rattle.fp_prices_gifts.proofs.GiftBounds.{gift_leaf-bounds}
use Rattle.fp_prices_gifts.proofs.OneGiftValue.{values-without-gifts}
use Rattle.fp_prices_spans.specs.SpanKinds.{spans_beside}
use Rattle.fp_prices_spans.specs.SpanLeaves.{IsSpanLeafEmpty, IsSpanLeafValue}
use Rattle.fp_prices_spans.proofs.LeafWays.{leaf_route-via}
use Rattle.fp_prices_spans.specs.MomentRuns.{AreAmong}
use Rattle.fp_prices_spans.specs.Spans.{ClassSpan}
use Rattle.fp_prices_spans.proofs.SameSpanValues.{span_value-same}
use Rattle.fp_duals_leaves.specs.Prices.{ArePrices, PriceLists}
use Rattle.fp_duals_leaves.specs.Pricing.{IsPriceFound}
use Rattle.fp_duals_leaves.specs.SoundSpans.{AreSoundSpans}
use Rattle.fp_duals_leaves.proofs.SidelessGifts.{sideless-gifts, sideless-value}
use Rattle.fp_duals_leaves.proofs.SpansBeside.{beside-sound}
use Rattle.fp_app.specs.Bounds.{IsEarnedValue, IsRootBound, whole_units}
use Rattle.fp_app.specs.Checks.{AreWindowsOf}
use Rattle.fp_app.proofs.PlainValues.{flat-le_leaf}

-- every plan is one of the leaf without sides
IsPlanOfLeaf-root : (p : Problem) (windows : ℕ → ℕ → Option Window) → CoverPlans p windows → (d : ℕ) (routes : List (List Leg)) → 1 ≤ d → IsPlan p d routes → IsPlanOfLeaf p windows [] d routes
IsPlanOfLeaf-root p windows covers d routes some plan = IsPlanOfLeaf-within p windows [] d routes some plan (covers d routes some plan) (PlanObeys-none p d routes)

-- where a plan exists, the root isn't empty
pub root-not_empty : (p : Problem) (windows : ℕ → ℕ → Option Window) (points : ℕ → List ℕ) (spans : List ClassSpan) → CoverPlans p windows → PlanExists p → IsSpanLeafEmpty p windows points [] spans → ⊥
root-not_empty p windows points spans covers exists empty =
    empty.none _ (leaf_route-via p windows points [] spans exists.0 empty.shipment exists.1 empty.exists (IsPlanOfLeaf-root p windows covers exists.0 exists.1 exists.2 exists.3))

-- no plan costs less than a value of the root in whole units
root-plans : (p : Problem) (table : WindowTable) (points : ℕ → List ℕ) (tables : List (List ClassShare)) (spans : List ClassSpan) (kind : Kind) (forced : Bool) (value : ℕ) → IsValid p → AreAmong p (initial_points p table.anchors) points →
    AreTables p tables → AreSoundSpans p table spans [] → CoverPlans p (windows_in table) → IsSpanLeafValue p (windows_in table) points [] tables spans kind forced value → NoPlanCheaper p (whole_units p value)
root-plans p table points tables spans kind forced value valid among prices sound covers is d routes some plan =
    let bounds : value ≤ p.scale * cost p routes =
    gift_leaf-bounds p (windows_in table) (initial_points p table.anchors) points [] tables spans [] kind forced value valid among prices.rule sound.rules
    ((values-without-gifts p (windows_in table) points [] tables spans kind forced value).1 is) d routes (IsPlanOfLeaf-root p (windows_in table) covers d routes some plan) in
    let scale : 0 < p.scale = omega (arith, valid.scale.0) in
    div_ceil-least value p.scale (cost p routes) scale (omega (arith, bounds, mul_comm p.scale (cost p routes)))

-- values at least as good as the linear and the even ones are the same over other lists of the same points
IsEarnedValue-same : (p : Problem) (windows : ℕ → ℕ → Option Window) (points others : ℕ → List ℕ) (price : LeafPrice) (tables : List (List ClassShare)) (spans : List ClassSpan) (value : ℕ) → IsValid p → AgreeOnPoints p points others →
    IsEarnedValue p windows points price tables spans value → IsEarnedValue p windows others price tables spans value
IsEarnedValue-same p windows points others price tables spans value valid same good =
    let back : AgreeOnPoints p others points = AgreeOnPoints_sym p points others same in
    record {
      is = span_value-same p valid windows points others same [] tables spans price.kind price.forced value good.is;
      linear = λ f other is. good.linear f other (bound-same p valid windows others points back [] [] Linear f (Value other) is);
      even = λ f other is. good.even f other (bound-same p valid windows others points back [] [] Even f (Value other) is);
    }

-- the points of a network as of round 0 are the initial ones
initial-points : (p : Problem) (table : WindowTable) (points : TimePoints) (net : TimedNetwork) → table.anchors ≡ [] → BeginAt p table.anchors points → IsNetworkOf p points 0 net → AgreeOnPoints p (points_in net) (initial_points p [])
initial-points p table points net unanchored begins is =
    λ terminal lt at. is.points terminal lt at ∙ subst (λ (anchors : List Place). HaveSamePoints (points_at points terminal 0) (initial_points p anchors terminal)) unanchored (begins.same terminal lt) at

-- a price that was found for the root makes the bound of the instance: without sides it is one without gifts
pub IsPriceFound-IsRootBound : (p : Problem) (table : WindowTable) (points : TimePoints) (net : TimedNetwork) (x : PriceLists) (price : LeafPrice) (value : ℕ) (walks : List (List Leg)) → AreWindowsOf p table → CoverPlans p (windows_in table) →
    BeginAt p table.anchors points → IsNetworkOf p points 0 net → ArePrices p table x →
    IsPriceFound p (windows_in table) (points_in net) [] x 0 (record { price = price; value = value }) walks → IsRootBound p price x.tables (spans_beside x.spans price.kind) value
IsPriceFound-IsRootBound p table points net x price value walks windows covers begins is prices found =
    let valid : IsValid p = windows.belongs.valid in
    let spans : List ClassSpan = spans_beside x.spans price.kind in
    let gifts : List Gift = gifts_beside x.gifts price.kind in
    let none : gifts ≡ [] = sideless-gifts p (windows_in table) (points_in net) x.tables spans gifts price.kind price.forced value found.worth.is in
    let sound : AreSoundSpans p table spans [] = subst (AreSoundSpans p table spans) none (beside-sound p table x price.kind prices) in
    let among : AreAmong p (initial_points p table.anchors) (initial_points p []) = subst (λ (anchors : List Place). AreAmong p (initial_points p anchors) (initial_points p [])) (sym windows.unanchored) (λ terminal lt at has. has) in
    let here : IsEarnedValue p (windows_in table) (initial_points p []) price x.tables spans value =
    IsEarnedValue-same p (windows_in table) (points_in net) (initial_points p []) price x.tables spans value valid (initial-points p table points net windows.unanchored begins is)
    (record { is = sideless-value p (windows_in table) (points_in net) x.tables spans gifts price.kind price.forced value found.worth.is; linear = found.linear; even = found.even }) in
    record {
      root = record { table = table; windows = windows; prices = prices.tables.in_order; sound = sound; kind = found.worth.kind; round = found.worth.of_round; earned = here };
      flat = λ least lower. div_ceil_mono least value p.scale (flat-le_leaf p (windows_in table) (initial_points p []) [] x.tables spans price.kind price.forced least value value lower here.is here.linear);
      plans = root-plans p table (initial_points p []) x.tables spans price.kind price.forced value valid among prices.tables.in_order sound covers here.is;
    }
