-- No plan of a leaf costs less than the leaf is worth under prices by spans, whatever may be paid for a truck of each class.
use Rattle.std.proofs.Common.{◌≡◌, ℕ, ◌+◌, ◌-◌, ◌*◌, ◌≤◌, Bool, true, refl, List, [], ◌∷◌, length, map, ap, ◌∙◌, arith}
use Rattle.std.specs.Prelude.{Option, sum_by}
use Rattle.std.specs.List.{AllByRecursion, AllZip}
use Rattle.std.proofs.lemmas.List.{length-map}
use Rattle.std.proofs.lemmas.List.Elements.{All-get_or, recursion_from_All}
use Rattle.std.proofs.lemmas.Slice.Zip.{AllZip-long}
use Rattle.fp_base_lists.specs.Distinct.{AreDistinct}
use Rattle.fp_base_lists.specs.Numbered.{AllFrom, AllZipFrom}
use Rattle.fp_base_lists.proofs.Numbered.{AllZipFrom-weaker}
use Rattle.fp_base_lists.proofs.Distinct.{AreDistinct-from_map, AreDistinct-tail}
use Rattle.fp_base_lists.proofs.Elements.{AllByRecursion-from_map, AllByRecursion-weaker}
use Rattle.fp_base_lists.proofs.Sums.{sum_by-same, sum_by-scaled}
use Rattle.fp_model.specs.declared.parts.Leg.{Leg}
use Rattle.fp_model.specs.declared.parts.Shipment.{Shipment}
use Rattle.fp_model.specs.Costs.{all_legs, departure_cost, departures_cost, distinct, flow_total, trucks}
use Rattle.fp_model.specs.Problem.{Problem, IsArc, IsValid, arc_at, no_arc}
use Rattle.fp_model.specs.Routes.{Carries, arcs_of, ends_of}
use Rattle.fp_model.proofs.Distinct.{distinct_sum}
use Rattle.fp_model.proofs.Joins.{flow_joins}
use Rattle.fp_flatnet.specs.declared.window_tables.Window.{Window}
use Rattle.fp_longestarcs.specs.Classes.{class_of}
use Rattle.fp_tree.specs.declared.sides.Side.{Side}
use Rattle.fp_allowed.specs.Allowed.{is_allowed}
use Rattle.fp_allowed.proofs.AllowedClasses.{is_allowed_parts}
use Rattle.fp_allowed.proofs.PlanClasses.{plan_timed}
use Rattle.fp_prices.specs.declared.leaf_prices.Kind.{Kind}
use Rattle.fp_prices.specs.Leaves.{IsChain, IsPlanOfLeaf, walk_cost}
use Rattle.fp_prices.specs.Prices.{AllKeepRule}
use Rattle.fp_prices.specs.Shares.{ClassShare}
use Rattle.fp_prices.proofs.ClassPrices.{AreWalks}
use Rattle.fp_prices.proofs.LeafSums.{costs-le_among}
use Rattle.fp_prices.proofs.PlanBounds.{size_at, sizes-agree}
use Rattle.fp_prices.proofs.TakenByClasses.{NoneTwiceInAny, paid}
use Rattle.fp_prices.proofs.Users.{users-few}
use Rattle.fp_prices.proofs.WalkClasses.{AreTimedWalks, chains-among, classes-once, none-twice, used-allowed, used-exist}
use Rattle.fp_prices_spans.specs.MomentRuns.{AreAmong}
use Rattle.fp_prices_spans.specs.Spans.{ClassSpan}
use Rattle.fp_prices_spans.specs.SpanLeaves.{ChargedKeepSetRule, ChargedSpansBoundPlans, IsChargeOf, IsCharged, IsSpanLeafValue, SpanValuesBoundPlans, leaf_heads}
use Rattle.fp_prices_spans.specs.SpanPrices.{leaf_span_price, most_paid}
use Rattle.fp_prices_spans.specs.SpanRules.{KeepsSetRule}
use Rattle.fp_prices_spans.specs.Ways.{IsLeastCostVia, IsWalkVia, leaf_ways}
use Rattle.fp_prices_spans.proofs.ClassSums.{bases-and-span_prices}
use Rattle.fp_prices_spans.proofs.DepartureTrucks.{ArePlanRoutes}
use Rattle.fp_prices_spans.proofs.LeafWays.{leaf_plan-via}
use Rattle.fp_prices_spans.proofs.MoneySums.{most_paid-fits}

-- a plan has no arc twice in a route, since a route enters no terminal twice
arcs-once : (p : Problem) (d : ℕ) (shipments : List Shipment) (plan : List (List Leg)) → AllZip (Carries p d) shipments plan → AllByRecursion (λ legs. AreDistinct (arcs_of legs)) plan
arcs-once p d [] [] is = tt
arcs-once p d [] (r ∷ plan) is = absurd is
arcs-once p d (s ∷ shipments) [] is = absurd is
arcs-once p d (s ∷ shipments) (r ∷ plan) is =
    (AreDistinct-from_map (λ a. (arc_at p a).to) (arcs_of r) (AreDistinct-tail s.from (ends_of p (arcs_of r)) is.0.route.once), arcs-once p d shipments plan is.1)

-- so it has no leg twice in one
legs-once : (plan : List (List Leg)) → AllByRecursion (λ legs. AreDistinct (arcs_of legs)) plan → NoneTwiceInAny plan
legs-once [] apart = tt
legs-once (r ∷ plan) apart = (none-twice r apart.0, legs-once plan apart.1)

-- the classes of its legs are allowed
classes-allowed : (p : Problem) (points : ℕ → List ℕ) (d : ℕ) (allowed : ℕ → Leg → Bool) (i : ℕ) (shipments : List Shipment) (plan : List (List Leg)) →
    AreTimedWalks p points allowed i shipments (map (map (class_of p points d)) plan) → AllFrom (λ k legs. AllByRecursion (λ l. allowed k (class_of p points d l) ≡ true) legs) i plan
classes-allowed p points d allowed i [] [] timed = tt
classes-allowed p points d allowed i [] (r ∷ plan) timed = absurd timed
classes-allowed p points d allowed i (s ∷ shipments) [] timed = absurd timed
classes-allowed p points d allowed i (s ∷ shipments) (r ∷ plan) timed =
    (AllByRecursion-from_map (λ c. allowed i c ≡ true) (class_of p points d) r timed.0.allowed_all, classes-allowed p points d allowed (i + 1) shipments plan timed.1)

-- so much for each truck of a plan's departures, each by its class
abbrev pub limits_for : Problem → (Leg → ℕ) → (Leg → Leg) → List (List Leg) → ℕ
limits_for p limit of plan = distinct_sum (λ l. limit (of l) * trucks p plan l) (all_legs plan)

module _ (p : Problem) (windows : ℕ → ℕ → Option Window) (first points : ℕ → List ℕ) (sides : List Side) (tables : List (List ClassShare)) (spans : List ClassSpan) (kind : Kind) (forced : Bool) (limit : Leg → ℕ) where
  -- where shipments pay no more for a truck of a class than a limit, and each costs at most what its walk in a plan of the leaf does, the
  -- bases and the costs, less the charges, are at most the limits for the plan's trucks, and the flow
  pub span_costs-within : (chains : List (List Leg)) (costs charges : List ℕ) (Via : ℕ → Shipment → List Leg → Type 0) → IsValid p → AreAmong p first points → AllKeepRule p tables →
      AllZipFrom (λ k. IsChain p (is_allowed p windows points sides k) forced) 0 p.shipments chains → AllZip (IsChargeOf p (is_allowed p windows points sides) chains) spans charges →
      AllZipFrom (λ k (s : Shipment) n. (walk : List Leg) → Via k s walk → n ≤ walk_cost p (leaf_span_price p tables spans (is_allowed p windows points sides) kind chains k s.size) s.size walk) 0 p.shipments costs →
      ChargedKeepSetRule p windows first (is_allowed p windows points sides) chains spans → ((c : Leg) → most_paid p spans chains c ≤ limit c) → (d : ℕ) (plan : List (List Leg)) → IsPlanOfLeaf p windows sides d plan →
      AllZipFrom Via 0 p.shipments (map (map (class_of p points d)) plan) →
      p.scale * departures_cost p chains (all_legs chains) + sum_by (λ (n : ℕ). n) costs - sum_by (λ (n : ℕ). n) charges ≤ limits_for p limit (class_of p points d) plan + p.scale * flow_total p p.shipments plan
  span_costs-within chains costs charges Via valid among keep are_chains are_charges at_most sets within_limits d plan of_leaf along =
      let of : Leg → Leg = class_of p points d in
      let walks : List (List Leg) = map (map of) plan in
      let allowed : ℕ → Leg → Bool = is_allowed p windows points sides in
      let price : ℕ → ℕ → Leg → ℕ = λ k size. leaf_span_price p tables spans allowed kind chains k size in
      let timed : AreTimedWalks p points allowed 0 p.shipments walks = plan_timed p windows points sides d plan of_leaf.denominator of_leaf.plan of_leaf.within of_leaf.obeys in
      let each : length plan ≡ length p.shipments = AllZip-long (Carries p d) p.shipments plan of_leaf.plan in
      let long : length walks ≡ length p.shipments = length-map plan (map of) ∙ each in
      let are : AreWalks p allowed (size_at p) chains walks = record {
        long = long;
        sizes = sizes-agree p;
        sized = recursion_from_All (λ (s : Shipment). 1 ≤ s.size) p.shipments (λ k e lt. (valid.parts.shipments k e lt).within.size.0);
        capacity = λ c h. (All-get_or (IsArc (length p.terminals)) p.arcs c.arc no_arc (used-exist p points allowed 0 p.shipments walks c timed h) valid.parts.arcs).within.capacity.0;
        few = λ c. users-few (λ j. allowed j c) 0 p.shipments walks c long (used-allowed p points allowed 0 p.shipments walks c timed);
        among = chains-among p points allowed forced 0 p.shipments chains walks are_chains timed;
      } in
      let arcs : AllByRecursion (λ legs. AreDistinct (arcs_of legs)) plan = arcs-once p d p.shipments plan of_leaf.plan in
      let routes : ArePlanRoutes p (λ k l. allowed k (of l)) plan = record {
        long = each;
        sizes = sizes-agree p;
        once = legs-once plan arcs;
        arcs_once = arcs;
        allows = classes-allowed p points d allowed 0 p.shipments plan timed;
      } in
      let bases : p.scale * departures_cost p chains (all_legs chains) + paid (λ c k. price k (size_at p k) c) 0 walks
      ≤ limits_for p limit of plan + sum_by (λ (n : ℕ). n) charges =
      bases-and-span_prices p windows first points d tables spans allowed kind chains plan charges limit valid (omega (arith, of_leaf.denominator)) among
      (λ k c allows. (is_allowed_parts p windows points sides k c allows).0) keep sets within_limits are
      (classes-once p points d p.shipments plan of_leaf.plan) routes of_leaf.within are_charges in
      let least : sum_by (λ (n : ℕ). n) costs ≤ paid (λ c k. price k (size_at p k) c) 0 walks + p.scale * flow_total p p.shipments walks =
      costs-le_among p Via price (size_at p) 0 p.shipments costs walks (sizes-agree p) at_most along in
      let flow : p.scale * flow_total p p.shipments walks ≡ p.scale * flow_total p p.shipments plan = ap (λ (n : ℕ). p.scale * n) (flow_joins p of (λ l. refl) p.shipments plan) in
      omega (arith, bases, least, flow)

  -- so the value of a leaf is at most the limits for the trucks of each of its plans, and the flow
  pub span_leaf-within : (value : ℕ) → IsValid p → AreAmong p first points → AllKeepRule p tables → (leaf : IsSpanLeafValue p windows points sides tables spans kind forced value) →
      ChargedKeepSetRule p windows first (is_allowed p windows points sides) leaf.chains spans → ((c : Leg) → most_paid p spans leaf.chains c ≤ limit c) → (d : ℕ) (plan : List (List Leg)) → IsPlanOfLeaf p windows sides d plan →
      value ≤ limits_for p limit (class_of p points d) plan + p.scale * flow_total p p.shipments plan
  span_leaf-within value valid among keep leaf sets within_limits d plan of_leaf =
      let allowed : ℕ → Leg → Bool = is_allowed p windows points sides in
      let price : ℕ → ℕ → Leg → ℕ = λ k size. leaf_span_price p tables spans allowed kind leaf.chains k size in
      let Via : ℕ → Shipment → List Leg → Type 0 = λ k s walk. IsWalkVia p (leaf_heads p windows points spans k) (leaf_ways p sides spans k) (allowed k) s walk in
      omega (
        arith,
        leaf.value_is,
        span_costs-within leaf.chains leaf.costs leaf.charges Via valid among keep leaf.are_chains leaf.are_charges
            (AllZipFrom-weaker (λ k (s : Shipment) n. IsLeastCostVia p (leaf_heads p windows points spans k) (leaf_ways p sides spans k) (allowed k) s (price k s.size) n)
            (λ k (s : Shipment) n. (walk : List Leg) → Via k s walk → n ≤ walk_cost p (price k s.size) s.size walk) (λ k s n is. is.least) 0 p.shipments leaf.costs leaf.are_least)
            sets within_limits d plan of_leaf (leaf_plan-via p windows points sides spans d plan of_leaf),
      )

-- what the trucks of a plan cost, at the scale
scaled-trucks : (p : Problem) (of : Leg → Leg) (plan : List (List Leg)) → ((l : Leg) → (of l).arc ≡ l.arc) → limits_for p (λ c. p.scale * (arc_at p c.arc).truck) of plan ≡ p.scale * departures_cost p plan (all_legs plan)
scaled-trucks p of plan keeps =
    sum_by-same (λ l. p.scale * (arc_at p (of l).arc).truck * trucks p plan l) (λ l. p.scale * departure_cost p plan l)
    (λ l. ap (λ (a : ℕ). p.scale * (arc_at p a).truck * trucks p plan l) (keeps l) ∙ (let e : p.scale * (arc_at p l.arc).truck * trucks p plan l ≡ p.scale * departure_cost p plan l = omega arith in e)) (distinct (all_legs plan))
    ∙ sum_by-scaled p.scale (departure_cost p plan) (distinct (all_legs plan))

-- so by spans that keep the money rule, and the set rule where they are charged, it is at most the scaled cost of each of its plans
pub charged_spans-bound : ChargedSpansBoundPlans
charged_spans-bound p windows first points sides tables spans kind forced value valid among keep money leaf sets d plan of_leaf =
    omega (
      arith,
      span_leaf-within p windows first points sides tables spans kind forced (λ c. p.scale * (arc_at p c.arc).truck) value valid among keep leaf sets
          (λ c. most_paid-fits p spans leaf.chains c money) d plan of_leaf,
      scaled-trucks p (class_of p points d) plan (λ l. refl),
    )

-- spans that all keep the set rule keep it where they are charged
pub sets-charged : (p : Problem) (windows : ℕ → ℕ → Option Window) (first : ℕ → List ℕ) (allowed : ℕ → Leg → Bool) (chains : List (List Leg)) (spans : List ClassSpan) →
    AllByRecursion (KeepsSetRule p windows first) spans → ChargedKeepSetRule p windows first allowed chains spans
sets-charged p windows first allowed chains spans sets =
    AllByRecursion-weaker (KeepsSetRule p windows first) (λ span. IsCharged p allowed chains span → KeepsSetRule p windows first span) (λ span keeps charged. keeps) spans sets

-- and so by spans that keep both rules
pub span_leaf-bounds : SpanValuesBoundPlans
span_leaf-bounds p windows first points sides tables spans kind forced value valid among keep rules leaf d plan of_leaf =
    charged_spans-bound p windows first points sides tables spans kind forced value valid among keep rules.money leaf
    (sets-charged p windows first (is_allowed p windows points sides) leaf.chains spans rules.sets) d plan of_leaf
