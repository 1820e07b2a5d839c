-- No plan of a leaf costs less than the leaf is worth under prices with gifts.
use Rattle.std.proofs.Common.{◌≡◌, ℕ, ◌+◌, ◌-◌, ◌*◌, ◌<◌, ◌≤◌, Bool, true, false, List, [], ⊎_elim, ap, subst, arith}
use Rattle.std.specs.Prelude.{Option, sum_by, if◌then◌else◌}
use Rattle.fp_base_lists.specs.Numbered.{AllZipFrom}
use Rattle.fp_base_lists.proofs.Sums.{sum_by-both, sum_by-same, sum_by-scaled}
use Rattle.fp_model.specs.declared.parts.Leg.{Leg}
use Rattle.fp_model.specs.Costs.{all_legs, cost, departure_cost, departures_cost, distinct, flow_total, has_leg, trucks}
use Rattle.fp_model.specs.Problem.{IsValid, Problem, arc_at}
use Rattle.fp_model.proofs.Distinct.{distinct_sum}
use Rattle.fp_flatnet.specs.declared.window_tables.Window.{Window}
use Rattle.fp_longestarcs.specs.Classes.{class_of}
use Rattle.fp_tree.specs.declared.sides.Side.{Side}
use Rattle.fp_allowed.specs.Allowed.{is_allowed}
use Rattle.fp_prices.specs.declared.leaf_prices.Kind.{Kind}
use Rattle.fp_prices.specs.Leaves.{IsChain, IsPlanOfLeaf}
use Rattle.fp_prices.specs.Prices.{AllKeepRule}
use Rattle.fp_prices.specs.Shares.{ClassShare}
use Rattle.fp_prices.proofs.PlainChains.{all_legs-plain}
use Rattle.fp_prices_spans.specs.MomentRuns.{AreAmong}
use Rattle.fp_prices_spans.specs.Spans.{ClassSpan}
use Rattle.fp_prices_spans.specs.SpanLeaves.{ChargedKeepSetRule}
use Rattle.fp_prices_spans.specs.SpanPrices.{is_held, money_at, most_paid}
use Rattle.fp_prices_spans.proofs.MoneySums.{most_paid-fits}
use Rattle.fp_prices_spans.proofs.SoundSpans.{charges-keep_set_rule}
use Rattle.fp_prices_spans.proofs.SpanBounds.{limits_for, sets-charged, span_leaf-within}
use Rattle.fp_prices_spans.proofs.ThroughBounds.{GoesThrough, through-within}
use Rattle.fp_prices_gifts.specs.declared.gifts.Gift.{Gift}
use Rattle.fp_prices_gifts.specs.Gifts.{KeepMoneyRule, least_at, most_at}
use Rattle.fp_prices_gifts.specs.GiftBars.{IsGiftValueThrough}
use Rattle.fp_prices_gifts.specs.GiftLeaves.{ChargedGiftsBoundPlans, GiftValuesBoundPlans, IsGiftLeafValue, IsGiven, IsPlain, RulesWithoutGifts, SoundGiftsKeepRules}
use Rattle.fp_prices_gifts.proofs.GiftSums.{least-given, most-given}

-- what may be paid for a truck of a class
abbrev limit_at : Problem → List Gift → Leg → ℕ
limit_at p gifts c = p.scale * (arc_at p c.arc).truck + most_at gifts c - least_at gifts c

-- without legs in chains, the same is paid as without chains
paid-plain : (p : Problem) (spans : List ClassSpan) (chains : List (List Leg)) (c : Leg) → all_legs chains ≡ [] → most_paid p spans chains c ≡ most_paid p spans [] c
paid-plain p spans chains c none =
    ap (λ (legs : List Leg). if has_leg c legs then p.scale * (arc_at p c.arc).truck else (if is_held spans c then money_at spans c else p.scale * (arc_at p c.arc).truck)) none

-- with chains no more is paid than without, or than a truck costs
paid-within : (p : Problem) (spans : List ClassSpan) (chains : List (List Leg)) (c : Leg) → most_paid p spans [] c ≤ p.scale * (arc_at p c.arc).truck →
    most_paid p spans chains c ≤ p.scale * (arc_at p c.arc).truck
paid-within p spans chains c within = either (has_leg c (all_legs chains)) (most_paid p spans [] c) within
  where
    either : (b : Bool) (free : ℕ) → free ≤ p.scale * (arc_at p c.arc).truck → (if b then p.scale * (arc_at p c.arc).truck else free) ≤ p.scale * (arc_at p c.arc).truck
    either true free le = omega arith
    either false free le = le

-- so no more is paid for a truck of a class at a leaf with these chains than may be paid for it
limits-fit : (p : Problem) (allowed : ℕ → Leg → Bool) (spans : List ClassSpan) (gifts : List Gift) (forced : Bool) (chains : List (List Leg)) →
    KeepMoneyRule p spans gifts → IsPlain gifts forced → AllZipFrom (λ k. IsChain p (allowed k) forced) 0 p.shipments chains → (c : Leg) → most_paid p spans chains c ≤ limit_at p gifts c
limits-fit p allowed spans gifts forced chains rule plain are_chains c =
    ⊎_elim
    (λ (none : gifts ≡ []).
    let least : least_at gifts c ≡ 0 = ap (λ (gs : List Gift). least_at gs c) none in
    let most : most_at gifts c ≡ 0 = ap (λ (gs : List Gift). most_at gs c) none in
    omega (arith, least, most, paid-within p spans chains c (omega (arith, rule c, least, most))))
    (λ (free : forced ≡ false).
    let are : AllZipFrom (λ k. IsChain p (allowed k) false) 0 p.shipments chains =
    subst (λ (b : Bool). AllZipFrom (λ k. IsChain p (allowed k) b) 0 p.shipments chains) free are_chains in
    omega (arith, rule c, paid-plain p spans chains c (all_legs-plain p allowed 0 p.shipments chains are)))
    plain

-- for each truck of a class
spread : (limit least truck most n : ℕ) → limit + least ≡ truck + most → limit * n + least * n ≡ truck * n + most * n
spread limit least truck most n e = omega (arith, ap (λ (m : ℕ). m * n) e)

-- what may be paid for the trucks of a plan, and what is given because at least so many leave, are what the trucks cost, and what is given
-- because at most so many leave
limits-and-gifts : (p : Problem) (spans : List ClassSpan) (gifts : List Gift) (points : ℕ → List ℕ) (d : ℕ) (plan : List (List Leg)) → KeepMoneyRule p spans gifts →
    limits_for p (limit_at p gifts) (class_of p points d) plan + distinct_sum (λ l. least_at gifts (class_of p points d l) * trucks p plan l) (all_legs plan)
    ≡ p.scale * departures_cost p plan (all_legs plan) + distinct_sum (λ l. most_at gifts (class_of p points d l) * trucks p plan l) (all_legs plan)
limits-and-gifts p spans gifts points d plan rule =
    let of : Leg → Leg = class_of p points d in
    let legs : List Leg = distinct (all_legs plan) in
    let limited : Leg → ℕ = λ l. limit_at p gifts (of l) * trucks p plan l in
    let least : Leg → ℕ = λ l. least_at gifts (of l) * trucks p plan l in
    let most : Leg → ℕ = λ l. most_at gifts (of l) * trucks p plan l in
    let each : (l : Leg) → limited l + least l ≡ p.scale * departure_cost p plan l + most l =
    λ l.
    let whole : limit_at p gifts (of l) + least_at gifts (of l) ≡ p.scale * (arc_at p l.arc).truck + most_at gifts (of l) = omega (arith, rule (of l)) in
    omega (arith, spread (limit_at p gifts (of l)) (least_at gifts (of l)) (p.scale * (arc_at p l.arc).truck) (most_at gifts (of l)) (trucks p plan l) whole) in
    let all : sum_by (λ l. limited l + least l) legs ≡ sum_by (λ l. p.scale * departure_cost p plan l + most l) legs = sum_by-same (λ l. limited l + least l) (λ l. p.scale * departure_cost p plan l + most l) each legs in
    omega (
      arith,
      all,
      sum_by-both limited least legs,
      sum_by-both (λ l. p.scale * departure_cost p plan l) most legs,
      sum_by-scaled p.scale (departure_cost p plan) legs,
    )

module _ (p : Problem) (points : ℕ → List ℕ) (sides : List Side) (spans : List ClassSpan) (gifts : List Gift) (money : KeepMoneyRule p spans gifts) (d : ℕ) (plan : List (List Leg)) where
  -- with gifts, a value that is at most what may be paid for the trucks of a plan, and the flow, is at most the plan's scaled cost
  given-within : (windows : ℕ → ℕ → Option Window) (before value : ℕ) → IsGiven p points sides gifts before value → IsPlanOfLeaf p windows sides d plan →
      before ≤ limits_for p (limit_at p gifts) (class_of p points d) plan + p.scale * flow_total p p.shipments plan → value ≤ p.scale * cost p plan
  given-within windows before value given of_leaf within =
      let positive : 0 < d = omega (arith, of_leaf.denominator) in
      omega (
        arith,
        given.value_is,
        within,
        limits-and-gifts p spans gifts points d plan money,
        least-given p points d plan positive of_leaf.plan sides of_leaf.obeys.trucks gifts given.numbers given.ends given.are_numbers,
        most-given p points d plan positive of_leaf.plan sides of_leaf.obeys.trucks gifts given.numbers given.ends given.are_numbers,
      )

  module _ (windows : ℕ → ℕ → Option Window) (first : ℕ → List ℕ) (tables : List (List ClassShare)) (kind : Kind) (forced : Bool) (value : ℕ) (valid : IsValid p) (among : AreAmong p first points) (keep : AllKeepRule p tables)
      (of_leaf : IsPlanOfLeaf p windows sides d plan) where
    -- so the value of a leaf with gifts is at most the scaled cost of each of its plans, where the spans that are charged keep the set rule
    gifts-within : (leaf : IsGiftLeafValue p windows points sides tables spans gifts kind forced value) → ChargedKeepSetRule p windows first (is_allowed p windows points sides) leaf.by_spans.chains spans → value ≤ p.scale * cost p plan
    gifts-within leaf sets =
        given-within windows leaf.before value leaf.given of_leaf
        (span_leaf-within p windows first points sides tables spans kind forced (limit_at p gifts) leaf.before valid among keep leaf.by_spans sets
        (limits-fit p (is_allowed p windows points sides) spans gifts forced leaf.by_spans.chains money leaf.plain leaf.by_spans.are_chains) d plan of_leaf)

    -- and so is the value with a shipment made to go by a class, where it does in the plan
    pub through_gifts-within : (k : ℕ) (class : Leg) → (leaf : IsGiftValueThrough p windows points sides tables spans gifts kind forced k class value) →
        ChargedKeepSetRule p windows first (is_allowed p windows points sides) leaf.by_spans.chains spans → GoesThrough p windows points sides spans k class d plan → value ≤ p.scale * cost p plan
    through_gifts-within k class leaf sets goes =
        given-within windows leaf.before value leaf.given of_leaf
        (through-within p windows points sides spans k class d plan first tables kind forced (limit_at p gifts) leaf.before valid among keep leaf.by_spans sets
        (limits-fit p (is_allowed p windows points sides) spans gifts forced leaf.by_spans.chains money leaf.plain leaf.by_spans.are_chains) of_leaf goes)

pub charged_gifts-bound : ChargedGiftsBoundPlans
charged_gifts-bound p windows first points sides tables spans gifts kind forced value valid among keep money leaf sets d plan of_leaf =
    gifts-within p points sides spans gifts money d plan windows first tables kind forced value valid among keep of_leaf leaf sets

-- so it is where all spans keep it
pub gift_leaf-bounds : GiftValuesBoundPlans
gift_leaf-bounds p windows first points sides tables spans gifts kind forced value valid among keep rules leaf d plan of_leaf =
    charged_gifts-bound p windows first points sides tables spans gifts kind forced value valid among keep rules.money leaf
    (sets-charged p windows first (is_allowed p windows points sides) leaf.by_spans.chains spans rules.sets) d plan of_leaf

-- what the tests of spans and gifts find is what the bound asks
pub sound_gifts-keep_rules : SoundGiftsKeepRules
sound_gifts-keep_rules p windows first spans gifts valid of ordered sound pay = record { money = sound.money; sets = charges-keep_set_rule p windows first spans valid of ordered pay }

pub rules-without_gifts : RulesWithoutGifts
rules-without_gifts p windows first spans rules = record { money = λ c. omega (arith, most_paid-fits p spans [] c rules.money); sets = rules.sets }
