-- Leaves of a small instance under prices by spans: an arc from A to B of time 5 with trucks of capacity 10 that cost 60, and two
-- shipments of 5 from A to B, from 0 to 6. They may leave at any time from 0 to 1, and a truck holds both.
use Rattle.std.proofs.Common.{◌≡◌, ℕ, ◌+◌, ◌-◌, ◌*◌, zero, suc, ◌<◌, ◌≤◌, Bool, true, false, List, [], ◌∷◌, length, ◌⊎◌, ⊎_elim, inl, inr, refl, sym, ap, ap₂, subst, arith, lit<, lit≤, rules}
use Rattle.std.specs.Prelude.{Option, Some, None, IsSomeAnd, sum_by}
use Rattle.std.specs.List.{AllZip}
use Rattle.std.specs.Int.{div_ceil}
use Rattle.std.proofs.lemmas.Bool.{false≢true}
use Rattle.std.proofs.lemmas.List.Sums.{sum_by-cons}
use Rattle.fp_base_lists.proofs.Distinct.{AreDistinct-cons, AreDistinct-nil}
use Rattle.fp_model.specs.declared.parts.Leg.{Leg}
use Rattle.fp_model.specs.declared.parts.Shipment.{Shipment}
use Rattle.fp_model.specs.Costs.{all_legs, cost, has_leg}
use Rattle.fp_model.specs.Problem.{Problem, IsValid, arc_at}
use Rattle.fp_timenodes.specs.Floor.{floor_point}
use Rattle.fp_flatnet.specs.declared.window_tables.Window.{Window}
use Rattle.fp_allowed.specs.Allowed.{IsForcedChain, is_allowed}
use Rattle.fp_allowed.specs.Walks.{IsWalkBy}
use Rattle.fp_allowed.proofs.AllowedClasses.{HasMoment, is_allowed_parts}
use Rattle.fp_prices.specs.declared.leaf_prices.Kind.TheVariants.{Linear}
use Rattle.fp_prices.specs.Leaves.{IsPlanOfLeaf}
use Rattle.fp_prices_spans.specs.MomentRuns.{group_weights, runs_of}
use Rattle.fp_prices_spans.specs.Spans.{ClassSpan}
use Rattle.fp_prices_spans.specs.SpanLeaves.{IsCharged, IsChargeOf, IsSpanLeafValue, leaf_heads}
use Rattle.fp_prices_spans.specs.SpanPrices.{holds, leaf_span_price, money_at, span_price}
use Rattle.fp_prices_spans.specs.SpanRules.{IsSetOf, KeepSpanRules, KeepWithin, KeepsMoneyRule, KeepsSetRule}
use Rattle.fp_prices_spans.specs.Ways.{IsLeastCostVia, leaf_ways}
use Rattle.fp_prices_spans.proofs.LeafWays.{least-without_sides}
use Rattle.fp_prices_spans.proofs.EqualWeights.{by_count}
use Rattle.fp_prices_spans.proofs.SpanBounds.{span_leaf-bounds}

abbrev parcel : ℕ → Shipment
parcel name = record { name = name ∷ []; from = 0; to = 1; size = 5; release = 0; due = 6 }

abbrev road : Problem
road = record {
  terminals = (65 ∷ []) ∷ (66 ∷ []) ∷ [];
  holds = 0 ∷ 0 ∷ [];
  arcs = (record { from = 0; to = 1; time = 5; capacity = 10; truck = 60; freight = 0 }) ∷ [];
  shipments = parcel 49 ∷ parcel 50 ∷ [];
  scale = 1000000;
}

abbrev windows : ℕ → ℕ → Option Window
windows k zero = Some (record { lo = 0; hi = 1 })
windows k (suc a) = None

-- the points, where A has these
abbrev points : List ℕ → ℕ → List ℕ
points qs zero = qs
points qs (suc t) = 0 ∷ []

-- A has the point 0 alone, or the points 0 and 1
abbrev alone : List ℕ
alone = 0 ∷ []

abbrev both : List ℕ
both = 0 ∷ 1 ∷ []

abbrev leg : ℕ → Leg
leg n = record { arc = 0; depart = n }

abbrev allows : List ℕ → ℕ → Leg → Bool
allows qs k = is_allowed road windows (points qs) [] k

-- a class that is allowed is that of 0 or that of 1
of_two : (qs : List ℕ) (k : ℕ) (c : Leg) → allows qs k c ≡ true → (c ≡ leg (floor_point qs 1 0)) ⊎ (c ≡ leg (floor_point qs 1 1))
of_two qs k c h = by_arc c.arc refl (is_allowed_parts road windows (points qs) [] k c h)
  where
    by_moment : (m : ℕ) → c.arc ≡ 0 → m ≤ 1 → floor_point qs 1 m ≡ c.depart → (c ≡ leg (floor_point qs 1 0)) ⊎ (c ≡ leg (floor_point qs 1 1))
    by_moment zero is below falls = inl (ap₂ (λ (a n : ℕ). record { arc = a; depart = n }) is (sym falls))
    by_moment (suc zero) is below falls = inr (ap₂ (λ (a n : ℕ). record { arc = a; depart = n }) is (sym falls))
    by_moment (suc (suc m)) is below falls = absurd (omega (arith, below))

    by_arc : (a : ℕ) → c.arc ≡ a → (c.arc < length road.arcs) × IsSomeAnd (windows k c.arc) (HasMoment road (points qs) [] k c) → (c ≡ leg (floor_point qs 1 0)) ⊎ (c ≡ leg (floor_point qs 1 1))
    by_arc zero is parts =
        let has : HasMoment road (points qs) [] k c (record { lo = 0; hi = 1 }) =
        subst (λ (a : ℕ). IsSomeAnd (windows k a) (HasMoment road (points qs) [] k c)) is parts.1 in
        let falls : floor_point qs 1 has.moment ≡ c.depart =
        subst (λ (a : ℕ). floor_point (points qs (arc_at road a).from) 1 has.moment ≡ c.depart) is has.falls in
        by_moment has.moment is has.before falls
    by_arc (suc a) is parts = absurd (omega (arith, parts.0, is))

-- so an allowed walk pays for one of them at least, whatever the heads
walk_pays : (qs : List ℕ) (heads : Leg → ℕ) (k name n : ℕ) (pay : Leg → ℕ) → n ≤ pay (leg (floor_point qs 1 0)) → n ≤ pay (leg (floor_point qs 1 1)) → (walk : List Leg) →
    IsWalkBy road heads (allows qs k) (parcel name) walk → n ≤ sum_by pay walk
walk_pays qs heads k name n pay first second [] timed = absurd (omega (arith, timed.leads))
walk_pays qs heads k name n pay first second (c ∷ walk) timed =
    ⊎_elim
    (λ (e : c ≡ leg (floor_point qs 1 0)). omega (arith, ap pay e, first, sum_by-cons pay c walk))
    (λ (e : c ≡ leg (floor_point qs 1 1)). omega (arith, ap pay e, second, sum_by-cons pay c walk))
    (of_two qs k c timed.allowed_all.0)

-- what a shipment pays for a class where nothing is forced
abbrev pays : List ℕ → List ClassSpan → ℕ → Leg → ℕ
pays qs spans k c = leaf_span_price road [] spans (allows qs) Linear ([] ∷ [] ∷ []) k 5 c + road.scale * (arc_at road c.arc).freight * 5

-- a shipment goes by the class of a point that is no dearer than the other
least_by : (qs : List ℕ) (spans : List ClassSpan) (k name q : ℕ) → allows qs k (leg q) ≡ true → pays qs spans k (leg q) ≤ pays qs spans k (leg (floor_point qs 1 0)) →
    pays qs spans k (leg q) ≤ pays qs spans k (leg (floor_point qs 1 1)) →
    IsLeastCostVia road (leaf_heads road windows (points qs) spans k) (leaf_ways road [] spans k) (allows qs k) (parcel name) (leaf_span_price road [] spans (allows qs) Linear ([] ∷ [] ∷ []) k 5) (pays qs spans k (leg q))
least_by qs spans k name q allowed first second =
    least-without_sides road spans k (leaf_heads road windows (points qs) spans k) (allows qs k) (parcel name) (leaf_span_price road [] spans (allows qs) Linear ([] ∷ [] ∷ []) k 5) (pays qs spans k (leg q))
    (record {
      walk = leg q ∷ [];
      timed = record { leads = (lit< tt, refl, refl); allowed_all = (allowed, tt); follows = (omega arith, tt) };
      cost = omega arith;
      least = walk_pays qs (leaf_heads road windows (points qs) spans k) k name (pays qs spans k (leg q)) (pays qs spans k) first second;
    })

-- the value where the shipments go by the classes of these points, and the spans take so much off
plain : (qs : List ℕ) (spans : List ClassSpan) (q r : ℕ) (charges : List ℕ) → allows qs 0 (leg q) ≡ true → allows qs 1 (leg r) ≡ true →
    pays qs spans 0 (leg q) ≤ pays qs spans 0 (leg (floor_point qs 1 0)) → pays qs spans 0 (leg q) ≤ pays qs spans 0 (leg (floor_point qs 1 1)) →
    pays qs spans 1 (leg r) ≤ pays qs spans 1 (leg (floor_point qs 1 0)) → pays qs spans 1 (leg r) ≤ pays qs spans 1 (leg (floor_point qs 1 1)) →
    AllZip (IsChargeOf road (allows qs) ([] ∷ [] ∷ [])) spans charges →
    IsSpanLeafValue road windows (points qs) [] [] spans Linear false (pays qs spans 0 (leg q) + pays qs spans 1 (leg r) - sum_by (λ (n : ℕ). n) charges)
plain qs spans q r charges q_allowed r_allowed q_first q_second r_first r_second are = record {
  chains = [] ∷ [] ∷ [];
  costs = pays qs spans 0 (leg q) ∷ pays qs spans 1 (leg r) ∷ [];
  charges = charges;
  are_chains = (refl, (refl, tt));
  are_least = (least_by qs spans 0 49 q q_allowed q_first q_second, (least_by qs spans 1 50 r r_allowed r_first r_second, tt));
  are_charges = are;
  value_is = omega arith;
}

-- the span has all the money of a truck, and each of the shipments pays it all: the charge is what they pay beyond one truck
abbrev whole : ℕ → ClassSpan
whole charge = record {
  arc = 0;
  point = 0;
  until = 2;
  money = 60000000;
  charge = charge;
  weights = (record { shipment = 0; w = 60000000 }) ∷ (record { shipment = 1; w = 60000000 }) ∷ [];
  groups = [];
}

-- it holds for a class that is allowed for the first shipment
whole_charged : (qs : List ℕ) (charge : ℕ) → allows qs 0 (leg 0) ≡ true → IsChargeOf road (allows qs) ([] ∷ [] ∷ []) (whole charge) charge
whole_charged qs charge allowed = inl (record { class = leg 0; shipment = 0; exists = lit< tt; allowed_for_it = allowed; held = refl; not_free = refl }, refl)

-- two shipments that pay 60 each, less the charge of 60: the one truck that they need
one_truck : IsSpanLeafValue road windows (points alone) [] [] (whole 60000000 ∷ []) Linear false 60000000
one_truck = plain alone (whole 60000000 ∷ []) 0 0 (60000000 ∷ []) refl refl (lit≤ tt) (lit≤ tt) (lit≤ tt) (lit≤ tt) (whole_charged alone 60000000 refl, tt)

-- each of them may use two classes of the span: it pays for the one that it uses, and the charge is taken off once
once : IsSpanLeafValue road windows (points both) [] [] (whole 60000000 ∷ []) Linear false 60000000
once = plain both (whole 60000000 ∷ []) 0 1 (60000000 ∷ []) refl refl (lit≤ tt) (lit≤ tt) (lit≤ tt) (lit≤ tt) (whole_charged both 60000000 refl, tt)

-- a charge of 60 keeps the rules, and a part less doesn't
whole_keeps : KeepSpanRules road windows (points both) (whole 60000000 ∷ [])
whole_keeps = record {
  money = (lit≤ tt, tt);
  sets = (record { parts = 60000000 ∷ []; enough = lit≤ tt; keep = (by_count road 0 60000000 (whole 60000000).weights 60000000 60000000 5 ((refl, refl), ((refl, refl), tt)) fits, tt) }, tt);
}
  where
    fits : (m : ℕ) → 1 ≤ m → m ≤ 2 → m * 60000000 ≤ 60000000 * div_ceil (m * 5) 10 + 60000000
    fits zero some few = omega arith
    fits (suc zero) some few = lit≤ tt
    fits (suc (suc zero)) some few = lit≤ tt
    fits (suc (suc (suc m))) some few = absurd (omega (arith, few))

two : IsSetOf (whole 0).weights (0 ∷ 1 ∷ [])
two = record { some = λ e. omega (arith, ap length e); apart = AreDistinct-cons 0 (1 ∷ []) ((λ e. omega (arith, e)), tt) (AreDistinct-cons 1 [] tt AreDistinct-nil); among = (refl, (refl, tt)) }

whole_breaks : KeepsSetRule road windows (points both) (whole 59999999) → ⊥
whole_breaks rule = by_part rule.parts rule.enough rule.keep
  where
    by_part : (parts : List ℕ) → sum_by (λ (n : ℕ). n) parts ≤ 59999999 →
        AllZip (λ run part. KeepWithin road 0 60000000 (group_weights windows (whole 59999999) run) part) (runs_of road (points both) (whole 59999999)) parts → ⊥
    by_part [] enough keep = keep
    by_part (part ∷ []) enough keep = absurd (omega (arith, keep.0 (0 ∷ 1 ∷ []) two, enough))
    by_part (part ∷ more ∷ parts) enough keep = keep.1

-- so no plan costs less than 60
no_cheaper : (d : ℕ) (plan : List (List Leg)) → IsPlanOfLeaf road windows [] d plan → 60 ≤ cost road plan
no_cheaper d plan of_leaf =
    omega (arith, span_leaf-bounds road windows (points both) (points both) [] [] (whole 60000000 ∷ []) Linear false 60000000 valid (λ t q lt h. h) tt whole_keeps once d plan of_leaf)
  where
    valid : IsValid road
    valid = record {
      parts = record {
        few_terminals = lit≤ tt;
        few_arcs = lit≤ tt;
        few_shipments = lit≤ tt;
        names = search rules;
        arcs = search rules;
        shipments = search rules;
        terminals_differ = search rules;
        arcs_differ = search rules;
        shipments_differ = search rules;
        one_each = refl;
        holds = search rules;
      };
      weight = lit< tt;
      scale = (lit≤ tt, lit≤ tt);
      fits = lit< tt;
    }

-- a span of the class of 0, by which the first shipment pays, and one of the classes of 0 and 1, by which both pay
abbrev short : ℕ → ClassSpan
short money = record { arc = 0; point = 0; until = 1; money = money; charge = 0; weights = (record { shipment = 0; w = 20000000 }) ∷ []; groups = [] }

abbrev long : ClassSpan
long = record {
  arc = 0;
  point = 0;
  until = 2;
  money = 40000000;
  charge = 40000000;
  weights = (record { shipment = 0; w = 40000000 }) ∷ (record { shipment = 1; w = 40000000 }) ∷ [];
  groups = [];
}

abbrev over : List ClassSpan
over = short 20000000 ∷ long ∷ []

-- at 0 both hold: together they have the money of a truck, and the first shipment pays both weights
both_money : money_at over (leg 0) ≡ 60000000
both_money = refl

both_prices : span_price over 0 (leg 0) ≡ 60000000
both_prices = refl

-- at 1 the long one holds alone, and at 2 none
one_price : span_price over 0 (leg 1) ≡ 40000000
one_price = refl

no_money : money_at over (leg 2) ≡ 0
no_money = refl

over_keep : KeepSpanRules road windows (points both) over
over_keep = record {
  money = (lit≤ tt, (lit≤ tt, tt));
  sets = (
    record { parts = 0 ∷ []; enough = lit≤ tt; keep = (by_count road 0 20000000 (short 20000000).weights 0 20000000 5 ((refl, refl), tt) fits_one, tt) },
    (record { parts = 40000000 ∷ []; enough = lit≤ tt; keep = (by_count road 0 40000000 long.weights 40000000 40000000 5 ((refl, refl), ((refl, refl), tt)) fits_two, tt) }, tt),
  );
}
  where
    fits_one : (m : ℕ) → 1 ≤ m → m ≤ 1 → m * 20000000 ≤ 20000000 * div_ceil (m * 5) 10 + 0
    fits_one zero some few = omega arith
    fits_one (suc zero) some few = lit≤ tt
    fits_one (suc (suc m)) some few = absurd (omega (arith, few))

    fits_two : (m : ℕ) → 1 ≤ m → m ≤ 2 → m * 40000000 ≤ 40000000 * div_ceil (m * 5) 10 + 40000000
    fits_two zero some few = omega arith
    fits_two (suc zero) some few = lit≤ tt
    fits_two (suc (suc zero)) some few = lit≤ tt
    fits_two (suc (suc (suc m))) some few = absurd (omega (arith, few))

-- with a part more the money at 0 is more than a truck's
over_breaks : KeepsMoneyRule road (short 20000001 ∷ long ∷ []) (short 20000001) → ⊥
over_breaks rule = absurd (omega (arith, rule))

-- the first shipment goes by the class of 1, where it pays 40, and the second pays 40 by either; both charges are taken off
over_value : IsSpanLeafValue road windows (points both) [] [] over Linear false 40000000
over_value =
    plain both over 1 0 (0 ∷ 40000000 ∷ []) refl refl (lit≤ tt) (lit≤ tt) (lit≤ tt) (lit≤ tt) (
      inl (record { class = leg 0; shipment = 0; exists = lit< tt; allowed_for_it = refl; held = refl; not_free = refl }, refl),
      (inl (record { class = leg 1; shipment = 1; exists = lit< tt; allowed_for_it = refl; held = refl; not_free = refl }, refl), tt),
    )

-- a span that holds for no class of the leaf takes nothing off
abbrev far : ClassSpan
far = record { arc = 0; point = 2; until = 9; money = 60000000; charge = 10000000; weights = []; groups = [] }

far_uncharged : IsCharged road (allows both) ([] ∷ [] ∷ []) far → ⊥
far_uncharged is =
    ⊎_elim
    (λ (e : is.class ≡ leg 0). false≢true (subst (λ (c : Leg). holds far c ≡ true) e is.held))
    (λ (e : is.class ≡ leg 1). false≢true (subst (λ (c : Leg). holds far c ≡ true) e is.held))
    (of_two both is.shipment is.class is.allowed_for_it)

far_value : IsSpanLeafValue road windows (points both) [] [] (whole 60000000 ∷ far ∷ []) Linear false 60000000
far_value =
    plain both (whole 60000000 ∷ far ∷ []) 0 1 (60000000 ∷ 0 ∷ []) refl refl (lit≤ tt) (lit≤ tt) (lit≤ tt) (lit≤ tt)
    (whole_charged both 60000000 refl, (inr (far_uncharged, refl), tt))

-- where A has the point 0 alone its class is forced for both: the bases pay its truck, the shipments nothing, and nothing is taken off
forced_chain : (k name : ℕ) → allows alone k (leg 0) ≡ true → IsForcedChain road (allows alone k) (parcel name) (leg 0 ∷ [])
forced_chain k name allowed = record {
  forced = (
    λ e. omega (arith, e),
    tt,
    record { is_allowed = allowed; leaves = refl; alone = λ c h from. ⊎_elim (λ (e : c ≡ leg 0). e) (λ (e : c ≡ leg 0). e) (of_two alone k c h) },
    tt,
  );
  whole = λ c h. h.3.0 refl;
}

abbrev chains : List (List Leg)
chains = (leg 0 ∷ []) ∷ (leg 0 ∷ []) ∷ []

free_by : (k name : ℕ) → allows alone k (leg 0) ≡ true →
    IsLeastCostVia road (leaf_heads road windows (points alone) (whole 60000000 ∷ []) k) (leaf_ways road [] (whole 60000000 ∷ []) k) (allows alone k) (parcel name) (leaf_span_price road [] (whole 60000000 ∷ []) (allows alone) Linear chains k 5) 0
free_by k name allowed =
    least-without_sides road (whole 60000000 ∷ []) k (leaf_heads road windows (points alone) (whole 60000000 ∷ []) k) (allows alone k) (parcel name) (leaf_span_price road [] (whole 60000000 ∷ []) (allows alone) Linear chains k 5) 0
    (record {
      walk = leg 0 ∷ [];
      timed = record { leads = (lit< tt, refl, refl); allowed_all = (allowed, tt); follows = (omega arith, tt) };
      cost = refl;
      least = λ other timed. omega arith;
    })

whole_free : IsCharged road (allows alone) chains (whole 60000000) → ⊥
whole_free is =
    let at : is.class ≡ leg 0 = ⊎_elim (λ (e : is.class ≡ leg 0). e) (λ (e : is.class ≡ leg 0). e) (of_two alone is.shipment is.class is.allowed_for_it) in
    false≢true (sym (subst (λ (c : Leg). has_leg c (all_legs chains) ≡ false) at is.not_free))

forced_value : IsSpanLeafValue road windows (points alone) [] [] (whole 60000000 ∷ []) Linear true 60000000
forced_value = record {
  chains = chains;
  costs = 0 ∷ 0 ∷ [];
  charges = 0 ∷ [];
  are_chains = (forced_chain 0 49 refl, (forced_chain 1 50 refl, tt));
  are_least = (free_by 0 49 refl, (free_by 1 50 refl, tt));
  are_charges = (inr (whole_free, refl), tt);
  value_is = refl;
}
