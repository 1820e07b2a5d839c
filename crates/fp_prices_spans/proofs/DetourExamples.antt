-- A leaf that is worth what the cheapest plan costs: an arc from A to B with trucks of capacity 6 that cost 60, beside a way over C by two
-- arcs with trucks of 6 that cost 30, and three shipments of 5 from A to B. No two fit into a truck, so each pays for trucks of its own,
-- whichever way it goes. By linear prices they pay 150, by spans without a charge 180.
use Rattle.std.proofs.Common.{◌≡◌, ℕ, ◌+◌, ◌*◌, zero, suc, ◌<◌, ◌≤◌, Bool, true, false, List, [], ◌∷◌, ◌⊎◌, ⊎_elim, inl, inr, refl, sym, ap, ◌∙◌, arith, lit<, lit≤, rules}
use Rattle.std.specs.Prelude.{Option, Some, None, IsSomeAnd, sum_by, nat_eq, ◌&&◌}
use Rattle.std.specs.List.{AllZip}
use Rattle.std.specs.Int.{div_ceil}
use Rattle.std.proofs.lemmas.Bool.{false≢true}
use Rattle.std.proofs.lemmas.List.Sums.{sum_by-cons}
use Rattle.fp_base_lists.specs.Membership.{list_has}
use Rattle.fp_base_lists.proofs.Membership.{list_has-cons_cases}
use Rattle.fp_model.specs.declared.parts.Leg.{Leg}
use Rattle.fp_model.specs.declared.parts.Shipment.{Shipment}
use Rattle.fp_model.specs.Costs.{cost}
use Rattle.fp_model.specs.Problem.{Problem, IsValid, arc_at}
use Rattle.fp_timenodes.specs.Floor.{floor_point}
use Rattle.fp_timenodes.proofs.Floors.{floor_is}
use Rattle.fp_flatnet.specs.declared.window_tables.Window.{Window}
use Rattle.fp_allowed.specs.Allowed.{is_allowed}
use Rattle.fp_allowed.specs.Walks.{IsWalkBy}
use Rattle.fp_allowed.proofs.AllowedClasses.{HasMoment, is_allowed_parts}
use Rattle.fp_prices.specs.declared.leaf_prices.Kind.TheVariants.{Linear}
use Rattle.fp_prices.specs.Leaves.{IsPlanOfLeaf}
use Rattle.fp_prices_spans.specs.MomentRuns.{group_weights, runs_of}
use Rattle.fp_prices_spans.specs.Spans.{ClassSpan}
use Rattle.fp_prices_spans.specs.SpanLeaves.{IsChargeOf, IsSpanLeafValue, leaf_heads}
use Rattle.fp_prices_spans.specs.SpanPrices.{leaf_span_price}
use Rattle.fp_prices_spans.specs.SpanRules.{KeepSpanRules, KeepWithin, KeepsSetRule}
use Rattle.fp_prices_spans.specs.Ways.{IsLeastCostVia, leaf_ways}
use Rattle.fp_prices_spans.proofs.LeafWays.{least-without_sides}
use Rattle.fp_prices_spans.proofs.EqualWeights.{by_count}
use Rattle.fp_prices_spans.proofs.SpanBounds.{span_leaf-bounds}

abbrev load : ℕ → Shipment
load name = record { name = name ∷ []; from = 0; to = 1; size = 5; release = 0; due = 20 }

abbrev detour : Problem
detour = record {
  terminals = (65 ∷ []) ∷ (66 ∷ []) ∷ (67 ∷ []) ∷ [];
  holds = 0 ∷ 0 ∷ 0 ∷ [];
  arcs = (record { from = 0; to = 1; time = 5; capacity = 6; truck = 60; freight = 0 })
      ∷ (record { from = 0; to = 2; time = 4; capacity = 6; truck = 30; freight = 0 })
      ∷ (record { from = 2; to = 1; time = 4; capacity = 6; truck = 30; freight = 0 })
      ∷ [];
  shipments = load 49 ∷ load 50 ∷ load 51 ∷ [];
  scale = 1000000;
}

abbrev windows : ℕ → ℕ → Option Window
windows k zero = Some (record { lo = 0; hi = 15 })
windows k (suc zero) = Some (record { lo = 0; hi = 12 })
windows k (suc (suc zero)) = Some (record { lo = 4; hi = 16 })
windows k (suc (suc (suc a))) = None

abbrev points : ℕ → List ℕ
points t = 0 ∷ []

abbrev leg : ℕ → Leg
leg a = record { arc = a; depart = 0 }

abbrev allows : ℕ → Leg → Bool
allows k = is_allowed detour windows points [] k

floor_zero : (m : ℕ) → floor_point (0 ∷ []) 1 m ≡ 0
floor_zero m = floor_is (0 ∷ []) 1 m 0 refl (omega arith) (λ q has below. ⊎_elim (λ (e : 0 ≡ q). omega (arith, e)) (λ (none : list_has [] q ≡ true). absurd (false≢true none)) (list_has-cons_cases 0 [] q has))

-- each class that is allowed is that of an arc at 0
at_zero : (k : ℕ) (c : Leg) → allows k c ≡ true → (c.arc < 3) × (c ≡ leg c.arc)
at_zero k c h =
    let parts = is_allowed_parts detour windows points [] k c h in
    (parts.0, ap (λ (n : ℕ). record { arc = c.arc; depart = n }) (depart (windows k c.arc) parts.1))
  where
    depart : (o : Option Window) → IsSomeAnd o (HasMoment detour points [] k c) → c.depart ≡ 0
    depart None has = absurd has
    depart (Some w) has = sym has.falls ∙ floor_zero has.moment

-- a class that leaves A is that of the straight arc or of the first arc of the way round; one that leaves C is that of the second
from_a : (pay : Leg → ℕ) (k : ℕ) (c : Leg) → allows k c ≡ true → (arc_at detour c.arc).from ≡ 0 → ((pay c ≡ pay (leg 0)) × ((arc_at detour c.arc).to ≡ 1)) ⊎ ((pay c ≡ pay (leg 1)) × ((arc_at detour c.arc).to ≡ 2))
from_a pay k c h from = by_arc c.arc (at_zero k c h).0 (at_zero k c h).1 from
  where
    by_arc : (a : ℕ) → a < 3 → c ≡ leg a → (arc_at detour a).from ≡ 0 → ((pay c ≡ pay (leg 0)) × ((arc_at detour a).to ≡ 1)) ⊎ ((pay c ≡ pay (leg 1)) × ((arc_at detour a).to ≡ 2))
    by_arc zero below is there = inl (ap pay is, refl)
    by_arc (suc zero) below is there = inr (ap pay is, refl)
    by_arc (suc (suc zero)) below is there = absurd (omega (arith, there))
    by_arc (suc (suc (suc a))) below is there = absurd (omega (arith, below))

from_c : (pay : Leg → ℕ) (k : ℕ) (c : Leg) → allows k c ≡ true → (arc_at detour c.arc).from ≡ 2 → pay c ≡ pay (leg 2)
from_c pay k c h from = by_arc c.arc (at_zero k c h).0 (at_zero k c h).1 from
  where
    by_arc : (a : ℕ) → a < 3 → c ≡ leg a → (arc_at detour a).from ≡ 2 → pay c ≡ pay (leg 2)
    by_arc zero below is there = absurd (omega (arith, there))
    by_arc (suc zero) below is there = absurd (omega (arith, there))
    by_arc (suc (suc zero)) below is there = ap pay is
    by_arc (suc (suc (suc a))) below is there = absurd (omega (arith, below))

-- an allowed walk pays for the straight arc, or for both arcs of the way round, whatever the heads
walk_pays : (heads : Leg → ℕ) (k name n : ℕ) (pay : Leg → ℕ) → n ≤ pay (leg 0) → n ≤ pay (leg 1) + pay (leg 2) → (walk : List Leg) → IsWalkBy detour heads (allows k) (load name) walk →
    n ≤ sum_by pay walk
walk_pays heads k name n pay straight round [] timed = absurd (omega (arith, timed.leads))
walk_pays heads k name n pay straight round (c ∷ walk) timed =
    ⊎_elim
    (λ (there : (pay c ≡ pay (leg 0)) × ((arc_at detour c.arc).to ≡ 1)). omega (arith, there.0, straight, sum_by-cons pay c walk))
    (λ (half : (pay c ≡ pay (leg 1)) × ((arc_at detour c.arc).to ≡ 2)). omega (arith, half.0, round, sum_by-cons pay c walk, rest walk timed half.1))
    (from_a pay k c timed.allowed_all.0 timed.leads.1)
  where
    rest : (walk : List Leg) → IsWalkBy detour heads (allows k) (load name) (c ∷ walk) → (arc_at detour c.arc).to ≡ 2 → pay (leg 2) ≤ sum_by pay walk
    rest [] timed to = absurd (omega (arith, timed.leads.2, to))
    rest (e ∷ walk) timed to = omega (arith, from_c pay k e timed.allowed_all.1.0 (timed.leads.2.1 ∙ to), sum_by-cons pay e walk)

-- all shipments pay the same by a span, which has all the money of its arc's truck and no charge
abbrev each : ℕ → ℕ → ClassSpan
each a w = record {
  arc = a;
  point = 0;
  until = 100;
  money = w;
  charge = 0;
  weights = (record { shipment = 0; w = w }) ∷ (record { shipment = 1; w = w }) ∷ (record { shipment = 2; w = w }) ∷ [];
  groups = [];
}

abbrev three : List ClassSpan
three = each 0 60000000 ∷ each 1 30000000 ∷ each 2 30000000 ∷ []

keep : KeepSpanRules detour windows points three
keep = record {
  money = (lit≤ tt, (lit≤ tt, (lit≤ tt, tt)));
  sets = (
    without_charge (each 0 60000000) (by_count detour 0 60000000 (each 0 60000000).weights 0 60000000 5 ((refl, refl), ((refl, refl), ((refl, refl), tt))) whole, tt),
    (
      without_charge (each 1 30000000) (by_count detour 1 30000000 (each 1 30000000).weights 0 30000000 5 ((refl, refl), ((refl, refl), ((refl, refl), tt))) half, tt),
      (without_charge (each 2 30000000) (by_count detour 2 30000000 (each 2 30000000).weights 0 30000000 5 ((refl, refl), ((refl, refl), ((refl, refl), tt))) half, tt), tt),
    ),
  );
}
  where
    without_charge : (span : ClassSpan) → AllZip (λ run part. KeepWithin detour span.arc span.money (group_weights windows span run) part) (runs_of detour points span) (0 ∷ []) → KeepsSetRule detour windows points span
    without_charge span within = record { parts = 0 ∷ []; enough = omega arith; keep = within }

    whole : (m : ℕ) → 1 ≤ m → m ≤ 3 → m * 60000000 ≤ 60000000 * div_ceil (m * 5) 6 + 0
    whole zero some few = omega arith
    whole (suc zero) some few = lit≤ tt
    whole (suc (suc zero)) some few = lit≤ tt
    whole (suc (suc (suc zero))) some few = lit≤ tt
    whole (suc (suc (suc (suc m)))) some few = absurd (omega (arith, few))

    half : (m : ℕ) → 1 ≤ m → m ≤ 3 → m * 30000000 ≤ 30000000 * div_ceil (m * 5) 6 + 0
    half zero some few = omega arith
    half (suc zero) some few = lit≤ tt
    half (suc (suc zero)) some few = lit≤ tt
    half (suc (suc (suc zero))) some few = lit≤ tt
    half (suc (suc (suc (suc m)))) some few = absurd (omega (arith, few))

-- what a shipment pays for a class by spans, and by linear prices beside them
abbrev pays : List ClassSpan → ℕ → Leg → ℕ
pays spans k c = leaf_span_price detour [] spans allows Linear ([] ∷ [] ∷ [] ∷ []) k 5 c + detour.scale * (arc_at detour c.arc).freight * 5

least : (spans : List ClassSpan) (k name n : ℕ) → allows k (leg 0) ≡ true → pays spans k (leg 0) ≡ n → n ≤ pays spans k (leg 1) + pays spans k (leg 2) →
    IsLeastCostVia detour (leaf_heads detour windows points spans k) (leaf_ways detour [] spans k) (allows k) (load name) (leaf_span_price detour [] spans allows Linear ([] ∷ [] ∷ [] ∷ []) k 5) n
least spans k name n allowed straight round =
    least-without_sides detour spans k (leaf_heads detour windows points spans k) (allows k) (load name) (leaf_span_price detour [] spans allows Linear ([] ∷ [] ∷ [] ∷ []) k 5) n
    (record {
      walk = leg 0 ∷ [];
      timed = record { leads = (lit< tt, refl, refl); allowed_all = (allowed, tt); follows = (omega arith, tt) };
      cost = omega (arith, straight);
      least = walk_pays (leaf_heads detour windows points spans k) k name n (pays spans k) (omega (arith, straight)) round;
    })

-- by linear prices each pays 50, either way
linear_value : IsSpanLeafValue detour windows points [] [] [] Linear false 150000000
linear_value = record {
  chains = [] ∷ [] ∷ [] ∷ [];
  costs = 50000000 ∷ 50000000 ∷ 50000000 ∷ [];
  charges = [];
  are_chains = (refl, (refl, (refl, tt)));
  are_least = (least [] 0 49 50000000 refl refl (lit≤ tt), (least [] 1 50 50000000 refl refl (lit≤ tt), (least [] 2 51 50000000 refl refl (lit≤ tt), tt)));
  are_charges = tt;
  value_is = refl;
}

charged : (a w : ℕ) → allows 0 (leg a) ≡ true → nat_eq a a ≡ true → IsChargeOf detour allows ([] ∷ [] ∷ [] ∷ []) (each a w) 0
charged a w allowed same = inl (record { class = leg a; shipment = 0; exists = lit< tt; allowed_for_it = allowed; held = ap (λ (b : Bool). b && true) same; not_free = refl }, refl)

value : IsSpanLeafValue detour windows points [] [] three Linear false 180000000
value = record {
  chains = [] ∷ [] ∷ [] ∷ [];
  costs = 60000000 ∷ 60000000 ∷ 60000000 ∷ [];
  charges = 0 ∷ 0 ∷ 0 ∷ [];
  are_chains = (refl, (refl, (refl, tt)));
  are_least = (
    least three 0 49 60000000 refl refl (lit≤ tt),
    (least three 1 50 60000000 refl refl (lit≤ tt), (least three 2 51 60000000 refl refl (lit≤ tt), tt)),
  );
  are_charges = (charged 0 60000000 refl refl, (charged 1 30000000 refl refl, (charged 2 30000000 refl refl, tt)));
  value_is = refl;
}

valid : IsValid detour
valid = record {
  parts = record {
    few_terminals = lit≤ tt;
    few_arcs = lit≤ tt;
    few_shipments = lit≤ tt;
    names = search rules;
    arcs = search rules;
    shipments = search rules;
    terminals_differ = search rules;
    arcs_differ = search rules;
    shipments_differ = search rules;
    one_each = refl;
    holds = search rules;
  };
  weight = lit< tt;
  scale = (lit≤ tt, lit≤ tt);
  fits = lit< tt;
}

-- so no plan costs less than 180
no_cheaper : (d : ℕ) (plan : List (List Leg)) → IsPlanOfLeaf detour windows [] d plan → 180 ≤ cost detour plan
no_cheaper d plan of_leaf = omega (arith, span_leaf-bounds detour windows points points [] [] three Linear false 180000000 valid (λ t q lt h. h) tt keep value d plan of_leaf)
