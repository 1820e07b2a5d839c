-- Spans whose moments are divided into runs: an arc from A to B with trucks of capacity 10 that cost 60, and shipments of 5 from A to B. A
-- truck holds two of them. Each pays a whole truck by the span, which has all the money of one.
use Rattle.std.proofs.Common.{◌≢◌, ℕ, ◌+◌, ◌*◌, zero, suc, ◌≤◌, Bool, true, false, cond, List, [], ◌∷◌, length, Option, Some, None, refl, ap, arith, lit<, lit≤}
use Rattle.std.specs.Prelude.{sum_by}
use Rattle.std.specs.List.{AllZip}
use Rattle.std.specs.Int.{div_ceil}
use Rattle.std.proofs.Math.Nat.{mul-le-mul_left}
use Rattle.fp_base_lists.proofs.Distinct.{AreDistinct-cons, AreDistinct-nil}
use Rattle.fp_base_lists.proofs.Membership.{list_has-first, list_has-rest}
use Rattle.fp_model.specs.declared.parts.Shipment.{Shipment}
use Rattle.fp_model.specs.Problem.{Problem}
use Rattle.fp_flatnet.specs.declared.window_tables.Window.{Window}
use Rattle.fp_prices.specs.declared.tables.Weight.{Weight}
use Rattle.fp_prices_knapsack.specs.Charges.{Pays, trucks_of}
use Rattle.fp_prices_spans.specs.MomentRuns.{group_weights, runs_of}
use Rattle.fp_prices_spans.specs.SpanCharges.{ChargePays, items_of}
use Rattle.fp_prices_spans.specs.SpanRules.{IsSetOf, KeepWithin, KeepsSetRule}
use Rattle.fp_prices_spans.specs.Spans.{ClassSpan}
use Rattle.fp_prices_spans.proofs.EqualWeights.{by_count}

abbrev parcel : ℕ → Shipment
parcel name = record { name = name ∷ []; from = 0; to = 1; size = 5; release = 0; due = 20 }

abbrev road : Problem
road = record {
  terminals = (65 ∷ []) ∷ (66 ∷ []) ∷ [];
  holds = 0 ∷ 0 ∷ [];
  arcs = (record { from = 0; to = 1; time = 5; capacity = 10; truck = 60; freight = 0 }) ∷ [];
  shipments = parcel 49 ∷ parcel 50 ∷ parcel 51 ∷ parcel 52 ∷ parcel 53 ∷ [];
  scale = 1000000;
}

abbrev from_to : ℕ → ℕ → Option Window
from_to lo hi = Some (record { lo = lo; hi = hi })

-- the first shipment may leave from 0 to 4, the second from 6 to 9
abbrev apart : ℕ → ℕ → Option Window
apart zero a = from_to 0 4
apart (suc zero) a = from_to 6 9
apart (suc (suc k)) a = None

-- the first from 0 to 6, the second from 6 to 9: at 6 both may
abbrev touching : ℕ → ℕ → Option Window
touching zero a = from_to 0 6
touching (suc zero) a = from_to 6 9
touching (suc (suc k)) a = None

-- the only first point is 0, so the moments of a span have no end
abbrev start : ℕ → List ℕ
start terminal = 0 ∷ []

abbrev weight : ℕ → Weight
weight k = record { shipment = k; w = 60000000 }

-- a span of the first two shipments, over the points from one up to another
abbrev span : (point until : ℕ) → List ℕ → ℕ → ClassSpan
span point until groups charge = record {
  arc = 0;
  point = point;
  until = until;
  money = 60000000;
  charge = charge;
  weights = weight 0 ∷ weight 1 ∷ [];
  groups = groups;
}

abbrev day : List ℕ → ℕ → ClassSpan
day groups charge = span 0 10 groups charge

-- the windows, the first points and the span under which parts of the charge keep the set rule, run by run
abbrev KeepParts : (ℕ → ℕ → Option Window) → (ℕ → List ℕ) → ClassSpan → List ℕ → Type 0
KeepParts windows first s parts = AllZip (λ run part. KeepWithin road s.arc s.money (group_weights windows s run) part) (runs_of road first s) parts

-- a shipment alone needs no charge, two that share a truck one of 60
first_alone : KeepWithin road 0 60000000 (weight 0 ∷ []) 0
first_alone = by_count road 0 60000000 (weight 0 ∷ []) 0 60000000 5 ((refl, refl), tt) one
  where
    one : (m : ℕ) → 1 ≤ m → m ≤ 1 → m * 60000000 ≤ 60000000 * div_ceil (m * 5) 10 + 0
    one zero some few = omega arith
    one (suc zero) some few = lit≤ tt
    one (suc (suc m)) some few = absurd (omega (arith, few))

second_alone : KeepWithin road 0 60000000 (weight 1 ∷ []) 0
second_alone = by_count road 0 60000000 (weight 1 ∷ []) 0 60000000 5 ((refl, refl), tt) one
  where
    one : (m : ℕ) → 1 ≤ m → m ≤ 1 → m * 60000000 ≤ 60000000 * div_ceil (m * 5) 10 + 0
    one zero some few = omega arith
    one (suc zero) some few = lit≤ tt
    one (suc (suc m)) some few = absurd (omega (arith, few))

both : KeepWithin road 0 60000000 (weight 0 ∷ weight 1 ∷ []) 60000000
both = by_count road 0 60000000 (weight 0 ∷ weight 1 ∷ []) 60000000 60000000 5 ((refl, refl), ((refl, refl), tt)) two
  where
    two : (m : ℕ) → 1 ≤ m → m ≤ 2 → m * 60000000 ≤ 60000000 * div_ceil (m * 5) 10 + 60000000
    two zero some few = omega arith
    two (suc zero) some few = lit≤ tt
    two (suc (suc zero)) some few = lit≤ tt
    two (suc (suc (suc m))) some few = absurd (omega (arith, few))

pair : (j k : ℕ) → k ≢ j → IsSetOf (weight j ∷ weight k ∷ []) (j ∷ k ∷ [])
pair j k differ = record {
  some = λ e. omega (arith, ap length e);
  apart = AreDistinct-cons j (k ∷ []) (differ, tt) (AreDistinct-cons k [] tt AreDistinct-nil);
  among = (list_has-first j (k ∷ []), (list_has-rest j (k ∷ []) k (list_has-first k []), tt));
}

both-need : (part : ℕ) → KeepWithin road 0 60000000 (weight 0 ∷ weight 1 ∷ []) part → 60000000 ≤ part
both-need part keep = omega (arith, keep (0 ∷ 1 ∷ []) (pair 0 1 (λ e. omega (arith, e))))

-- without groups the charge is 60, whatever the windows
undivided : KeepsSetRule road apart start (day [] 60000000)
undivided = record { parts = 60000000 ∷ []; enough = lit≤ tt; keep = (both, tt) }

undivided_breaks : KeepsSetRule road apart start (day [] 59999999) → ⊥
undivided_breaks rule = by_parts rule.parts rule.enough rule.keep
  where
    by_parts : (parts : List ℕ) → sum_by (λ (n : ℕ). n) parts ≤ 59999999 → KeepParts apart start (day [] 59999999) parts → ⊥
    by_parts [] enough keep = keep
    by_parts (a ∷ []) enough keep = absurd (omega (arith, enough, both-need a keep.0))
    by_parts (a ∷ b ∷ parts) enough keep = keep.1

-- where a group begins after the first window and not after the second begins, each run has one of them, and no charge is needed
at_5 : KeepsSetRule road apart start (day (5 ∷ []) 0)
at_5 = record { parts = 0 ∷ 0 ∷ []; enough = lit≤ tt; keep = (first_alone, (second_alone, tt)) }

at_6 : KeepsSetRule road apart start (day (6 ∷ []) 0)
at_6 = record { parts = 0 ∷ 0 ∷ []; enough = lit≤ tt; keep = (first_alone, (second_alone, tt)) }

-- one that begins at 4 has both: the first may leave at 4
at_4_breaks : KeepsSetRule road apart start (day (4 ∷ []) 59999999) → ⊥
at_4_breaks rule = by_parts rule.parts rule.enough rule.keep
  where
    by_parts : (parts : List ℕ) → sum_by (λ (n : ℕ). n) parts ≤ 59999999 → KeepParts apart start (day (4 ∷ []) 59999999) parts → ⊥
    by_parts [] enough keep = keep
    by_parts (a ∷ []) enough keep = keep.1
    by_parts (a ∷ b ∷ []) enough keep = absurd (omega (arith, enough, both-need b keep.1.0))
    by_parts (a ∷ b ∷ c ∷ parts) enough keep = keep.1.1

-- so has one that begins before 7 does: the second may leave at 6
at_7_breaks : KeepsSetRule road touching start (day (7 ∷ []) 59999999) → ⊥
at_7_breaks rule = by_parts rule.parts rule.enough rule.keep
  where
    by_parts : (parts : List ℕ) → sum_by (λ (n : ℕ). n) parts ≤ 59999999 → KeepParts touching start (day (7 ∷ []) 59999999) parts → ⊥
    by_parts [] enough keep = keep
    by_parts (a ∷ []) enough keep = keep.1
    by_parts (a ∷ b ∷ []) enough keep = absurd (omega (arith, enough, both-need a keep.0))
    by_parts (a ∷ b ∷ c ∷ parts) enough keep = keep.1.1

-- windows that meet at 6 alone need the charge, although a group begins there: it has both
touching_breaks : KeepsSetRule road touching start (day (6 ∷ []) 59999999) → ⊥
touching_breaks rule = by_parts rule.parts rule.enough rule.keep
  where
    by_parts : (parts : List ℕ) → sum_by (λ (n : ℕ). n) parts ≤ 59999999 → KeepParts touching start (day (6 ∷ []) 59999999) parts → ⊥
    by_parts [] enough keep = keep
    by_parts (a ∷ []) enough keep = keep.1
    by_parts (a ∷ b ∷ []) enough keep = absurd (omega (arith, enough, both-need b keep.1.0))
    by_parts (a ∷ b ∷ c ∷ parts) enough keep = keep.1.1

-- a shipment whose window misses the moments of a span weighs nothing: those up to 5 end there, where 5 is a first point
abbrev halved : ℕ → List ℕ
halved terminal = 0 ∷ 5 ∷ []

misses_end : KeepsSetRule road apart halved (span 0 5 [] 0)
misses_end = record { parts = 0 ∷ []; enough = lit≤ tt; keep = (first_alone, tt) }

misses_start : KeepsSetRule road apart start (span 5 10 [] 0)
misses_start = record { parts = 0 ∷ []; enough = lit≤ tt; keep = (second_alone, tt) }

-- where the next first point is 7, a departure at 6 may be in the class of a point before 5, so the second counts
abbrev later : ℕ → List ℕ
later terminal = 0 ∷ 7 ∷ []

later_breaks : KeepsSetRule road apart later (span 0 5 [] 59999999) → ⊥
later_breaks rule = by_parts rule.parts rule.enough rule.keep
  where
    by_parts : (parts : List ℕ) → sum_by (λ (n : ℕ). n) parts ≤ 59999999 → KeepParts apart later (span 0 5 [] 59999999) parts → ⊥
    by_parts [] enough keep = keep
    by_parts (a ∷ []) enough keep = absurd (omega (arith, enough, both-need a keep.0))
    by_parts (a ∷ b ∷ parts) enough keep = keep.1

-- the test in grains finds the same: a part of nothing pays for one shipment
one_pays : (k : ℕ) → Pays (items_of road (weight k ∷ [])) 10 60000000 0
one_pays k = record { small = lit< tt; sets = λ set some. omega (arith, at_most (set 0), mul-le-mul_left 60000000 (at_least set)) }
  where
    at_most : (b : Bool) → cond b 60000000 0 + 0 ≤ 60000000
    at_most true = lit≤ tt
    at_most false = lit≤ tt

    at_least : (set : ℕ → Bool) → 1 ≤ trucks_of (items_of road (weight k ∷ [])) 10 set
    at_least set = omega arith

pays_at_5 : ChargePays road apart start (day (5 ∷ []) 0)
pays_at_5 = record { parts = 0 ∷ 0 ∷ []; enough = lit≤ tt; pay = (one_pays 0, (one_pays 1, tt)) }

-- five shipments, each of which may leave at one moment together with the next: from 0 to 2, from 2 to 4, and so on
abbrev chain : ℕ → ℕ → Option Window
chain k a = from_to (2 * k) (2 * k + 2)

abbrev five : List ℕ → ℕ → ClassSpan
five groups charge = record {
  arc = 0;
  point = 0;
  until = 11;
  money = 60000000;
  charge = charge;
  weights = weight 0 ∷ weight 1 ∷ weight 2 ∷ weight 3 ∷ weight 4 ∷ [];
  groups = groups;
}

-- they need three trucks, so the least charge is 120, without groups
five_undivided : KeepsSetRule road chain start (five [] 120000000)
five_undivided = record {
  parts = 120000000 ∷ [];
  enough = lit≤ tt;
  keep = (by_count road 0 60000000 (five [] 0).weights 120000000 60000000 5 ((refl, refl), ((refl, refl), ((refl, refl), ((refl, refl), ((refl, refl), tt))))) fits, tt);
}
  where
    fits : (m : ℕ) → 1 ≤ m → m ≤ 5 → m * 60000000 ≤ 60000000 * div_ceil (m * 5) 10 + 120000000
    fits zero some few = omega arith
    fits (suc zero) some few = lit≤ tt
    fits (suc (suc zero)) some few = lit≤ tt
    fits (suc (suc (suc zero))) some few = lit≤ tt
    fits (suc (suc (suc (suc zero)))) some few = lit≤ tt
    fits (suc (suc (suc (suc (suc zero))))) some few = lit≤ tt
    fits (suc (suc (suc (suc (suc (suc m)))))) some few = absurd (omega (arith, few))

-- and where a group begins at 5: three may leave before, and three from then on
abbrev Three : ℕ → ℕ → ℕ → Type 0
Three i j k = KeepWithin road 0 60000000 (weight i ∷ weight j ∷ weight k ∷ []) 60000000

three_fit : (m : ℕ) → 1 ≤ m → m ≤ 3 → m * 60000000 ≤ 60000000 * div_ceil (m * 5) 10 + 60000000
three_fit zero some few = omega arith
three_fit (suc zero) some few = lit≤ tt
three_fit (suc (suc zero)) some few = lit≤ tt
three_fit (suc (suc (suc zero))) some few = lit≤ tt
three_fit (suc (suc (suc (suc m)))) some few = absurd (omega (arith, few))

five_at_5 : KeepsSetRule road chain start (five (5 ∷ []) 120000000)
five_at_5 = record { parts = 60000000 ∷ 60000000 ∷ []; enough = lit≤ tt; keep = (early, (late, tt)) }
  where
    early : Three 0 1 2
    early = by_count road 0 60000000 (weight 0 ∷ weight 1 ∷ weight 2 ∷ []) 60000000 60000000 5 ((refl, refl), ((refl, refl), ((refl, refl), tt))) three_fit

    late : Three 2 3 4
    late = by_count road 0 60000000 (weight 2 ∷ weight 3 ∷ weight 4 ∷ []) 60000000 60000000 5 ((refl, refl), ((refl, refl), ((refl, refl), tt))) three_fit

-- a group at each moment that two share needs more, since each shipment counts in both of its runs: here groups are of no use
five_divided_breaks : KeepsSetRule road chain start (five (2 ∷ 4 ∷ 6 ∷ 8 ∷ []) 239999999) → ⊥
five_divided_breaks rule = by_parts rule.parts rule.enough rule.keep
  where
    by_parts : (parts : List ℕ) → sum_by (λ (n : ℕ). n) parts ≤ 239999999 → KeepParts chain start (five (2 ∷ 4 ∷ 6 ∷ 8 ∷ []) 239999999) parts → ⊥
    by_parts [] enough keep = keep
    by_parts (a ∷ []) enough keep = keep.1
    by_parts (a ∷ b ∷ []) enough keep = keep.1.1
    by_parts (a ∷ b ∷ c ∷ []) enough keep = keep.1.1.1
    by_parts (a ∷ b ∷ c ∷ d ∷ []) enough keep = keep.1.1.1.1
    by_parts (a ∷ b ∷ c ∷ d ∷ e ∷ []) enough keep =
        absurd (omega (
          arith,
          enough,
          keep.1.0 (0 ∷ 1 ∷ []) (pair 0 1 (λ h. omega (arith, h))),
          keep.1.1.0 (1 ∷ 2 ∷ []) (pair 1 2 (λ h. omega (arith, h))),
          keep.1.1.1.0 (2 ∷ 3 ∷ []) (pair 2 3 (λ h. omega (arith, h))),
          keep.1.1.1.1.0 (3 ∷ 4 ∷ []) (pair 3 4 (λ h. omega (arith, h))),
        ))
    by_parts (a ∷ b ∷ c ∷ d ∷ e ∷ f ∷ parts) enough keep = keep.1.1.1.1.1
