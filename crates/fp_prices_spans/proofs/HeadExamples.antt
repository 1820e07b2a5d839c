-- A leaf that is worth what the cheapest plan costs by its heads, where it isn't by those of the classes: from A over C to D, straight to
-- C by trucks of 100, or over B by trucks of 1 and 1, and then by a truck of 60 that holds two. The first shipment goes from A, from 0 to
-- 30, the second from C, from 10 to 25. Over B the first one comes to C at 20, too late for the second, which leaves it by 15.
use Rattle.std.proofs.Common.{◌≡◌, ℕ, ◌+◌, ◌*◌, zero, suc, ◌<◌, ◌≤◌, true, false, Bool, List, [], ◌∷◌, ◌⊎◌, ⊎_elim, inl, inr, refl, ap, ◌∙◌, subst, arith, lit<, lit≤, rules}
use Rattle.std.specs.Prelude.{Option, Some, None, IsSomeAnd, sum_by}
use Rattle.std.specs.List.{AllByRecursion}
use Rattle.std.specs.Int.{div_ceil}
use Rattle.std.proofs.lemmas.Bool.{false≢true}
use Rattle.std.proofs.lemmas.List.Sums.{sum_by-cons}
use Rattle.fp_base_lists.specs.Membership.{list_has}
use Rattle.fp_base_lists.proofs.Membership.{list_has-cons_cases}
use Rattle.fp_model.specs.declared.parts.Leg.{Leg}
use Rattle.fp_model.specs.Costs.{cost}
use Rattle.fp_model.specs.Problem.{Problem, IsValid, arc_at}
use Rattle.fp_model.specs.Routes.{Leads, arcs_of}
use Rattle.fp_timenodes.proofs.Floors.{IsFloorPoint-floor_point}
use Rattle.fp_flatnet.specs.declared.window_tables.Window.{Window}
use Rattle.fp_allowed.specs.Allowed.{is_allowed}
use Rattle.fp_allowed.specs.Heads.{heads_within}
use Rattle.fp_allowed.specs.Walks.{FollowsHeads, IsWalkBy}
use Rattle.fp_allowed.proofs.AllowedClasses.{HasMoment, is_allowed_parts}
use Rattle.fp_prices.specs.declared.leaf_prices.Kind.TheVariants.{Linear}
use Rattle.fp_prices.specs.Leaves.{IsPlanOfLeaf}
use Rattle.fp_prices_spans.specs.Spans.{ClassSpan}
use Rattle.fp_prices_spans.specs.SpanLeaves.{IsChargeOf, IsCharged, IsSpanLeafValue}
use Rattle.fp_prices_spans.specs.SpanPrices.{holds, leaf_span_price}
use Rattle.fp_prices_spans.specs.SpanRules.{KeepSpanRules}
use Rattle.fp_prices_spans.specs.Ways.{IsLeastCostVia, leaf_ways}
use Rattle.fp_prices_spans.proofs.LeafWays.{least-without_sides}
use Rattle.fp_prices_spans.proofs.EqualWeights.{by_count}
use Rattle.fp_prices_spans.proofs.SpanBounds.{span_leaf-bounds}

abbrev slow : Problem
slow = record {
  terminals = (65 ∷ []) ∷ (66 ∷ []) ∷ (67 ∷ []) ∷ (68 ∷ []) ∷ [];
  holds = 0 ∷ 0 ∷ 0 ∷ 0 ∷ [];
  arcs = (record { from = 0; to = 2; time = 10; capacity = 5; truck = 100; freight = 0 })
      ∷ (record { from = 0; to = 1; time = 10; capacity = 5; truck = 1; freight = 0 })
      ∷ (record { from = 1; to = 2; time = 10; capacity = 5; truck = 1; freight = 0 })
      ∷ (record { from = 2; to = 3; time = 10; capacity = 10; truck = 60; freight = 0 })
      ∷ [];
  shipments = (record { name = 49 ∷ []; from = 0; to = 3; size = 5; release = 0; due = 30 })
      ∷ (record { name = 50 ∷ []; from = 2; to = 3; size = 5; release = 10; due = 25 })
      ∷ [];
  scale = 1000000;
}

-- the first shipment never leaves B before 10, where B has the point 0 alone
abbrev windows : ℕ → ℕ → Option Window
windows zero zero = Some (record { lo = 0; hi = 10 })
windows zero (suc zero) = Some (record { lo = 0; hi = 0 })
windows zero (suc (suc zero)) = Some (record { lo = 10; hi = 10 })
windows zero (suc (suc (suc zero))) = Some (record { lo = 10; hi = 20 })
windows zero (suc (suc (suc (suc a)))) = None
windows (suc k) zero = None
windows (suc k) (suc zero) = None
windows (suc k) (suc (suc zero)) = None
windows (suc k) (suc (suc (suc zero))) = Some (record { lo = 10; hi = 15 })
windows (suc k) (suc (suc (suc (suc a)))) = None

-- the points, where C has one more than 0 and 10
abbrev points : ℕ → ℕ → List ℕ
points at zero = 0 ∷ []
points at (suc zero) = 0 ∷ []
points at (suc (suc zero)) = 0 ∷ 10 ∷ at ∷ []
points at (suc (suc (suc t))) = 0 ∷ []

abbrev leg : ℕ → ℕ → Leg
leg a n = record { arc = a; depart = n }

abbrev allows : ℕ → ℕ → Leg → Bool
allows at k = is_allowed slow windows (points at) [] k

-- the truck to D is the second shipment's before the point, and the first one's from it on
abbrev pays_one : (from until shipment : ℕ) → ClassSpan
pays_one from until shipment = record { arc = 3; point = from; until = until; money = 60000000; charge = 0; weights = (record { shipment = shipment; w = 60000000 }) ∷ []; groups = [] }

abbrev two : ℕ → List ClassSpan
two at = pays_one 10 at 1 ∷ pays_one at 100001 0 ∷ []

abbrev heads : ℕ → ℕ → Leg → ℕ
heads at k = heads_within slow windows (points at) k

-- from B the first shipment comes to the point 16, where the class's own head is 10; with 21 it comes to 10
later : heads 16 0 (leg 2 0) ≡ 16
later = refl

too_late : heads 21 0 (leg 2 0) ≡ 10
too_late = refl

without_window : heads 16 1 (leg 2 0) ≡ 10
without_window = refl

-- an allowed class is at a point of its tail
at_point : (at k : ℕ) (c : Leg) → allows at k c ≡ true → (c.arc < 4) × (list_has (points at (arc_at slow c.arc).from) c.depart ≡ true)
at_point at k c h =
    let parts = is_allowed_parts slow windows (points at) [] k c h in
    (parts.0, depart (windows k c.arc) parts.1)
  where
    zero_first : (t : ℕ) → list_has (points at t) 0 ≡ true
    zero_first zero = refl
    zero_first (suc zero) = refl
    zero_first (suc (suc zero)) = refl
    zero_first (suc (suc (suc t))) = refl

    depart : (o : Option Window) → IsSomeAnd o (HasMoment slow (points at) [] k c) → list_has (points at (arc_at slow c.arc).from) c.depart ≡ true
    depart None has = absurd has
    depart (Some w) has =
        subst (λ (q : ℕ). list_has (points at (arc_at slow c.arc).from) q ≡ true) has.falls
        (IsFloorPoint-floor_point (points at (arc_at slow c.arc).from) has.moment (zero_first (arc_at slow c.arc).from)).0

-- the class of an arc that is told
as_leg : (c : Leg) (a : ℕ) → c.arc ≡ a → c ≡ leg a c.depart
as_leg c a is = ap (λ (n : ℕ). leg n c.depart) is

-- a class that leaves B is that of 0 by the arc to C
from_b : (at k : ℕ) (c : Leg) → allows at k c ≡ true → (arc_at slow c.arc).from ≡ 1 → c ≡ leg 2 0
from_b at k c h from = by_arc c.arc refl (at_point at k c h).0
  where
    zero_alone : (n : ℕ) → list_has (0 ∷ []) n ≡ true → n ≡ 0
    zero_alone n has = ⊎_elim (λ (e : 0 ≡ n). omega (arith, e)) (λ (none : list_has [] n ≡ true). absurd (false≢true none)) (list_has-cons_cases 0 [] n has)

    by_arc : (a : ℕ) → c.arc ≡ a → a < 4 → c ≡ leg 2 0
    by_arc zero is below = absurd (omega (arith, subst (λ (n : ℕ). (arc_at slow n).from ≡ 1) is from))
    by_arc (suc zero) is below = absurd (omega (arith, subst (λ (n : ℕ). (arc_at slow n).from ≡ 1) is from))
    by_arc (suc (suc zero)) is below =
        as_leg c 2 is ∙ ap (leg 2) (zero_alone c.depart (subst (λ (n : ℕ). list_has (points at (arc_at slow n).from) c.depart ≡ true) is (at_point at k c h).1))
    by_arc (suc (suc (suc zero))) is below = absurd (omega (arith, subst (λ (n : ℕ). (arc_at slow n).from ≡ 1) is from))
    by_arc (suc (suc (suc (suc a)))) is below = absurd (omega (arith, below))

-- one that leaves C is by the arc to D
from_c : (at k : ℕ) (c : Leg) → allows at k c ≡ true → (arc_at slow c.arc).from ≡ 2 → (c ≡ leg 3 c.depart) × (list_has (0 ∷ 10 ∷ at ∷ []) c.depart ≡ true)
from_c at k c h from = by_arc c.arc refl (at_point at k c h).0
  where
    by_arc : (a : ℕ) → c.arc ≡ a → a < 4 → (c ≡ leg 3 c.depart) × (list_has (0 ∷ 10 ∷ at ∷ []) c.depart ≡ true)
    by_arc zero is below = absurd (omega (arith, subst (λ (n : ℕ). (arc_at slow n).from ≡ 2) is from))
    by_arc (suc zero) is below = absurd (omega (arith, subst (λ (n : ℕ). (arc_at slow n).from ≡ 2) is from))
    by_arc (suc (suc zero)) is below = absurd (omega (arith, subst (λ (n : ℕ). (arc_at slow n).from ≡ 2) is from))
    by_arc (suc (suc (suc zero))) is below = (as_leg c 3 is, subst (λ (n : ℕ). list_has (points at (arc_at slow n).from) c.depart ≡ true) is (at_point at k c h).1)
    by_arc (suc (suc (suc (suc a)))) is below = absurd (omega (arith, below))

-- and one that leaves A is by the straight arc to C or by that to B
from_a : (at k : ℕ) (c : Leg) → allows at k c ≡ true → (arc_at slow c.arc).from ≡ 0 → (c ≡ leg 0 c.depart) ⊎ (c ≡ leg 1 c.depart)
from_a at k c h from = by_arc c.arc refl (at_point at k c h).0
  where
    by_arc : (a : ℕ) → c.arc ≡ a → a < 4 → (c ≡ leg 0 c.depart) ⊎ (c ≡ leg 1 c.depart)
    by_arc zero is below = inl (as_leg c 0 is)
    by_arc (suc zero) is below = inr (as_leg c 1 is)
    by_arc (suc (suc zero)) is below = absurd (omega (arith, subst (λ (n : ℕ). (arc_at slow n).from ≡ 0) is from))
    by_arc (suc (suc (suc zero))) is below = absurd (omega (arith, subst (λ (n : ℕ). (arc_at slow n).from ≡ 0) is from))
    by_arc (suc (suc (suc (suc a)))) is below = absurd (omega (arith, below))

abbrev none : List (List Leg)
none = [] ∷ [] ∷ []

-- what a shipment pays for a class
abbrev pays : ℕ → ℕ → Leg → ℕ
pays at k c = leaf_span_price slow [] (two at) (allows at) Linear none k 5 c + slow.scale * (arc_at slow c.arc).freight * 5

-- a walk of the first shipment by its heads costs the straight arc, or the way over B and what it pays from the head there on
over_b : (at last : ℕ) → last ≤ 98000000 → ((n : ℕ) → list_has (0 ∷ 10 ∷ at ∷ []) n ≡ true → heads at 0 (leg 2 0) ≤ n → last ≤ pays at 0 (leg 3 n)) → (walk : List Leg) →
    IsWalkBy slow (heads at 0) (allows at 0) (record { name = 49 ∷ []; from = 0; to = 3; size = 5; release = 0; due = 30 }) walk → 2000000 + last ≤ sum_by (pays at 0) walk
over_b at last few from_head [] goes = absurd (omega (arith, goes.leads))
over_b at last few from_head (c ∷ walk) goes =
    ⊎_elim
    (λ (straight : c ≡ leg 0 c.depart). omega (arith, ap (pays at 0) straight, few, sum_by-cons (pays at 0) c walk))
    (λ (round : c ≡ leg 1 c.depart).
    omega (arith, ap (pays at 0) round, sum_by-cons (pays at 0) c walk, second walk goes.leads.2 goes.allowed_all.1 goes.follows.1 (ap (λ (l : Leg). (arc_at slow l.arc).to) round)))
    (from_a at 0 c goes.allowed_all.0 goes.leads.1)
  where
    third : (walk : List Leg) → Leads slow 2 (arcs_of walk) 3 → AllByRecursion (λ l. allows at 0 l ≡ true) walk → FollowsHeads (heads at 0) (heads at 0 (leg 2 0)) walk → last ≤ sum_by (pays at 0) walk
    third [] leads allowed follows = absurd (omega (arith, leads))
    third (f ∷ walk) leads allowed follows =
        let there = from_c at 0 f allowed.0 leads.1 in
        omega (arith, ap (pays at 0) there.0, from_head f.depart there.1 follows.0, sum_by-cons (pays at 0) f walk)

    second : (walk : List Leg) → Leads slow (arc_at slow c.arc).to (arcs_of walk) 3 → AllByRecursion (λ l. allows at 0 l ≡ true) walk → FollowsHeads (heads at 0) (heads at 0 c) walk → (arc_at slow c.arc).to ≡ 1 →
        1000000 + last ≤ sum_by (pays at 0) walk
    second [] leads allowed follows to = absurd (omega (arith, leads, to))
    second (e ∷ walk) leads allowed follows to =
        let is : e ≡ leg 2 0 = from_b at 0 e allowed.0 (leads.1 ∙ to) in
        let rest : Leads slow 2 (arcs_of walk) 3 = subst (λ (l : Leg). Leads slow (arc_at slow l.arc).to (arcs_of walk) 3) is leads.2 in
        let after : FollowsHeads (heads at 0) (heads at 0 (leg 2 0)) walk = subst (λ (l : Leg). FollowsHeads (heads at 0) (heads at 0 l) walk) is follows.1 in
        omega (arith, ap (pays at 0) is, third walk rest allowed.1 after, sum_by-cons (pays at 0) e walk)

-- the second shipment pays the truck to D
second_pays : (at : ℕ) → ((n : ℕ) → list_has (0 ∷ 10 ∷ at ∷ []) n ≡ true → allows at 1 (leg 3 n) ≡ true → 60000000 ≤ pays at 1 (leg 3 n)) → (walk : List Leg) →
    IsWalkBy slow (heads at 1) (allows at 1) (record { name = 50 ∷ []; from = 2; to = 3; size = 5; release = 10; due = 25 }) walk → 60000000 ≤ sum_by (pays at 1) walk
second_pays at each [] goes = absurd (omega (arith, goes.leads))
second_pays at each (c ∷ walk) goes =
    let there = from_c at 1 c goes.allowed_all.0 goes.leads.1 in
    omega (arith, ap (pays at 1) there.0, each c.depart there.1 (subst (λ (l : Leg). allows at 1 l ≡ true) there.0 goes.allowed_all.0), sum_by-cons (pays at 1) c walk)

-- what is so for each of three points
of_three : (P : ℕ → Type 0) (at : ℕ) → P 0 → P 10 → P at → (n : ℕ) → list_has (0 ∷ 10 ∷ at ∷ []) n ≡ true → P n
of_three P at first second third n has =
    ⊎_elim (λ (e : 0 ≡ n). subst P e first)
    (λ (more : list_has (10 ∷ at ∷ []) n ≡ true).
    ⊎_elim (λ (e : 10 ≡ n). subst P e second)
    (λ (last : list_has (at ∷ []) n ≡ true). ⊎_elim (λ (e : at ≡ n). subst P e third) (λ (no : list_has [] n ≡ true). absurd (false≢true no)) (list_has-cons_cases at [] n last))
    (list_has-cons_cases 10 (at ∷ []) n more))
    (list_has-cons_cases 0 (10 ∷ at ∷ []) n has)

-- a span that holds for an allowed class is charged, here with nothing
charged : (at from until shipment n : ℕ) → shipment < 2 → allows at shipment (leg 3 n) ≡ true → holds (pays_one from until shipment) (leg 3 n) ≡ true → IsChargeOf slow (allows at) none (pays_one from until shipment) 0
charged at from until shipment n exists allowed held = inl (record { class = leg 3 n; shipment = shipment; exists = exists; allowed_for_it = allowed; held = held; not_free = refl }, refl)

second_least : (at : ℕ) → allows at 1 (leg 3 10) ≡ true → pays at 1 (leg 3 10) ≡ 60000000 → ((n : ℕ) → list_has (0 ∷ 10 ∷ at ∷ []) n ≡ true → allows at 1 (leg 3 n) ≡ true → 60000000 ≤ pays at 1 (leg 3 n)) →
    IsLeastCostVia slow (heads at 1) (leaf_ways slow [] (two at) 1) (allows at 1) (record { name = 50 ∷ []; from = 2; to = 3; size = 5; release = 10; due = 25 }) (leaf_span_price slow [] (two at) (allows at) Linear none 1 5) 60000000
second_least at allowed price each =
    least-without_sides slow (two at) 1 (heads at 1) (allows at 1) (record { name = 50 ∷ []; from = 2; to = 3; size = 5; release = 10; due = 25 }) (leaf_span_price slow [] (two at) (allows at) Linear none 1 5) 60000000
    (record {
      walk = leg 3 10 ∷ [];
      timed = record { leads = (lit< tt, refl, refl); allowed_all = (allowed, tt); follows = (omega arith, tt) };
      cost = omega (arith, price);
      least = second_pays at each;
    })

-- the first shipment goes over B and by the class of the point at which it comes to C
first_least : (at n last : ℕ) → allows at 0 (leg 1 0) ≡ true → allows at 0 (leg 2 0) ≡ true → allows at 0 (leg 3 n) ≡ true → heads at 0 (leg 1 0) ≡ 0 → heads at 0 (leg 2 0) ≡ n → pays at 0 (leg 3 n) ≡ last → last ≤ 98000000 →
    ((m : ℕ) → list_has (0 ∷ 10 ∷ at ∷ []) m ≡ true → heads at 0 (leg 2 0) ≤ m → last ≤ pays at 0 (leg 3 m)) →
    IsLeastCostVia slow (heads at 0) (leaf_ways slow [] (two at) 0) (allows at 0) (record { name = 49 ∷ []; from = 0; to = 3; size = 5; release = 0; due = 30 }) (leaf_span_price slow [] (two at) (allows at) Linear none 0 5) (2000000 + last)
first_least at n last to_b to_c to_d from_b_on from_c_on price few each =
    least-without_sides slow (two at) 0 (heads at 0) (allows at 0) (record { name = 49 ∷ []; from = 0; to = 3; size = 5; release = 0; due = 30 }) (leaf_span_price slow [] (two at) (allows at) Linear none 0 5) (2000000 + last)
    (record {
      walk = leg 1 0 ∷ leg 2 0 ∷ leg 3 n ∷ [];
      timed = record {
        leads = (lit< tt, refl, (lit< tt, refl, (lit< tt, refl, refl)));
        allowed_all = (to_b, (to_c, (to_d, tt)));
        follows = (omega arith, (omega (arith, from_b_on), (omega (arith, from_c_on), tt)));
      };
      cost = omega (arith, price);
      least = over_b at last few each;
    })

-- with the point 16 the first shipment pays the second truck to D: what the cheapest plan costs
value : IsSpanLeafValue slow windows (points 16) [] [] (two 16) Linear false 122000000
value = record {
  chains = none;
  costs = 62000000 ∷ 60000000 ∷ [];
  charges = 0 ∷ 0 ∷ [];
  are_chains = (refl, (refl, tt));
  are_least = (
    first_least 16 16 60000000 refl refl refl refl refl refl (lit≤ tt)
        (of_three (λ m. 16 ≤ m → 60000000 ≤ pays 16 0 (leg 3 m)) 16 (λ h. absurd (omega (arith, h))) (λ h. absurd (omega (arith, h))) (λ h. lit≤ tt)),
    (
      second_least 16 refl refl
          (of_three (λ m. allows 16 1 (leg 3 m) ≡ true → 60000000 ≤ pays 16 1 (leg 3 m)) 16 (λ h. absurd (false≢true h)) (λ h. lit≤ tt) (λ h. absurd (false≢true h))),
      tt,
    ),
  );
  are_charges = (charged 16 10 16 1 10 (lit< tt) refl refl, (charged 16 16 100001 0 16 (lit< tt) refl refl, tt));
  value_is = refl;
}

-- with 21 it goes by the class of 10, for which it pays nothing
less : IsSpanLeafValue slow windows (points 21) [] [] (two 21) Linear false 62000000
less = record {
  chains = none;
  costs = 2000000 ∷ 60000000 ∷ [];
  charges = 0 ∷ 0 ∷ [];
  are_chains = (refl, (refl, tt));
  are_least = (
    first_least 21 10 0 refl refl refl refl refl refl (lit≤ tt) (λ m has h. omega arith),
    (
      second_least 21 refl refl
          (of_three (λ m. allows 21 1 (leg 3 m) ≡ true → 60000000 ≤ pays 21 1 (leg 3 m)) 21 (λ h. absurd (false≢true h)) (λ h. lit≤ tt) (λ h. absurd (false≢true h))),
      tt,
    ),
  );
  are_charges = (charged 21 10 21 1 10 (lit< tt) refl refl, (inr (unheld, refl), tt));
  value_is = refl;
}
  where
    at_three : (k n : ℕ) → list_has (0 ∷ 10 ∷ 21 ∷ []) n ≡ true → allows 21 k (leg 3 n) ≡ true → holds (pays_one 21 100001 0) (leg 3 n) ≡ true → ⊥
    at_three zero n has =
        of_three (λ m. allows 21 0 (leg 3 m) ≡ true → holds (pays_one 21 100001 0) (leg 3 m) ≡ true → ⊥) 21 (λ a h. false≢true h) (λ a h. false≢true h) (λ a h. false≢true a) n has
    at_three (suc k) n has =
        of_three (λ m. allows 21 (suc k) (leg 3 m) ≡ true → holds (pays_one 21 100001 0) (leg 3 m) ≡ true → ⊥) 21 (λ a h. false≢true h) (λ a h. false≢true h) (λ a h. false≢true a) n has

    -- no shipment may leave C at 21
    unheld : IsCharged slow (allows 21) none (pays_one 21 100001 0) → ⊥
    unheld is = by_arc is.class.arc refl (at_point 21 is.shipment is.class is.allowed_for_it).0
      where
        by_arc : (a : ℕ) → is.class.arc ≡ a → a < 4 → ⊥
        by_arc zero e below = false≢true (subst (λ (l : Leg). holds (pays_one 21 100001 0) l ≡ true) (as_leg is.class 0 e) is.held)
        by_arc (suc zero) e below = false≢true (subst (λ (l : Leg). holds (pays_one 21 100001 0) l ≡ true) (as_leg is.class 1 e) is.held)
        by_arc (suc (suc zero)) e below = false≢true (subst (λ (l : Leg). holds (pays_one 21 100001 0) l ≡ true) (as_leg is.class 2 e) is.held)
        by_arc (suc (suc (suc zero))) e below =
            at_three is.shipment is.class.depart (subst (λ (n : ℕ). list_has (points 21 (arc_at slow n).from) is.class.depart ≡ true) e (at_point 21 is.shipment is.class is.allowed_for_it).1)
            (subst (λ (l : Leg). allows 21 is.shipment l ≡ true) (as_leg is.class 3 e) is.allowed_for_it) (subst (λ (l : Leg). holds (pays_one 21 100001 0) l ≡ true) (as_leg is.class 3 e) is.held)
        by_arc (suc (suc (suc (suc a)))) e below = absurd (omega (arith, below))

keep : KeepSpanRules slow windows (points 16) (two 16)
keep = record {
  money = (lit≤ tt, (lit≤ tt, tt));
  sets = (
    record { parts = 0 ∷ []; enough = lit≤ tt; keep = (by_count slow 3 60000000 (pays_one 10 16 1).weights 0 60000000 5 ((refl, refl), tt) fits, tt) },
    (record { parts = 0 ∷ []; enough = lit≤ tt; keep = (by_count slow 3 60000000 (pays_one 16 100001 0).weights 0 60000000 5 ((refl, refl), tt) fits, tt) }, tt),
  );
}
  where
    fits : (m : ℕ) → 1 ≤ m → m ≤ 1 → m * 60000000 ≤ 60000000 * div_ceil (m * 5) 10 + 0
    fits zero some few = omega arith
    fits (suc zero) some few = lit≤ tt
    fits (suc (suc m)) some few = absurd (omega (arith, few))

valid : IsValid slow
valid = record {
  parts = record {
    few_terminals = lit≤ tt;
    few_arcs = lit≤ tt;
    few_shipments = lit≤ tt;
    names = search rules;
    arcs = search rules;
    shipments = search rules;
    terminals_differ = search rules;
    arcs_differ = search rules;
    shipments_differ = search rules;
    one_each = refl;
    holds = search rules;
  };
  weight = lit< tt;
  scale = (lit≤ tt, lit≤ tt);
  fits = lit< tt;
}

-- so no plan costs less than 122
no_cheaper : (d : ℕ) (plan : List (List Leg)) → IsPlanOfLeaf slow windows [] d plan → 122 ≤ cost slow plan
no_cheaper d plan of_leaf = omega (arith, span_leaf-bounds slow windows (points 16) (points 16) [] [] (two 16) Linear false 122000000 valid (λ t q lt h. h) tt keep value d plan of_leaf)
