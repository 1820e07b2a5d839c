-- Leaves of a small instance: arcs from A to B of time 4 and from B to C of time 5, each with trucks of capacity 10 that cost 100;
-- one shipment of 4 from A to C, from 0 to 9, and one of 4 from B to C, from 0 to 8. They can't share a truck.
use Rattle.std.proofs.Common.{◌≡◌, ℕ, ◌+◌, ◌*◌, zero, suc, ◌<◌, ◌≤◌, Bool, true, false, List, [], ◌∷◌, length, ◌⊎◌, ⊎_elim, inl, inr, refl, sym, ap, ap₂, ◌∙◌, subst, arith, lit<, lit≤, rules}
use Rattle.std.specs.Prelude.{Option, Some, None, IsSomeAnd, sum_by}
use Rattle.std.proofs.lemmas.Bool.{false≢true}
use Rattle.std.proofs.lemmas.List.Sums.{sum_by-cons}
use Rattle.fp_model.specs.declared.parts.Leg.{Leg}
use Rattle.fp_model.specs.declared.parts.Shipment.{Shipment}
use Rattle.fp_model.specs.Problem.{Problem, IsValid, arc_at}
use Rattle.fp_model.specs.Costs.{cost}
use Rattle.fp_timenodes.specs.Floor.{floor_point}
use Rattle.fp_flatnet.specs.declared.window_tables.Window.{Window}
use Rattle.fp_tree.specs.declared.sides.Side.{Side}
use Rattle.fp_tree.specs.declared.sides.Side.TheVariants.{Without}
use Rattle.fp_allowed.specs.Allowed.{IsForcedChain, is_allowed}
use Rattle.fp_allowed.specs.Walks.{IsTimedWalk}
use Rattle.fp_allowed.proofs.AllowedClasses.{HasMoment, is_allowed_parts}
use Rattle.fp_prices.specs.declared.leaf_prices.Kind.{Kind}
use Rattle.fp_prices.specs.declared.leaf_prices.Kind.TheVariants.{Linear, Even, Table}
use Rattle.fp_prices.specs.Shares.{ClassShare}
use Rattle.fp_prices.specs.Prices.{AllKeepRule}
use Rattle.fp_prices.specs.Leaves.{IsLeafEmpty, IsLeafValue, IsLeastCost, IsPlanOfLeaf, leaf_price, walk_cost}
use Rattle.fp_prices.proofs.PlanBounds.{leaf-bounds}

abbrev first : Shipment
first = record { name = 49 ∷ []; from = 0; to = 2; size = 4; release = 0; due = 9 }

abbrev second : Shipment
second = record { name = 50 ∷ []; from = 1; to = 2; size = 4; release = 0; due = 8 }

abbrev crossing : Problem
crossing = record {
  terminals = (65 ∷ []) ∷ (66 ∷ []) ∷ (67 ∷ []) ∷ [];
  holds = 0 ∷ 0 ∷ 0 ∷ [];
  arcs = (record { from = 0; to = 1; time = 4; capacity = 10; truck = 100; freight = 0 }) ∷ (record { from = 1; to = 2; time = 5; capacity = 10; truck = 100; freight = 0 }) ∷ [];
  shipments = first ∷ second ∷ [];
  scale = 1000000;
}

abbrev windows : ℕ → ℕ → Option Window
windows zero zero = Some (record { lo = 0; hi = 0 })
windows zero (suc zero) = Some (record { lo = 4; hi = 4 })
windows (suc zero) (suc zero) = Some (record { lo = 0; hi = 3 })
windows k a = None

-- the points, where B has these
abbrev points : List ℕ → ℕ → List ℕ
points qs zero = 0 ∷ []
points qs (suc zero) = qs
points qs (suc (suc t)) = 0 ∷ 8 ∷ 9 ∷ []

-- the points of B as of the round 0, and as of the round 1
abbrev early : List ℕ
early = 0 ∷ []

abbrev later : List ℕ
later = 0 ∷ 4 ∷ []

abbrev leg : ℕ → ℕ → Leg
leg a n = record { arc = a; depart = n }

-- which classes are allowed for a shipment, where B has these points
abbrev allows : List ℕ → List Side → ℕ → Leg → Bool
allows qs sides k = is_allowed crossing windows (points qs) sides k

-- where the arc of the class is known, so are the window and the points of its tail
moment-by : (qs : List ℕ) (sides : List Side) (k : ℕ) (c : Leg) (a : ℕ) → c.arc ≡ a → IsSomeAnd (windows k c.arc) (HasMoment crossing (points qs) sides k c) →
    IsSomeAnd (windows k a) (λ w. (m : ℕ) × (w.lo ≤ m) × (m ≤ w.hi) × (floor_point (points qs (arc_at crossing a).from) 1 m ≡ c.depart))
moment-by qs sides k c a is some =
    subst (λ (b : ℕ). IsSomeAnd (windows k b) (λ w. (m : ℕ) × (w.lo ≤ m) × (m ≤ w.hi) × (floor_point (points qs (arc_at crossing b).from) 1 m ≡ c.depart))) is (parts (windows k c.arc) some)
  where
    parts : (o : Option Window) → IsSomeAnd o (HasMoment crossing (points qs) sides k c) →
        IsSomeAnd o (λ w. (m : ℕ) × (w.lo ≤ m) × (m ≤ w.hi) × (floor_point (points qs (arc_at crossing c.arc).from) 1 m ≡ c.depart))
    parts None has = has
    parts (Some w) has = (has.moment, has.after, has.before, has.falls)

-- the first shipment may use no other classes
of_first : (qs : List ℕ) (sides : List Side) (c : Leg) → allows qs sides 0 c ≡ true → (c ≡ leg 0 0) ⊎ (c ≡ leg 1 (floor_point qs 1 4))
of_first qs sides c h = by_arc c.arc refl (is_allowed_parts crossing windows (points qs) sides 0 c h)
  where
    by_arc : (a : ℕ) → c.arc ≡ a → (c.arc < length crossing.arcs) × IsSomeAnd (windows 0 c.arc) (HasMoment crossing (points qs) sides 0 c) → (c ≡ leg 0 0) ⊎ (c ≡ leg 1 (floor_point qs 1 4))
    by_arc zero is parts =
        let m = moment-by qs sides 0 c 0 is parts.1 in
        let at : m.0 ≡ 0 = omega (arith, m.2) in
        inl (ap₂ leg is (sym m.3 ∙ ap (floor_point (0 ∷ []) 1) at))
    by_arc (suc zero) is parts =
        let m = moment-by qs sides 0 c 1 is parts.1 in
        let at : m.0 ≡ 4 = omega (arith, m.1, m.2) in
        inr (ap₂ leg is (sym m.3 ∙ ap (floor_point qs 1) at))
    by_arc (suc (suc a)) is parts = absurd (omega (arith, parts.0, is))

-- nor may the second, where B has no point from 1 to 3
of_second : (qs : List ℕ) (sides : List Side) (c : Leg) → ((m : ℕ) → m ≤ 3 → floor_point qs 1 m ≡ 0) → allows qs sides 1 c ≡ true → c ≡ leg 1 0
of_second qs sides c low h = by_arc c.arc refl (is_allowed_parts crossing windows (points qs) sides 1 c h)
  where
    by_arc : (a : ℕ) → c.arc ≡ a → (c.arc < length crossing.arcs) × IsSomeAnd (windows 1 c.arc) (HasMoment crossing (points qs) sides 1 c) → c ≡ leg 1 0
    by_arc zero is parts = absurd (moment-by qs sides 1 c 0 is parts.1)
    by_arc (suc zero) is parts =
        let m = moment-by qs sides 1 c 1 is parts.1 in
        ap₂ leg is (sym m.3 ∙ low m.0 m.2)
    by_arc (suc (suc a)) is parts = absurd (omega (arith, parts.0, is))

low_early : (m : ℕ) → m ≤ 3 → floor_point early 1 m ≡ 0
low_early zero h = refl
low_early (suc zero) h = refl
low_early (suc (suc zero)) h = refl
low_early (suc (suc (suc zero))) h = refl
low_early (suc (suc (suc (suc m)))) h = absurd (omega (arith, h))

low_later : (m : ℕ) → m ≤ 3 → floor_point later 1 m ≡ 0
low_later zero h = refl
low_later (suc zero) h = refl
low_later (suc (suc zero)) h = refl
low_later (suc (suc (suc zero))) h = refl
low_later (suc (suc (suc (suc m)))) h = absurd (omega (arith, h))

-- each allowed class of the first shipment is the one from A, or the one from B
abbrev AreTwo : ℕ → (Leg → Bool) → Type 0
AreTwo b allowed = (c : Leg) → allowed c ≡ true → (c ≡ leg 0 0) ⊎ (c ≡ leg 1 b)

from_a : (b : ℕ) (allowed : Leg → Bool) → AreTwo b allowed → (c : Leg) → allowed c ≡ true → (arc_at crossing c.arc).from ≡ 0 → c ≡ leg 0 0
from_a b allowed two c h from =
    ⊎_elim (λ (e : c ≡ leg 0 0). e) (λ (e : c ≡ leg 1 b). let at : 1 ≡ 0 = subst (λ (l : Leg). (arc_at crossing l.arc).from ≡ 0) e from in absurd (omega (arith, at))) (two c h)

from_b : (b : ℕ) (allowed : Leg → Bool) → AreTwo b allowed → (c : Leg) → allowed c ≡ true → (arc_at crossing c.arc).from ≡ 1 → c ≡ leg 1 b
from_b b allowed two c h from =
    ⊎_elim (λ (e : c ≡ leg 0 0). let at : 0 ≡ 1 = subst (λ (l : Leg). (arc_at crossing l.arc).from ≡ 1) e from in absurd (omega (arith, at))) (λ (e : c ≡ leg 1 b). e) (two c h)

-- so both are forced
first_chain : (b : ℕ) (allowed : Leg → Bool) → AreTwo b allowed → allowed (leg 0 0) ≡ true → allowed (leg 1 b) ≡ true → IsForcedChain crossing allowed first (leg 0 0 ∷ leg 1 b ∷ [])
first_chain b allowed two at_a at_b = record {
  forced = (
    λ e. omega (arith, e),
    tt,
    record { is_allowed = at_a; leaves = refl; alone = from_a b allowed two },
    (λ e. omega (arith, e), ((λ e. omega (arith, e)), tt), record { is_allowed = at_b; leaves = refl; alone = from_b b allowed two }, tt),
  );
  whole = λ c h. h.3.3.0 refl;
}

second_chain : (allowed : Leg → Bool) → ((c : Leg) → allowed c ≡ true → c ≡ leg 1 0) → allowed (leg 1 0) ≡ true → IsForcedChain crossing allowed second (leg 1 0 ∷ [])
second_chain allowed one at_b = record {
  forced = (λ e. omega (arith, e), tt, record { is_allowed = at_b; leaves = refl; alone = λ c h from. one c h }, tt);
  whole = λ c h. h.3.0 refl;
}

-- and each allowed walk pays for both
first_pays : (qs : List ℕ) (b : ℕ) (allowed : Leg → Bool) (pay : Leg → ℕ) → AreTwo b allowed → (walk : List Leg) → IsTimedWalk crossing (points qs) allowed first walk →
    pay (leg 0 0) + pay (leg 1 b) ≤ sum_by pay walk
first_pays qs b allowed pay two [] t = absurd (omega (arith, t.leads))
first_pays qs b allowed pay two (x ∷ []) t =
    let at_a : x ≡ leg 0 0 = from_a b allowed two x t.allowed_all.0 t.leads.1 in
    let at : 1 ≡ 2 = subst (λ (l : Leg). (arc_at crossing l.arc).to ≡ 2) at_a t.leads.2 in
    absurd (omega (arith, at))
first_pays qs b allowed pay two (x ∷ y ∷ walk) t =
    let at_a : x ≡ leg 0 0 = from_a b allowed two x t.allowed_all.0 t.leads.1 in
    let reached : (arc_at crossing y.arc).from ≡ 1 = subst (λ (l : Leg). (arc_at crossing y.arc).from ≡ (arc_at crossing l.arc).to) at_a t.leads.2.1 in
    let at_b : y ≡ leg 1 b = from_b b allowed two y t.allowed_all.1.0 reached in
    omega (arith, ap pay at_a, ap pay at_b, sum_by-cons pay x (y ∷ walk), sum_by-cons pay y walk)

second_pays : (qs : List ℕ) (allowed : Leg → Bool) (pay : Leg → ℕ) → ((c : Leg) → allowed c ≡ true → c ≡ leg 1 0) → (walk : List Leg) → IsTimedWalk crossing (points qs) allowed second walk →
    pay (leg 1 0) ≤ sum_by pay walk
second_pays qs allowed pay one [] t = absurd (omega (arith, t.leads))
second_pays qs allowed pay one (x ∷ walk) t = omega (arith, ap pay (one x t.allowed_all.0), sum_by-cons pay x walk)

-- the timed walks of the shipments
first_walks : (qs : List ℕ) (b : ℕ) (allowed : Leg → Bool) → floor_point qs 1 4 ≤ b → allowed (leg 0 0) ≡ true → allowed (leg 1 b) ≡ true →
    IsTimedWalk crossing (points qs) allowed first (leg 0 0 ∷ leg 1 b ∷ [])
first_walks qs b allowed follows at_a at_b = record { leads = (lit< tt, refl, (lit< tt, refl, refl)); allowed_all = (at_a, (at_b, tt)); follows = (lit≤ tt, (follows, tt)) }

second_walks : (qs : List ℕ) (allowed : Leg → Bool) → allowed (leg 1 0) ≡ true → IsTimedWalk crossing (points qs) allowed second (leg 1 0 ∷ [])
second_walks qs allowed at_b = record { leads = (lit< tt, refl, refl); allowed_all = (at_b, tt); follows = (lit≤ tt, tt) }

-- what a shipment pays for a class, where nothing is forced
abbrev pays : List ℕ → List (List ClassShare) → Kind → ℕ → Leg → ℕ
pays qs tables kind k c = leaf_price crossing tables (allows qs []) kind ([] ∷ [] ∷ []) k 4 c + crossing.scale * (arc_at crossing c.arc).freight * 4

-- the value of a leaf where nothing is forced: what the classes of the two walks cost
plain : (qs : List ℕ) (b : ℕ) (tables : List (List ClassShare)) (kind : Kind) → floor_point qs 1 4 ≤ b → AreTwo b (allows qs [] 0) → ((m : ℕ) → m ≤ 3 → floor_point qs 1 m ≡ 0) →
    allows qs [] 0 (leg 0 0) ≡ true → allows qs [] 0 (leg 1 b) ≡ true → allows qs [] 1 (leg 1 0) ≡ true →
    IsLeafValue crossing windows (points qs) [] tables kind false (pays qs tables kind 0 (leg 0 0) + pays qs tables kind 0 (leg 1 b) + pays qs tables kind 1 (leg 1 0))
plain qs b tables kind follows two low at_a at_b second_at_b =
    let first_pay : Leg → ℕ = pays qs tables kind 0 in
    let second_pay : Leg → ℕ = pays qs tables kind 1 in
    record {
      chains = [] ∷ [] ∷ [];
      costs = (first_pay (leg 0 0) + first_pay (leg 1 b)) ∷ second_pay (leg 1 0) ∷ [];
      are_chains = (refl, (refl, tt));
      are_least = (
        record {
          walk = leg 0 0 ∷ leg 1 b ∷ [];
          timed = first_walks qs b (allows qs [] 0) follows at_a at_b;
          cost = omega arith;
          least = first_pays qs b (allows qs [] 0) first_pay two;
        },
        (
          record {
            walk = leg 1 0 ∷ [];
            timed = second_walks qs (allows qs [] 1) second_at_b;
            cost = omega arith;
            least = second_pays qs (allows qs [] 1) second_pay (λ c. of_second qs [] c low);
          },
          tt,
        ),
      );
      value_is = omega arith;
    }

-- the linear prices: 40 for each class and shipment, so 120 in all
plain_linear : IsLeafValue crossing windows (points early) [] [] Linear false 120000000
plain_linear = plain early 0 [] Linear (lit≤ tt) (of_first early []) low_early refl refl refl

-- the even prices: 100 for the class from A, and 50 for that from B for each of both shipments
plain_even : IsLeafValue crossing windows (points early) [] [] Even false 200000000
plain_even = plain early 0 [] Even (lit≤ tt) (of_first early []) low_early refl refl refl

-- with the point at 4 each class has one shipment, so they pay for three trucks
later_even : IsLeafValue crossing windows (points later) [] [] Even false 300000000
later_even = plain later 4 [] Even (lit≤ tt) (of_first later []) low_later refl refl refl

-- a table by which the first shipment pays for the trucks from A and from B at 4, and the second for those from B at 0
abbrev weighed : List ClassShare
weighed =
    (record { arc = 0; point = 0; v = 0; weights = (record { shipment = 0; w = 100000000 }) ∷ [] })
    ∷ (record { arc = 1; point = 0; v = 0; weights = (record { shipment = 1; w = 100000000 }) ∷ [] })
    ∷ (record { arc = 1; point = 4; v = 0; weights = (record { shipment = 0; w = 100000000 }) ∷ [] })
    ∷ []

keeps_rule : AllKeepRule crossing (weighed ∷ [])
keeps_rule = ((lit≤ tt, (lit≤ tt, (lit≤ tt, tt))), tt)

later_weighed : IsLeafValue crossing windows (points later) [] (weighed ∷ []) (Table 1) false 300000000
later_weighed = plain later 4 (weighed ∷ []) (Table 1) (lit≤ tt) (of_first later []) low_later refl refl refl

-- at the round 0 the first shipment has no weight for the class from B
early_weighed : IsLeafValue crossing windows (points early) [] (weighed ∷ []) (Table 1) false 200000000
early_weighed = plain early 0 (weighed ∷ []) (Table 1) (lit≤ tt) (of_first early []) low_early refl refl refl

-- a leaf all of whose classes are forced costs its shipments nothing more
free_first : (qs : List ℕ) (b : ℕ) (chains : List (List Leg)) → floor_point qs 1 4 ≤ b → allows qs [] 0 (leg 0 0) ≡ true → allows qs [] 0 (leg 1 b) ≡ true →
    walk_cost crossing (leaf_price crossing [] (allows qs []) Linear chains 0 4) 4 (leg 0 0 ∷ leg 1 b ∷ []) ≡ 0 →
    IsLeastCost crossing (points qs) (allows qs [] 0) first (leaf_price crossing [] (allows qs []) Linear chains 0 4) 0
free_first qs b chains follows at_a at_b free =
    record { walk = leg 0 0 ∷ leg 1 b ∷ []; timed = first_walks qs b (allows qs [] 0) follows at_a at_b; cost = free; least = λ other t. omega arith }

free_second : (qs : List ℕ) (chains : List (List Leg)) → allows qs [] 1 (leg 1 0) ≡ true → walk_cost crossing (leaf_price crossing [] (allows qs []) Linear chains 1 4) 4 (leg 1 0 ∷ []) ≡ 0 →
    IsLeastCost crossing (points qs) (allows qs [] 1) second (leaf_price crossing [] (allows qs []) Linear chains 1 4) 0
free_second qs chains at_b free = record { walk = leg 1 0 ∷ []; timed = second_walks qs (allows qs [] 1) at_b; cost = free; least = λ other t. omega arith }

-- a truck from A, and one from B for both
forced_early : IsLeafValue crossing windows (points early) [] [] Linear true 200000000
forced_early =
    let chains : List (List Leg) = (leg 0 0 ∷ leg 1 0 ∷ []) ∷ (leg 1 0 ∷ []) ∷ [] in
    record {
      chains = chains;
      costs = 0 ∷ 0 ∷ [];
      are_chains = (
        first_chain 0 (allows early [] 0) (of_first early []) refl refl,
        (second_chain (allows early [] 1) (λ c. of_second early [] c low_early) refl, tt),
      );
      are_least = (free_first early 0 chains (lit≤ tt) refl refl refl, (free_second early chains refl refl, tt));
      value_is = refl;
    }

-- with the point at 4 the classes from B differ, so there is a truck more
forced_later : IsLeafValue crossing windows (points later) [] [] Linear true 300000000
forced_later =
    let chains : List (List Leg) = (leg 0 0 ∷ leg 1 4 ∷ []) ∷ (leg 1 0 ∷ []) ∷ [] in
    record {
      chains = chains;
      costs = 0 ∷ 0 ∷ [];
      are_chains = (
        first_chain 4 (allows later [] 0) (of_first later []) refl refl,
        (second_chain (allows later [] 1) (λ c. of_second later [] c low_later) refl, tt),
      );
      are_least = (free_first later 4 chains (lit≤ tt) refl refl refl, (free_second later chains refl refl, tt));
      value_is = refl;
    }

-- without the arc from A the first shipment has no walk
abbrev without : List Side
without = Without 0 0 ∷ []

empty : IsLeafEmpty crossing windows (points early) without
empty = record { shipment = 0; exists = lit< tt; none = none }
  where
    none : (walk : List Leg) → IsTimedWalk crossing (points early) (allows early without 0) first walk → ⊥
    none [] t = absurd (omega (arith, t.leads))
    none (x ∷ walk) t =
        let at_a : x ≡ leg 0 0 = from_a 0 (allows early without 0) (of_first early without) x t.allowed_all.0 t.leads.1 in
        false≢true (subst (λ (l : Leg). allows early without 0 l ≡ true) at_a t.allowed_all.0)

-- the instance is valid, so no plan within the windows costs less than 300
valid : IsValid crossing
valid = record {
  parts = record {
    few_terminals = lit≤ tt;
    few_arcs = lit≤ tt;
    few_shipments = lit≤ tt;
    names = search rules;
    arcs = search rules;
    shipments = search rules;
    terminals_differ = search rules;
    arcs_differ = search rules;
    shipments_differ = search rules;
    one_each = refl;
    holds = search rules;
  };
  weight = lit< tt;
  scale = (lit≤ tt, lit≤ tt);
  fits = lit< tt;
}

no_cheaper : (d : ℕ) (plan : List (List Leg)) → IsPlanOfLeaf crossing windows [] d plan → 300 ≤ cost crossing plan
no_cheaper d plan of_leaf = omega (arith, leaf-bounds crossing windows (points later) [] [] Linear true 300000000 valid tt forced_later d plan of_leaf)
