-- The round of a small instance: arcs from A to B of time 4 and from B to C of time 5, each with
-- trucks of capacity 10 that cost 100; one shipment of 4 from A to C, from 0 to 9, and one of 4 from
-- B to C, from 0 to 8. Over the first points they go from B to C together, for 200, which no times
-- allow. So the round 1 adds the point 4 of B.
use Rattle.std.proofs.Common.{◌≡◌, ℕ, zero, suc, ◌*◌, ◌≤◌, false, List, [], ◌∷◌, get_or, refl, sym, ap, ap₂, subst, arith, lit<, lit≤, rules}
use Rattle.std.specs.Prelude.{All, Contains, Some, None, IsSomeAnd}
use Rattle.std.proofs.lemmas.List.Elements.{All-contains}
use Rattle.fp_base_lists.specs.Membership.{list_has}
use Rattle.fp_model.specs.declared.parts.Leg.{Leg}
use Rattle.fp_model.specs.declared.parts.Member.{Member}
use Rattle.fp_model.specs.declared.parts.Shipment.{Shipment}
use Rattle.fp_model.specs.Costs.{cost}
use Rattle.fp_model.specs.Members.{arc_lists}
use Rattle.fp_model.specs.Problem.{Problem}
use Rattle.fp_timenodes.specs.declared.places.Place.{Place}
use Rattle.fp_flatnet.specs.Tables.{WindowTable, windows_in}
use Rattle.fp_flatnet.specs.Windows.{IsInside, PlanLiesWithin}
use Rattle.fp_relaxmodel.specs.Groups.{AreGroups}
use Rattle.fp_relaxmodel.specs.Relaxed.{IsRelaxedWalk}
use Rattle.fp_dispatch.specs.Times.{HaveOneTime, HaveTimes}
use Rattle.fp_session_history.specs.Clashes.{IsShortPlace}
use Rattle.fp_session_history.specs.Notes.{History, Refinement, points_of}
use Rattle.fp_session_history.specs.Traces.{IsEarnedRound, IsEarnedTrace}

abbrev first : Shipment
first = record { name = 49 ∷ []; from = 0; to = 2; size = 4; release = 0; due = 9 }

abbrev second : Shipment
second = record { name = 50 ∷ []; from = 1; to = 2; size = 4; release = 0; due = 8 }

abbrev crossing : Problem
crossing = record {
  terminals = (65 ∷ []) ∷ (66 ∷ []) ∷ (67 ∷ []) ∷ [];
  holds = 0 ∷ 0 ∷ 0 ∷ [];
  arcs = (record { from = 0; to = 1; time = 4; capacity = 10; truck = 100; freight = 0 }) ∷ (record { from = 1; to = 2; time = 5; capacity = 10; truck = 100; freight = 0 }) ∷ [];
  shipments = first ∷ second ∷ [];
  scale = 1000000;
}

abbrev table : WindowTable
table = record {
  tails = 0 ∷ 1 ∷ [];
  rows = (Some (record { lo = 0; hi = 0 }) ∷ Some (record { lo = 4; hi = 4 }) ∷ []) ∷ (None ∷ Some (record { lo = 0; hi = 3 }) ∷ []) ∷ [];
  anchors = [];
}

abbrev leg : ℕ → ℕ → Leg
leg a n = record { arc = a; depart = n }

abbrev member : ℕ → ℕ → Member
member k i = record { shipment = k; leg = i }

-- both go from B to C in one class
abbrev together : List (List Leg)
together = (leg 0 0 ∷ leg 1 0 ∷ []) ∷ (leg 1 0 ∷ []) ∷ []

abbrev round : Refinement
round = record { round = 1; incumbent = 300; relaxed = together; added = (record { terminal = 1; at = 4 }) ∷ [] }

abbrev history : History
history = record { problem = crossing; windows = table; trace = round ∷ []; tables = []; spans = []; gifts = []; unit = None }

-- the points of B as of the round 0, and as of the round 1
points_before : points_of history 0 1 ≡ 0 ∷ 0 ∷ []
points_before = refl

points_after : points_of history 1 1 ≡ 0 ∷ 0 ∷ 4 ∷ []
points_after = refl

relaxed_first : IsRelaxedWalk crossing (windows_in table) (points_of history 0) 0 first (leg 0 0 ∷ leg 1 0 ∷ [])
relaxed_first = record {
  route = record { some = λ e. cc e; leads = (lit< tt, refl, (lit< tt, refl, refl)); once = search rules };
  timed = record { leads = (lit< tt, refl, (lit< tt, refl, refl)); allowed_all = (refl, (refl, tt)); follows = (lit≤ tt, (lit≤ tt, tt)) };
}

relaxed_second : IsRelaxedWalk crossing (windows_in table) (points_of history 0) 1 second (leg 1 0 ∷ [])
relaxed_second = record {
  route = record { some = λ e. cc e; leads = (lit< tt, refl, refl); once = search rules };
  timed = record { leads = (lit< tt, refl, refl); allowed_all = (refl, tt); follows = (lit≤ tt, tt) };
}

-- the second leg of the first shipment leaves at 4 or later, and the other one by 3
clash : (groups : List (List Member)) → AreGroups together groups → HaveTimes crossing (windows_in table) (arc_lists together) groups → ⊥
clash groups are has =
    let d : ℕ = has.0 in
    let times : Member → ℕ = has.1 in
    let group : Contains groups (member 0 1 ∷ member 1 0 ∷ []) = are.every (leg 1 0) refl in
    let same : HaveOneTime times (member 0 1 ∷ member 1 0 ∷ []) = All-contains (HaveOneTime times) groups (member 0 1 ∷ member 1 0 ∷ []) has.3.lower.together group in
    let equal : times (member 0 1) ≡ times (member 1 0) = same (member 0 1) (member 1 0) (0, lit< tt, refl) (1, lit< tt, refl) in
    let starts : d * 4 ≤ times (member 0 1) = has.3.lower.start (member 0 1) (record { shipment = lit< tt; leg = lit< tt }) in
    let ends : times (member 1 0) ≤ d * 3 = has.3.upper (member 1 0) (record { shipment = lit< tt; leg = lit< tt }) in
    omega (arith, has.2, equal, starts, ends)

-- plans by these routes have three departures
costs : (n : ℕ) → n ≤ 3 → 300 ≤ cost crossing ((leg 0 0 ∷ leg 1 4 ∷ []) ∷ (leg 1 n ∷ []) ∷ [])
costs zero le = lit≤ tt
costs (suc zero) le = lit≤ tt
costs (suc (suc zero)) le = lit≤ tt
costs (suc (suc (suc zero))) le = lit≤ tt
costs (suc (suc (suc (suc n)))) le = absurd (omega (arith, le))

-- the moment of a leg, where its arc is known
inside : (k a : ℕ) (l : Leg) → l.arc ≡ a → IsSomeAnd (windows_in table k l.arc) (IsInside 1 l.depart) → IsSomeAnd (windows_in table k a) (IsInside 1 l.depart)
inside k a l is some = subst (λ (b : ℕ). IsSomeAnd (windows_in table k b) (IsInside 1 l.depart)) is some

abbrev arc_of : ℕ → ℕ → List (List ℕ) → ℕ
arc_of k i routes = get_or (get_or routes k []) i 0

separate : (legs : List (List Leg)) → arc_lists legs ≡ arc_lists together → PlanLiesWithin (windows_in table) 1 legs → 300 ≤ cost crossing legs
separate [] arcs within = absurd (cc arcs)
separate ([] ∷ rest) arcs within = absurd (cc arcs)
separate ((a ∷ []) ∷ rest) arcs within = absurd (cc arcs)
separate ((a ∷ b ∷ x ∷ more) ∷ rest) arcs within = absurd (cc arcs)
separate ((a ∷ b ∷ []) ∷ []) arcs within = absurd (cc arcs)
separate ((a ∷ b ∷ []) ∷ [] ∷ rest) arcs within = absurd (cc arcs)
separate ((a ∷ b ∷ []) ∷ (c ∷ x ∷ more) ∷ rest) arcs within = absurd (cc arcs)
separate ((a ∷ b ∷ []) ∷ (c ∷ []) ∷ x ∷ rest) arcs within = absurd (cc arcs)
separate ((a ∷ b ∷ []) ∷ (c ∷ []) ∷ []) arcs within =
    let arc_a : a.arc ≡ 0 = ap (arc_of 0 0) arcs in
    let arc_b : b.arc ≡ 1 = ap (arc_of 0 1) arcs in
    let arc_c : c.arc ≡ 1 = ap (arc_of 1 0) arcs in
    let at_a = inside 0 0 a arc_a within.0.0 in
    let at_b = inside 0 1 b arc_b within.0.1.0 in
    let at_c = inside 1 1 c arc_c within.1.0.0 in
    let a_is : a ≡ leg 0 0 = ap₂ leg arc_a (let e : a.depart ≡ 0 = omega (arith, at_a.1) in e) in
    let b_is : b ≡ leg 1 4 = ap₂ leg arc_b (let e : b.depart ≡ 4 = omega (arith, at_b.0, at_b.1) in e) in
    let c_is : c ≡ leg 1 c.depart = ap (λ (n : ℕ). leg n c.depart) arc_c in
    let abbreviated : List Leg → List Leg → List (List Leg) = λ one two. one ∷ two ∷ [] in
    let is : ((a ∷ b ∷ []) ∷ (c ∷ []) ∷ []) ≡ ((leg 0 0 ∷ leg 1 4 ∷ []) ∷ (leg 1 c.depart ∷ []) ∷ []) =
    ap₂ abbreviated (ap₂ (λ (x y : Leg). x ∷ y ∷ []) a_is b_is) (ap (λ (x : Leg). x ∷ []) c_is) in
    subst (λ (legs : List (List Leg)). 300 ≤ cost crossing legs) (sym is) (costs c.depart (omega (arith, at_c.1)))

-- so the round is earned over the first points
earned : IsEarnedRound crossing table None (points_of history 0) round
earned = record {
  clashes = record {
    is = (relaxed_first, (relaxed_second, tt));
    cheaper = lit< tt;
    clash = clash;
    apart = λ legs earliest. separate legs earliest.arcs earliest.within;
    kept = λ groups kept legs are are_kept earliest. separate legs earliest.arcs earliest.within;
  };
  some = lit≤ tt;
  few = lit≤ tt;
  distinct = search rules;
  places = all_one (IsShortPlace crossing (points_of history 0) together) (record { terminal = 1; at = 4 }) place;
  new = all_one (λ (q : Place). list_has (points_of history 0 q.terminal) q.at ≡ false) (record { terminal = 1; at = 4 }) refl;
}
  where
    all_one : (P : Place → Type 0) (q : Place) → P q → All P (q ∷ [])
    all_one P q is zero d lt = is
    all_one P q is (suc k) d lt = absurd (omega (arith, lt))

    place : IsShortPlace crossing (points_of history 0) together (record { terminal = 1; at = 4 })
    place = record {
      short = record { shipment = 0; leg = 0; terminal = 1; at = 4 };
      is = record { leg = record { onward = record { shipment = lit< tt; leg = lit< tt }; short = lit< tt }; place = refl };
      at = refl;
    }

-- and so is the trace of this round alone, where the search started with a plan of 300 and ended
-- with one
trace : IsEarnedTrace history 300 300
trace = record {
  rounds = (refl, tt);
  earned = (earned, tt);
  falling = search rules;
  first = search rules;
  last = search rules;
}
