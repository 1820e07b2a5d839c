-- The members that are a leg: each names that leg, and each leg of the routes has its member.
use Rattle.std.proofs.Common.{◌≡◌, ◌∙◌, ℕ, zero, suc, ◌+◌, ◌<◌, true, false, List, [], ◌∷◌, length, get_or, map, ⊎_elim, refl, sym, ap, subst, arith}
use Rattle.std.specs.Prelude.{All, Contains, filter}
use Rattle.std.proofs.Math.ListN.{length-map}
use Rattle.std.proofs.lemmas.Bool.{cases_Bool, cond-true, cond-false, or_left, or_right}
use Rattle.std.proofs.lemmas.List.{get_or-map, get_or_default}
use Rattle.std.proofs.lemmas.List.Folds.{list_any-append}
use Rattle.std.proofs.lemmas.List.Elements.{All-append, All-cons, All-nil, All-weaker, Contains-append_left, Contains-append_right}
use Rattle.fp_model.specs.declared.parts.Leg.{Leg}
use Rattle.fp_model.specs.declared.parts.Member.{Member}
use Rattle.fp_model.specs.Costs.{all_legs, has_leg, same_leg}
use Rattle.fp_model.specs.Members.{IsMemberOf, LeaveAsOne, NamedLeg, arc_lists, member_arc, member_leg, members_among, members_in, named_from, named_on}
use Rattle.fp_model.specs.Numbered.{leg_at, no_leg, route_at}
use Rattle.fp_model.specs.Routes.{arcs_of}
use Rattle.fp_model.proofs.Distinct.{same_leg-refl, same_leg-true}

-- a named leg that is the leg is one of its members
pub members_among-same : (c : Leg) (x : NamedLeg) (legs : List NamedLeg) → same_leg c x.leg ≡ true → members_among (x ∷ legs) c ≡ x.member ∷ members_among legs c
members_among-same c x legs e =
    let kept : List NamedLeg = filter (λ (y : NamedLeg). same_leg c y.leg) legs in
    ap (map (λ (y : NamedLeg). y.member)) (cond-true (same_leg c x.leg) (x ∷ kept) kept e)

-- another one is none
pub members_among-other : (c : Leg) (x : NamedLeg) (legs : List NamedLeg) → same_leg c x.leg ≡ false → members_among (x ∷ legs) c ≡ members_among legs c
members_among-other c x legs e =
    let kept : List NamedLeg = filter (λ (y : NamedLeg). same_leg c y.leg) legs in
    ap (map (λ (y : NamedLeg). y.member)) (cond-false (same_leg c x.leg) (x ∷ kept) kept e)

-- a named leg is one of the route of the shipment with the number k, where the route's first leg
-- has the number i
record IsLegOf (k i : ℕ) (route : List Leg) (x : NamedLeg) : Type 0 where
  place : ℕ
  within : place < length route
  shipment : x.member.shipment ≡ k
  leg : x.member.leg ≡ i + place
  same : leg_at route place ≡ x.leg

later-leg : (k i : ℕ) (c : Leg) (route : List Leg) (x : NamedLeg) → IsLegOf k (i + 1) route x → IsLegOf k i (c ∷ route) x
later-leg k i c route x is = record {
  place = suc is.place;
  within = omega (arith, is.within);
  shipment = is.shipment;
  leg = omega (arith, is.leg);
  same = is.same;
}

legs-of : (k i : ℕ) (route : List Leg) → All (IsLegOf k i route) (named_on k i route)
legs-of k i [] = All-nil (IsLegOf k i [])
legs-of k i (c ∷ route) =
    let first : NamedLeg = record { member = record { shipment = k; leg = i }; leg = c } in
    All-cons (IsLegOf k i (c ∷ route)) first (named_on k (i + 1) route) (record { place = 0; within = omega arith; shipment = refl; leg = omega arith; same = refl })
    (All-weaker (IsLegOf k (i + 1) route) (IsLegOf k i (c ∷ route)) (later-leg k i c route) (named_on k (i + 1) route) (legs-of k (i + 1) route))

-- a named leg is one of routes, where the first route is that of the shipment with the number k
record IsLegAmong (k : ℕ) (routes : List (List Leg)) (x : NamedLeg) : Type 0 where
  place : ℕ
  within : place < length routes
  shipment : x.member.shipment ≡ k + place
  leg : x.member.leg < length (route_at routes place)
  same : leg_at (route_at routes place) x.member.leg ≡ x.leg

first-route : (k : ℕ) (route : List Leg) (routes : List (List Leg)) (x : NamedLeg) → IsLegOf k 0 route x → IsLegAmong k (route ∷ routes) x
first-route k route routes x is =
    let same : is.place ≡ x.member.leg = omega (arith, is.leg) in
    record {
      place = 0;
      within = omega arith;
      shipment = omega (arith, is.shipment);
      leg = omega (arith, is.within, same);
      same = subst (λ (n : ℕ). leg_at route n ≡ x.leg) same is.same;
    }

later-route : (k : ℕ) (route : List Leg) (routes : List (List Leg)) (x : NamedLeg) → IsLegAmong (k + 1) routes x → IsLegAmong k (route ∷ routes) x
later-route k route routes x is = record {
  place = suc is.place;
  within = omega (arith, is.within);
  shipment = omega (arith, is.shipment);
  leg = is.leg;
  same = is.same;
}

legs-among : (k : ℕ) (routes : List (List Leg)) → All (IsLegAmong k routes) (named_from k routes)
legs-among k [] = All-nil (IsLegAmong k [])
legs-among k (route ∷ routes) =
    All-append (IsLegAmong k (route ∷ routes)) (named_on k 0 route) (named_from (k + 1) routes)
    (All-weaker (IsLegOf k 0 route) (IsLegAmong k (route ∷ routes)) (first-route k route routes) (named_on k 0 route) (legs-of k 0 route))
    (All-weaker (IsLegAmong (k + 1) routes) (IsLegAmong k (route ∷ routes)) (later-route k route routes) (named_from (k + 1) routes) (legs-among (k + 1) routes))

-- a member is a leg of routes
pub record IsMemberAt (routes : List (List Leg)) (l : Leg) (m : Member) : Type 0 where
  pub member : IsMemberOf routes m
  pub same : member_leg routes m ≡ l

IsMemberAt-among : (routes : List (List Leg)) (x : NamedLeg) → IsLegAmong 0 routes x → IsMemberAt routes x.leg x.member
IsMemberAt-among routes x is =
    let number : is.place ≡ x.member.shipment = omega (arith, is.shipment) in
    record {
      member = record {
        shipment = omega (arith, is.within, number);
        leg = subst (λ (n : ℕ). x.member.leg < length (route_at routes n)) number is.leg;
      };
      same = subst (λ (n : ℕ). leg_at (route_at routes n) x.member.leg ≡ x.leg) number is.same;
    }

-- what holds of each named leg holds of the members that are a leg
among-each : (P : Leg → Member → Type 0) (c : Leg) (legs : List NamedLeg) → All (λ (x : NamedLeg). P x.leg x.member) legs → All (P c) (members_among legs c)
among-each P c [] all = All-nil (P c)
among-each P c (x ∷ legs) all =
    let Holds : NamedLeg → Type 0 = λ y. P y.leg y.member in
    let rest : All (P c) (members_among legs c) = among-each P c legs (λ k d lt. all (suc k) d (omega (arith, lt))) in
    ⊎_elim
    (λ (e : same_leg c x.leg ≡ true).
    let first : P c x.member = subst (λ (l : Leg). P l x.member) (sym (same_leg-true c x.leg e)) (all 0 x (omega arith)) in
    subst (All (P c)) (sym (members_among-same c x legs e)) (All-cons (P c) x.member (members_among legs c) first rest))
    (λ (e : same_leg c x.leg ≡ false). subst (All (P c)) (sym (members_among-other c x legs e)) rest)
    (cases_Bool (same_leg c x.leg))

-- each member that is a leg names that leg of the routes
pub members_in-each : (routes : List (List Leg)) (l : Leg) → All (IsMemberAt routes l) (members_in routes l)
members_in-each routes l =
    among-each (IsMemberAt routes) l (named_from 0 routes)
    (All-weaker (IsLegAmong 0 routes) (λ (x : NamedLeg). IsMemberAt routes x.leg x.member) (IsMemberAt-among routes) (named_from 0 routes) (legs-among 0 routes))

contains-on : (k i : ℕ) (route : List Leg) (n : ℕ) → n < length route → Contains (named_on k i route) (record { member = record { shipment = k; leg = i + n }; leg = leg_at route n })
contains-on k i [] n lt = absurd (omega (arith, lt))
contains-on k i (c ∷ route) zero lt =
    let at : i ≡ i + 0 = omega arith in
    subst (λ (j : ℕ). Contains (named_on k i (c ∷ route)) (record { member = record { shipment = k; leg = j }; leg = c })) at (0, omega arith, refl)
contains-on k i (c ∷ route) (suc n) lt =
    let first : NamedLeg = record { member = record { shipment = k; leg = i }; leg = c } in
    let at : i + 1 + n ≡ i + suc n = omega arith in
    subst (λ (j : ℕ). Contains (named_on k i (c ∷ route)) (record { member = record { shipment = k; leg = j }; leg = leg_at route n })) at
    (Contains-append_right (first ∷ []) (named_on k (i + 1) route) _ (contains-on k (i + 1) route n (omega (arith, lt))))

contains-from : (k : ℕ) (routes : List (List Leg)) (j n : ℕ) → j < length routes → n < length (route_at routes j) →
    Contains (named_from k routes) (record { member = record { shipment = k + j; leg = n }; leg = leg_at (route_at routes j) n })
contains-from k [] j n lt there = absurd (omega (arith, lt))
contains-from k (route ∷ routes) zero n lt there =
    let at : k ≡ k + 0 = omega arith in
    let number : 0 + n ≡ n = omega arith in
    let found : Contains (named_on k 0 route) (record { member = record { shipment = k; leg = n }; leg = leg_at route n }) =
    subst (λ (m : ℕ). Contains (named_on k 0 route) (record { member = record { shipment = k; leg = m }; leg = leg_at route n })) number (contains-on k 0 route n there) in
    subst (λ (m : ℕ). Contains (named_from k (route ∷ routes)) (record { member = record { shipment = m; leg = n }; leg = leg_at route n })) at
    (Contains-append_left (named_on k 0 route) (named_from (k + 1) routes) _ found)
contains-from k (route ∷ routes) (suc j) n lt there =
    let at : k + 1 + j ≡ k + suc j = omega arith in
    subst (λ (m : ℕ). Contains (named_from k (route ∷ routes)) (record { member = record { shipment = m; leg = n }; leg = leg_at (route_at routes j) n })) at
    (Contains-append_right (named_on k 0 route) (named_from (k + 1) routes) _ (contains-from (k + 1) routes j n (omega (arith, lt)) there))

among-contains : (legs : List NamedLeg) (x : NamedLeg) → Contains legs x → Contains (members_among legs x.leg) x.member
among-contains [] x there = absurd (omega (arith, there.1))
among-contains (y ∷ legs) x (zero, lt, is) =
    let own : same_leg y.leg y.leg ≡ true = same_leg-refl y.leg in
    let found : Contains (members_among (y ∷ legs) y.leg) y.member = subst (λ (ms : List Member). Contains ms y.member) (sym (members_among-same y.leg y legs own)) (0, omega arith, refl) in
    subst (λ (z : NamedLeg). Contains (members_among (y ∷ legs) z.leg) z.member) is found
among-contains (y ∷ legs) x (suc k, lt, is) =
    let rest : Contains (members_among legs x.leg) x.member = among-contains legs x (k, omega (arith, lt), is) in
    ⊎_elim
    (λ (e : same_leg x.leg y.leg ≡ true).
    subst (λ (ms : List Member). Contains ms x.member) (sym (members_among-same x.leg y legs e)) (Contains-append_right (y.member ∷ []) (members_among legs x.leg) x.member rest))
    (λ (e : same_leg x.leg y.leg ≡ false). subst (λ (ms : List Member). Contains ms x.member) (sym (members_among-other x.leg y legs e)) rest)
    (cases_Bool (same_leg x.leg y.leg))

-- each member of the routes is among those that are its leg
pub members_in-contain : (routes : List (List Leg)) (m : Member) → IsMemberOf routes m → Contains (members_in routes (member_leg routes m)) m
members_in-contain routes m is =
    let x : NamedLeg = record { member = m; leg = member_leg routes m } in
    let number : 0 + m.shipment ≡ m.shipment = omega arith in
    among-contains (named_from 0 routes) x
    (subst (λ (k : ℕ). Contains (named_from 0 routes) (record { member = record { shipment = k; leg = m.leg }; leg = member_leg routes m })) number
    (contains-from 0 routes m.shipment m.leg is.shipment is.leg))

-- a member of routes names a leg of their lists of arcs
pub IsMemberOf-arc_lists : (routes : List (List Leg)) (m : Member) → IsMemberOf routes m → IsMemberOf (arc_lists routes) m
IsMemberOf-arc_lists routes m is =
    let at : get_or (arc_lists routes) m.shipment [] ≡ arcs_of (route_at routes m.shipment) = get_or-map arcs_of routes m.shipment [] [] is.shipment in
    record {
      shipment = omega (arith, is.shipment, length-map routes arcs_of);
      leg = subst (λ (arcs : List ℕ). m.leg < length arcs) (sym at) (omega (arith, is.leg, length-map (route_at routes m.shipment) (λ (l : Leg). l.arc)));
    }

-- and its arc there is that of its leg
pub member_arc-arc_lists : (routes : List (List Leg)) (m : Member) → IsMemberOf routes m → member_arc (arc_lists routes) m ≡ (member_leg routes m).arc
member_arc-arc_lists routes m is =
    ap (λ (arcs : List ℕ). get_or arcs m.leg 0) (get_or-map arcs_of routes m.shipment [] [] is.shipment)
    ∙ get_or-map (λ (l : Leg). l.arc) (route_at routes m.shipment) m.leg no_leg 0 is.leg

-- a leg of a route is among its legs
has_leg-place : (legs : List Leg) (i : ℕ) → i < length legs → has_leg (leg_at legs i) legs ≡ true
has_leg-place [] i lt = absurd (omega (arith, lt))
has_leg-place (l ∷ legs) zero lt = or_left (same_leg l l) (has_leg l legs) (same_leg-refl l)
has_leg-place (l ∷ legs) (suc i) lt = or_right (same_leg (leg_at legs i) l) (has_leg (leg_at legs i) legs) (has_leg-place legs i (omega (arith, lt)))

-- a leg of one route is a leg of all routes
pub has_leg-all_legs : (routes : List (List Leg)) (k : ℕ) (l : Leg) → has_leg l (route_at routes k) ≡ true → has_leg l (all_legs routes) ≡ true
has_leg-all_legs [] k l has = has
has_leg-all_legs (r ∷ routes) zero l has = list_any-append (same_leg l) r (all_legs routes) ∙ or_left (has_leg l r) (has_leg l (all_legs routes)) has
has_leg-all_legs (r ∷ routes) (suc k) l has =
    list_any-append (same_leg l) r (all_legs routes) ∙ or_right (has_leg l r) (has_leg l (all_legs routes)) (has_leg-all_legs routes k l has)

-- the leg of a member is among all legs
pub has_leg-member : (routes : List (List Leg)) (m : Member) → IsMemberOf routes m → has_leg (member_leg routes m) (all_legs routes) ≡ true
has_leg-member routes m is =
    has_leg-all_legs routes m.shipment (member_leg routes m) (has_leg-place (route_at routes m.shipment) m.leg is.leg)

-- any two members of a group that leaves as one leave together
pub LeaveAsOne-contains : (routes : List (List Leg)) (group : List Member) (m n : Member) → LeaveAsOne routes group → Contains group m → Contains group n →
    (member_leg routes m).depart ≡ (member_leg routes n).depart
LeaveAsOne-contains routes group m n pairs in_m in_n = from-first m in_m ∙ sym (from-first n in_n)
  where
    departs : Member → ℕ
    departs k = (member_leg routes k).depart

    from-first : (k : Member) → Contains group k → departs k ≡ departs (get_or group 0 m)
    from-first k (zero, lt, is) = ap departs (sym is ∙ get_or_default group 0 k m lt)
    from-first k (suc i, lt, is) = ap departs (sym is ∙ get_or_default group (suc i) k m lt) ∙ sym (pairs 0 (suc i) m (omega arith) lt)
