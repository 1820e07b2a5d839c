-- Times that are kept by routes are those of a plan, and back.
use Rattle.std.proofs.Common.{◌≡◌, ◌≢◌, ◌∙◌, ℕ, zero, suc, ◌+◌, ◌-◌, ◌*◌, ◌<◌, ◌≤◌, Option, Some, None, List, [], ◌∷◌, length, get_or, refl, sym, ap, subst, arith}
use Rattle.std.specs.Prelude.{All, IfSome, IsSomeAnd}
use Rattle.std.specs.List.{AllZip}
use Rattle.std.proofs.Math.ListN.{length-map}
use Rattle.std.proofs.Math.Nat.{mul-le-mul_left}
use Rattle.fp_base_lists.proofs.Elements.{AllByRecursion-from_get_or, AllByRecursion-get_or}
use Rattle.fp_base_lists.proofs.Maps.{get_or-map_default}
use Rattle.fp_base_lists.proofs.Numbered.{AllFrom-from_get_or, AllFrom-get_or_zero, AllZip-from_get_or, AllZip-get_or}
use Rattle.fp_model.specs.declared.parts.Leg.{Leg}
use Rattle.fp_model.specs.declared.parts.Member.{Member}
use Rattle.fp_model.specs.declared.parts.Shipment.{Shipment}
use Rattle.fp_model.specs.Members.{IsMemberOf, arc_lists, member_arc, member_leg}
use Rattle.fp_model.specs.Numbered.{leg_at, no_leg, no_shipment, route_at, shipment_at}
use Rattle.fp_model.specs.Plans.{IsPlan}
use Rattle.fp_model.specs.Problem.{Problem, arc_at}
use Rattle.fp_model.specs.Routes.{Carries, IsRoute, Leads, LeavesReady, arcs_of, step}
use Rattle.fp_model.proofs.LastArrivals.{arrives_at_last}
use Rattle.fp_flatnet.specs.declared.window_tables.Window.{Window}
use Rattle.fp_flatnet.specs.Belonging.{BelongsTo}
use Rattle.fp_flatnet.specs.Tables.{WindowTable, windows_in}
use Rattle.fp_flatnet.specs.Windows.{IsInside, LiesWithin, PlanLiesWithin}
use Rattle.fp_flatnet.proofs.WindowTimes.{BelongsTo_into_destination, BelongsTo_release}
use Rattle.fp_dispatch.specs.Times.{AreTimes, HaveOneTime, departure, next, window_of}

-- the arc lists of routes, at a place
arcs-at : (plan : List (List Leg)) (k : ℕ) → get_or (arc_lists plan) k [] ≡ arcs_of (route_at plan k)
arcs-at plan k = get_or-map_default arcs_of plan k []

arc-at : (legs : List Leg) (i : ℕ) → get_or (arcs_of legs) i 0 ≡ (leg_at legs i).arc
arc-at legs i = get_or-map_default (λ (l : Leg). l.arc) legs i no_leg

-- the arc of a member of a plan
pub member_arc-plan : (plan : List (List Leg)) (m : Member) → member_arc (arc_lists plan) m ≡ (member_leg plan m).arc
member_arc-plan plan m = ap (λ (arcs : List ℕ). get_or arcs m.leg 0) (arcs-at plan m.shipment) ∙ arc-at (route_at plan m.shipment) m.leg

-- a leg of a plan is one of its lists of arcs
pub IsMemberOf-plan : (plan : List (List Leg)) (k i : ℕ) → k < length plan → i < length (route_at plan k) → IsMemberOf (arc_lists plan) (record { shipment = k; leg = i })
IsMemberOf-plan plan k i shipment leg = record {
  shipment = omega (arith, shipment, length-map plan arcs_of);
  leg = omega (arith, leg, ap (λ (arcs : List ℕ). length arcs) (arcs-at plan k), length-map (route_at plan k) (λ (l : Leg). l.arc));
}

-- over the denominator d, legs of which the first leaves when ready and each next one a step later
LeavesReady-steps : (p : Problem) (d ready : ℕ) (legs : List Leg) → (0 < length legs → ready ≤ (leg_at legs 0).depart) →
    ((i : ℕ) → suc i < length legs → (leg_at legs i).depart + d * step p (leg_at legs i).arc ≤ (leg_at legs (suc i)).depart) → LeavesReady p d ready legs
LeavesReady-steps p d ready [] first each = tt
LeavesReady-steps p d ready (l ∷ legs) first each =
    (first (omega arith), LeavesReady-steps p d (l.depart + d * step p l.arc) legs (λ some. each 0 (omega (arith, some))) (λ i lt. each (suc i) (omega (arith, lt))))

steps-LeavesReady : (p : Problem) (d ready : ℕ) (legs : List Leg) → LeavesReady p d ready legs → (i : ℕ) → suc i < length legs →
    (leg_at legs i).depart + d * step p (leg_at legs i).arc ≤ (leg_at legs (suc i)).depart
steps-LeavesReady p d ready [] leaves i lt = absurd (omega (arith, lt))
steps-LeavesReady p d ready (l ∷ []) leaves i lt = absurd (omega (arith, lt))
steps-LeavesReady p d ready (l ∷ n ∷ legs) leaves zero lt = leaves.1.0
steps-LeavesReady p d ready (l ∷ n ∷ legs) leaves (suc i) lt = steps-LeavesReady p d (l.depart + d * step p l.arc) (n ∷ legs) leaves.1 i (omega (arith, lt))

-- the last arc of a walk enters the terminal where it ends
Leads-into : (p : Problem) (here there : ℕ) (arcs : List ℕ) → Leads p here arcs there → 0 < length arcs → (arc_at p (get_or arcs (length arcs - 1) 0)).to ≡ there
Leads-into p here there [] leads some = absurd (omega (arith, some))
Leads-into p here there (a ∷ []) leads some = leads.2
Leads-into p here there (a ∷ b ∷ arcs) leads some =
    let at : length (a ∷ b ∷ arcs) - 1 ≡ suc (length (b ∷ arcs) - 1) = omega arith in
    subst (λ (k : ℕ). (arc_at p (get_or (a ∷ b ∷ arcs) k 0)).to ≡ there) (sym at) (Leads-into p (arc_at p a).to there (b ∷ arcs) leads.2 (omega arith))

some-legs : (legs : List Leg) → arcs_of legs ≢ [] → 0 < length legs
some-legs [] some = absurd (some refl)
some-legs (l ∷ legs) some = omega arith

-- from what is of something that is there
some-use : {X Y : Type 0} (o : Option X) (P : X → Type 0) → IsSomeAnd o P → ((x : X) → o ≡ Some x → P x → Y) → Y
some-use None P is from = absurd is
some-use (Some x) P is from = from x refl is

module _ (p : Problem) (table : WindowTable) (groups : List (List Member)) (d : ℕ) (plan : List (List Leg)) (belongs : BelongsTo p table)
    (routes : AllZip (IsRoute p) p.shipments (arc_lists plan)) (are : AreTimes p (windows_in table) (arc_lists plan) groups d (departure plan)) where
  -- each leg has a window and leaves inside it
  leg-inside : (k i : ℕ) → k < length plan → i < length (route_at plan k) →
      IsSomeAnd (windows_in table k (leg_at (route_at plan k) i).arc) (IsInside d (leg_at (route_at plan k) i).depart)
  leg-inside k i shipment leg =
      let m : Member = record { shipment = k; leg = i } in
      let is : IsMemberOf (arc_lists plan) m = IsMemberOf-plan plan k i shipment leg in
      subst (λ (a : ℕ). IsSomeAnd (windows_in table k a) (IsInside d (leg_at (route_at plan k) i).depart)) (member_arc-plan plan m)
      (both (window_of (windows_in table) (arc_lists plan) m) (departure plan m) (are.lower.start m is) (are.upper m is))
    where
      both : (o : Option Window) (n : ℕ) → IfSome o (λ w. d * w.lo ≤ n) → IsSomeAnd o (λ w. n ≤ d * w.hi) → IsSomeAnd o (IsInside d n)
      both None n from until = until
      both (Some w) n from until = (from, until)

  -- the legs of each shipment carry it
  carries : (k : ℕ) → k < length p.shipments → k < length plan → Carries p d (shipment_at p k) (route_at plan k)
  carries k exists shipment =
      let s : Shipment = shipment_at p k in
      let legs : List Leg = route_at plan k in
      let route : IsRoute p s (arcs_of legs) =
      subst (IsRoute p s) (arcs-at plan k) (AllZip-get_or (IsRoute p) p.shipments (arc_lists plan) k no_shipment [] routes exists) in
      let some : 0 < length legs = some-legs legs route.some in
      let last : length legs - 1 < length legs = omega (arith, some) in
      record {
        route = route;
        ready = LeavesReady-steps p d (d * s.release) legs
            (λ first. some-use (windows_in table k (leg_at legs 0).arc) (IsInside d (leg_at legs 0).depart) (leg-inside k 0 shipment first) (λ w is inside.
            let h : d * s.release ≤ d * w.lo = mul-le-mul_left d (BelongsTo_release p table k (leg_at legs 0).arc w belongs is) in
            let r : d * s.release ≤ (leg_at legs 0).depart = omega (arith, h, inside.0) in r))
            (λ i lt.
            let m : Member = record { shipment = k; leg = i } in
            let onward : departure plan m + d * step p (member_arc (arc_lists plan) m) ≤ departure plan (next m) =
            are.lower.onward m (IsMemberOf-plan plan k (i + 1) shipment (omega (arith, lt))) in
            let at : i + 1 ≡ suc i = omega arith in
            let there : departure plan (next m) ≡ (leg_at legs (suc i)).depart = ap (λ (j : ℕ). (leg_at legs j).depart) at in
            let steps : d * step p (member_arc (arc_lists plan) m) ≡ d * step p (leg_at legs i).arc = ap (λ (a : ℕ). d * step p a) (member_arc-plan plan m) in
            omega (arith, onward, there, steps));
        due = (arrives_at_last p d s.due legs no_leg some).1
            (some-use (windows_in table k (leg_at legs (length legs - 1)).arc) (IsInside d (leg_at legs (length legs - 1)).depart) (leg-inside k (length legs - 1) shipment last) (λ w is inside.
            let into : (arc_at p (leg_at legs (length legs - 1)).arc).to ≡ s.to =
            last-into k legs route some in
            let h : d * (w.hi + (arc_at p (leg_at legs (length legs - 1)).arc).time) ≤ d * s.due =
            mul-le-mul_left d (BelongsTo_into_destination p table k (leg_at legs (length legs - 1)).arc w belongs is into) in
            let r : (leg_at legs (length legs - 1)).depart + d * (arc_at p (leg_at legs (length legs - 1)).arc).time ≤ d * s.due =
            omega (arith, h, inside.1) in r));
      }
    where
      last-into : (k : ℕ) (legs : List Leg) → IsRoute p (shipment_at p k) (arcs_of legs) → 0 < length legs →
          (arc_at p (leg_at legs (length legs - 1)).arc).to ≡ (shipment_at p k).to
      last-into k legs route some =
          let long : length (arcs_of legs) ≡ length legs = length-map legs (λ (l : Leg). l.arc) in
          let into : (arc_at p (get_or (arcs_of legs) (length (arcs_of legs) - 1) 0)).to ≡ (shipment_at p k).to =
          Leads-into p (shipment_at p k).from (shipment_at p k).to (arcs_of legs) route.leads (omega (arith, some, long)) in
          subst (λ (a : ℕ). (arc_at p a).to ≡ (shipment_at p k).to) (arc-at legs (length legs - 1))
          (subst (λ (n : ℕ). (arc_at p (get_or (arcs_of legs) (n - 1) 0)).to ≡ (shipment_at p k).to) long into)

  -- so they are a plan
  pub IsPlan-AreTimes : length plan ≡ length p.shipments → IsPlan p d plan
  IsPlan-AreTimes long = AllZip-from_get_or (Carries p d) p.shipments plan no_shipment [] long (λ k lt. carries k lt (omega (arith, lt, long)))

  -- that lies within the windows
  pub PlanLiesWithin-AreTimes : PlanLiesWithin (windows_in table) d plan
  PlanLiesWithin-AreTimes =
      AllFrom-from_get_or (LiesWithin (windows_in table) d) plan [] 0 (λ k lt.
      AllByRecursion-from_get_or (λ (l : Leg). IsSomeAnd (windows_in table (0 + k) l.arc) (IsInside d l.depart)) (route_at plan k) no_leg (λ i less.
      let at : k ≡ 0 + k = omega arith in
      subst (λ (j : ℕ). IsSomeAnd (windows_in table j (leg_at (route_at plan k) i).arc) (IsInside d (leg_at (route_at plan k) i).depart)) at (leg-inside k i lt less)))

-- a plan over any denominator that lies within the windows, in which the legs of each group leave
-- together, keeps both rules
module _ (p : Problem) (windows : ℕ → ℕ → Option Window) (groups : List (List Member)) (d : ℕ) (plan : List (List Leg))
    (is : IsPlan p d plan) (within : PlanLiesWithin windows d plan) (together : All (HaveOneTime (departure plan)) groups) where
  member-inside : (m : Member) → IsMemberOf (arc_lists plan) m → IsSomeAnd (window_of windows (arc_lists plan) m) (IsInside d (departure plan m))
  member-inside m member =
      let shipment : m.shipment < length plan = omega (arith, member.shipment, length-map plan arcs_of) in
      let leg : m.leg < length (route_at plan m.shipment) =
      omega (arith, member.leg, ap (λ (arcs : List ℕ). length arcs) (arcs-at plan m.shipment), length-map (route_at plan m.shipment) (λ (l : Leg). l.arc)) in
      subst (λ (a : ℕ). IsSomeAnd (windows m.shipment a) (IsInside d (departure plan m))) (sym (member_arc-plan plan m))
      (AllByRecursion-get_or (λ (l : Leg). IsSomeAnd (windows m.shipment l.arc) (IsInside d l.depart)) (route_at plan m.shipment) m.leg no_leg
      (AllFrom-get_or_zero (LiesWithin windows d) plan [] m.shipment within shipment) leg)

  pub AreTimes-IsPlan : AreTimes p windows (arc_lists plan) groups d (departure plan)
  AreTimes-IsPlan = record {
    lower = record {
      start = λ m member. from (window_of windows (arc_lists plan) m) (departure plan m) (member-inside m member);
      onward = λ m member.
          let long : length (arc_lists plan) ≡ length plan = length-map plan arcs_of in
          let shipment : m.shipment < length plan = omega (arith, member.shipment, long) in
          let leg : m.leg + 1 < length (route_at plan m.shipment) =
          omega (arith, member.leg, ap (λ (arcs : List ℕ). length arcs) (arcs-at plan m.shipment), length-map (route_at plan m.shipment) (λ (l : Leg). l.arc)) in
          let carried : Carries p d (shipment_at p m.shipment) (route_at plan m.shipment) =
          AllZip-get_or (Carries p d) p.shipments plan m.shipment no_shipment [] is (plan-shipment p.shipments plan m.shipment is shipment) in
          let rule : departure plan m + d * step p (member_leg plan m).arc ≤ (leg_at (route_at plan m.shipment) (suc m.leg)).depart =
          steps-LeavesReady p d (d * (shipment_at p m.shipment).release) (route_at plan m.shipment) carried.ready m.leg (omega (arith, leg)) in
          let at : suc m.leg ≡ m.leg + 1 = omega arith in
          let there : (leg_at (route_at plan m.shipment) (suc m.leg)).depart ≡ departure plan (next m) = ap (λ (j : ℕ). (leg_at (route_at plan m.shipment) j).depart) at in
          let steps : d * step p (member_arc (arc_lists plan) m) ≡ d * step p (member_leg plan m).arc = ap (λ (a : ℕ). d * step p a) (member_arc-plan plan m) in
          omega (arith, rule, there, steps);
      together = together;
    };
    upper = λ m member. until (window_of windows (arc_lists plan) m) (departure plan m) (member-inside m member);
  }
    where
      from : (o : Option Window) (n : ℕ) → IsSomeAnd o (IsInside d n) → IfSome o (λ w. d * w.lo ≤ n)
      from None n inside = tt
      from (Some w) n inside = inside.0

      until : (o : Option Window) (n : ℕ) → IsSomeAnd o (IsInside d n) → IsSomeAnd o (λ w. n ≤ d * w.hi)
      until None n inside = inside
      until (Some w) n inside = inside.1

      plan-shipment : (ss : List Shipment) (rs : List (List Leg)) (k : ℕ) → AllZip (Carries p d) ss rs → k < length rs → k < length ss
      plan-shipment [] [] k all lt = lt
      plan-shipment [] (r ∷ rs) k all lt = absurd all
      plan-shipment (s ∷ ss) [] k all lt = absurd (omega (arith, lt))
      plan-shipment (s ∷ ss) (r ∷ rs) zero all lt = omega arith
      plan-shipment (s ∷ ss) (r ∷ rs) (suc k) all lt = omega (arith, plan-shipment ss rs k all.1 (omega (arith, lt)))
