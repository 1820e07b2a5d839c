-- Where no leg of a relaxed plan is too short, the points of its classes are times of its routes.
use Rattle.std.proofs.Common.{◌≡◌, ◌≢◌, ◌∙◌, ℕ, zero, suc, ◌+◌, ◌*◌, ◌<◌, ◌≤◌, true, List, [], ◌∷◌, ◌++◌, length, ⊎_elim, refl, sym, ap, subst, arith}
use Rattle.std.specs.Prelude.{All, IfSome, IsSomeAnd, Option, Some, None}
use Rattle.std.proofs.Math.ListN.{length-map}
use Rattle.std.proofs.lemmas.Bool.{cases_eq, cases_lt}
use Rattle.std.proofs.lemmas.List.Elements.{All-contains, All-weaker}
use Rattle.fp_base_lists.proofs.Maps.{get_or-map_default}
use Rattle.fp_model.specs.declared.parts.Leg.{Leg}
use Rattle.fp_model.specs.declared.parts.Member.{Member}
use Rattle.fp_model.specs.declared.parts.Shipment.{Shipment}
use Rattle.fp_model.specs.Members.{IsMemberOf, arc_lists, member_leg}
use Rattle.fp_model.specs.Numbered.{leg_at, route_at, shipment_at}
use Rattle.fp_model.specs.Problem.{Problem, arc_at, no_arc}
use Rattle.fp_model.specs.Routes.{Leads, arcs_of, step}
use Rattle.fp_model.proofs.Members.{IsMemberAt, members_in-each}
use Rattle.fp_flatnet.specs.declared.window_tables.Window.{Window}
use Rattle.fp_flatnet.specs.Belonging.{BelongsTo, IsNarrowed}
use Rattle.fp_flatnet.specs.Tables.{WindowTable, windows_in}
use Rattle.fp_flatnet.proofs.LeastWalks.{Leads-append, steps, steps-append}
use Rattle.fp_flatnet.proofs.LegsOnWay.{time_before_le}
use Rattle.fp_longestarcs.specs.Classes.{head_of}
use Rattle.fp_allowed.specs.Allowed.{is_allowed, tails_of}
use Rattle.fp_allowed.specs.InitialPoints.{HasInitialPoints}
use Rattle.fp_allowed.specs.Walks.{FollowsHeads}
use Rattle.fp_allowed.proofs.ClassTimes.{HasWindow, allowed_exists, allowed_hi, allowed_lo, allowed_release, allowed_window}
use Rattle.fp_allowed.proofs.InitialPoints.{initial_anchor}
use Rattle.fp_relaxmodel.specs.Groups.{AreGroups, IsGroup}
use Rattle.fp_relaxmodel.specs.Relaxed.{IsRelaxedPlan}
use Rattle.fp_dispatch.specs.Times.{HaveOneTime, HaveTimes, departure, next}
use Rattle.fp_dispatch.proofs.TimesOfPlans.{member_arc-plan}
use Rattle.fp_shortarcs.specs.TooShort.{AreTooShort, IsTooShort, reach_of}
use Rattle.fp_shortarcs.proofs.RelaxedClasses.{leg-allowed, walk-relaxed, walk-shipment}

-- a class at which a shipment can be: some walk leads to its tail, and it stands at the release and
-- the walk's steps or later
record IsReached (p : Problem) (s : Shipment) (c : Leg) : Type 0 where
  pre : List ℕ
  there : Leads p s.from pre (arc_at p c.arc).from
  ready : s.release + steps p pre ≤ c.depart

-- each class of a walk is such a one, where the first stands at the release or later and each next
-- one where the shipment can go on or later
reached : (p : Problem) (s : Shipment) (walk : List Leg) (pre : List ℕ) (here there i : ℕ) → Leads p s.from pre here → Leads p here (arcs_of walk) there →
    (0 < length walk → s.release + steps p pre ≤ (leg_at walk 0).depart) →
    ((j : ℕ) → j + 1 < length walk → reach_of p (leg_at walk j) ≤ (leg_at walk (j + 1)).depart) → i < length walk → IsReached p s (leg_at walk i)
reached p s [] pre here there i to on first each lt = absurd (omega (arith, lt))
reached p s (c ∷ walk) pre here there zero to on first each lt = record {
  pre = pre;
  there = subst (λ (n : ℕ). Leads p s.from pre n) (sym on.1) to;
  ready = first (omega arith);
}
reached p s (c ∷ walk) pre here there (suc i) to on first each lt =
    reached p s walk (pre ++ (c.arc ∷ [])) (arc_at p c.arc).to there i (Leads-append p s.from here (arc_at p c.arc).to pre (c.arc ∷ []) to (on.0, on.1, refl)) on.2
    (λ some. omega (arith, first (omega arith), each 0 (omega (arith, some)), steps-append p pre (c.arc ∷ []))) later (omega (arith, lt))
  where
    later : (j : ℕ) → j + 1 < length walk → reach_of p (leg_at walk j) ≤ (leg_at walk (j + 1)).depart
    later j less =
        let at : suc j + 1 ≡ suc (j + 1) = omega arith in
        subst (λ (n : ℕ). reach_of p (leg_at walk j) ≤ (leg_at (c ∷ walk) n).depart) at (each (suc j) (omega (arith, less)))

-- each class of a timed walk stands at the head of the one before or later
after-head : (p : Problem) (points : ℕ → List ℕ) (walk : List Leg) (ready j : ℕ) → FollowsHeads (head_of p points) ready walk → j + 1 < length walk →
    head_of p points (leg_at walk j) ≤ (leg_at walk (j + 1)).depart
after-head p points [] ready j follows lt = absurd (omega (arith, lt))
after-head p points (c ∷ []) ready j follows lt = absurd (omega (arith, lt))
after-head p points (c ∷ n ∷ walk) ready zero follows lt = follows.1.0
after-head p points (c ∷ n ∷ walk) ready (suc j) follows lt =
    let at : suc (j + 1) ≡ suc j + 1 = omega arith in
    subst (λ (i : ℕ). head_of p points (leg_at (n ∷ walk) j) ≤ (leg_at (c ∷ n ∷ walk) i).depart) at
    (after-head p points (n ∷ walk) (head_of p points c) j follows.1 (omega (arith, lt)))

-- a member of the arcs of walks is one of the walks
pub IsMemberOf-from_arc_lists : (walks : List (List Leg)) (m : Member) → IsMemberOf (arc_lists walks) m → IsMemberOf walks m
IsMemberOf-from_arc_lists walks m is = record {
  shipment = omega (arith, is.shipment, length-map walks arcs_of);
  leg = omega (arith, is.leg, ap (λ (arcs : List ℕ). length arcs) (get_or-map_default arcs_of walks m.shipment []), length-map (route_at walks m.shipment) (λ (l : Leg). l.arc));
}

-- the legs of a group of one class have its point
one_point : (walks : List (List Leg)) (group : List Member) → IsGroup walks group → HaveOneTime (departure walks) group
one_point walks group is m n first second =
    ap (λ (c : Leg). c.depart) (All-contains (IsMemberAt walks is.class) group m each first).same
    ∙ sym (ap (λ (c : Leg). c.depart) (All-contains (IsMemberAt walks is.class) group n each second).same)
  where
    each : All (IsMemberAt walks is.class) group
    each = subst (All (IsMemberAt walks is.class)) (sym is.exact) (members_in-each walks is.class)

-- an allowed class at which a shipment can be does not stand before its window
from_lo : (p : Problem) (table : WindowTable) (points : ℕ → List ℕ) (k : ℕ) (c : Leg) (w : Window) → BelongsTo p table → HasInitialPoints p table.anchors points → k < length p.shipments →
    is_allowed p (windows_in table) points [] k c ≡ true → windows_in table k c.arc ≡ Some w → IsReached p (shipment_at p k) c → w.lo ≤ c.depart
from_lo p table points k c w belongs initial shipment allowed is is_reached =
    starts (subst (λ (o : Option Window). IfSome o (IsNarrowed p (shipment_at p k) c.arc table.anchors)) is (belongs.narrowed k c.arc shipment exists))
  where
    exists : c.arc < length p.arcs
    exists = allowed_exists p (windows_in table) points [] k c allowed

    starts : IsNarrowed p (shipment_at p k) c.arc table.anchors w → w.lo ≤ c.depart
    starts narrowed =
        ⊎_elim
        (λ (same : w.lo ≡ narrowed.wide.lo).
        omega (arith, same, narrowed.is_window.lo, is_reached.ready, time_before_le p (shipment_at p k) c.arc is_reached.pre narrowed.is_window.before is_reached.there narrowed.is_window.to_tail))
        (λ (other : w.lo ≢ narrowed.wide.lo).
        allowed_lo p (windows_in table) points [] k c allowed w is
        (initial_anchor p table.anchors points initial (record { terminal = (arc_at p c.arc).from; at = w.lo }) (belongs.valid.parts.arcs c.arc no_arc exists).from (narrowed.anchored other)))
        (cases_eq w.lo narrowed.wide.lo)

module _ (p : Problem) (table : WindowTable) (points : ℕ → List ℕ) (walks : List (List Leg)) (belongs : BelongsTo p table) (initial : HasInitialPoints p table.anchors points)
    (relaxed : IsRelaxedPlan p (windows_in table) points walks) (none : (m : Member) → IsTooShort p points walks m → ⊥) where
  -- each next leg leaves where the shipment can go on or later
  onward : (m : Member) → IsMemberOf walks (next m) → reach_of p (member_leg walks m) ≤ (member_leg walks (next m)).depart
  onward m is =
      ⊎_elim
      (λ (short : head_of p points (member_leg walks m) < reach_of p (member_leg walks m)). absurd (none m (record { onward = is; short = short })))
      (λ (long : reach_of p (member_leg walks m) ≤ head_of p points (member_leg walks m)).
      omega (arith, long, after-head p points (route_at walks m.shipment) 0 m.leg (walk-relaxed p (windows_in table) points walks relaxed m.shipment is.shipment).timed.follows is.leg))
      (cases_lt (head_of p points (member_leg walks m)) (reach_of p (member_leg walks m)))

  -- the first leg leaves at the release or later
  from_release : (k : ℕ) → k < length walks → 0 < length (route_at walks k) → (shipment_at p k).release ≤ (leg_at (route_at walks k) 0).depart
  from_release k exists some =
      allowed_release p table points [] k (leg_at (route_at walks k) 0) belongs initial (walk-shipment p (windows_in table) points walks relaxed k exists)
      (first (route_at walks k) some (walk-relaxed p (windows_in table) points walks relaxed k exists).timed.leads)
      (leg-allowed p (windows_in table) points walks relaxed (record { shipment = k; leg = 0 }) (record { shipment = exists; leg = some }))
    where
      first : (walk : List Leg) → 0 < length walk → Leads p (shipment_at p k).from (arcs_of walk) (shipment_at p k).to → tails_of p (leg_at walk 0).arc ≡ (shipment_at p k).from
      first [] lt leads = absurd (omega (arith, lt))
      first (c ∷ walk) lt leads = leads.1

  -- each leg is where its shipment can be
  leg-reached : (m : Member) → IsMemberOf walks m → IsReached p (shipment_at p m.shipment) (member_leg walks m)
  leg-reached m is =
      reached p (shipment_at p m.shipment) (route_at walks m.shipment) [] (shipment_at p m.shipment).from (shipment_at p m.shipment).to m.leg refl
      (walk-relaxed p (windows_in table) points walks relaxed m.shipment is.shipment).timed.leads
      (λ some. omega (arith, from_release m.shipment is.shipment some))
      (λ j lt. onward (record { shipment = m.shipment; leg = j }) (record { shipment = is.shipment; leg = lt })) is.leg

  -- each leg leaves within its window
  pub class-starts : (m : Member) → IsMemberOf walks m → IfSome (windows_in table m.shipment (member_leg walks m).arc) (λ w. 1 * w.lo ≤ (member_leg walks m).depart)
  class-starts m is = from (windows_in table m.shipment (member_leg walks m).arc) refl
    where
      from : (o : Option Window) → windows_in table m.shipment (member_leg walks m).arc ≡ o → IfSome o (λ w. 1 * w.lo ≤ (member_leg walks m).depart)
      from None there = tt
      from (Some w) there =
          omega (
            arith,
            from_lo p table points m.shipment (member_leg walks m) w belongs initial (walk-shipment p (windows_in table) points walks relaxed m.shipment is.shipment)
                (leg-allowed p (windows_in table) points walks relaxed m is) there (leg-reached m is),
          )

  pub class-ends : (m : Member) → IsMemberOf walks m → IsSomeAnd (windows_in table m.shipment (member_leg walks m).arc) (λ w. (member_leg walks m).depart ≤ 1 * w.hi)
  class-ends m is =
      let allowed : is_allowed p (windows_in table) points [] m.shipment (member_leg walks m) ≡ true = leg-allowed p (windows_in table) points walks relaxed m is in
      let has : HasWindow (windows_in table) m.shipment (member_leg walks m) = allowed_window p (windows_in table) points [] m.shipment (member_leg walks m) allowed in
      let hi : (member_leg walks m).depart ≤ 1 * has.window.hi = omega (arith, allowed_hi p (windows_in table) points [] m.shipment (member_leg walks m) allowed has.window has.is) in
      subst (λ (o : Option Window). IsSomeAnd o (λ w. (member_leg walks m).depart ≤ 1 * w.hi)) (sym has.is) hi

  -- so the routes have times with the legs of each class in one group
  pub HaveTimes-none_short : (groups : List (List Member)) → AreGroups walks groups → HaveTimes p (windows_in table) (arc_lists walks) groups
  HaveTimes-none_short groups are = (
    1,
    departure walks,
    omega arith,
    record {
      lower = record {
        start = λ m is.
            subst (λ (a : ℕ). IfSome (windows_in table m.shipment a) (λ w. 1 * w.lo ≤ departure walks m)) (sym (member_arc-plan walks m))
            (class-starts m (IsMemberOf-from_arc_lists walks m is));
        onward = λ m is.
            omega (arith, onward m (IsMemberOf-from_arc_lists walks (next m) is), ap (step p) (member_arc-plan walks m));
        together = All-weaker (IsGroup walks) (HaveOneTime (departure walks)) (one_point walks) groups are.each;
      };
      upper = λ m is.
          subst (λ (a : ℕ). IsSomeAnd (windows_in table m.shipment a) (λ w. departure walks m ≤ 1 * w.hi)) (sym (member_arc-plan walks m))
          (class-ends m (IsMemberOf-from_arc_lists walks m is));
    },
  )

-- where a list of all too short legs is empty
pub HaveTimes-none_listed : (p : Problem) (table : WindowTable) (points : ℕ → List ℕ) (walks : List (List Leg)) → BelongsTo p table → HasInitialPoints p table.anchors points →
    IsRelaxedPlan p (windows_in table) points walks → (groups : List (List Member)) → AreGroups walks groups → AreTooShort p points walks [] →
    HaveTimes p (windows_in table) (arc_lists walks) groups
HaveTimes-none_listed p table points walks belongs initial relaxed groups are none =
    HaveTimes-none_short p table points walks belongs initial relaxed (λ m is. omega (arith, (none.every m is).1)) groups are
