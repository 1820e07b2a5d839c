-- Legs from a shipment's origin to its destination leave between the stable moments, and where a leg can leave between
-- them some such legs have it.
use Rattle.std.proofs.Common.{◌≡◌, ℕ, ◌+◌, ◌*◌, ◌<◌, ◌≤◌, Bool, true, false, cond, List, [], ◌∷◌, ◌++◌, length, get_or, ⊎_elim, refl, sym, subst, arith}
use Rattle.std.specs.Prelude.{Option, Some, None, IfSome, IsSomeAnd, Contains}
use Rattle.std.specs.List.{AllByRecursion}
use Rattle.std.proofs.lemmas.Bool.{cases_lt}
use Rattle.std.proofs.lemmas.List.{get_or_append_left, get_or_push, length-append}
use Rattle.std.proofs.lemmas.List.Elements.{All-contains, All-from_recursion}
use Rattle.fp_model.specs.declared.parts.Leg.{Leg}
use Rattle.fp_model.specs.Numbered.{no_shipment}
use Rattle.fp_model.specs.Problem.{IsValid, Problem, arc_at}
use Rattle.fp_model.specs.Routes.{step}
use Rattle.fp_model.proofs.Validity.{IsArc-valid, hold_at-le}
use Rattle.fp_flatnet.specs.declared.window_tables.Window.{Window}
use Rattle.fp_flatnet.specs.Tables.{windows_in}
use Rattle.fp_tree.specs.declared.sides.Side.{Side}
use Rattle.fp_allowed.specs.declared.free_moments.Asked.{Asked}
use Rattle.fp_allowed.specs.FreeMoments.{CanLeave, IsAsked, IsFree, LeavesFrom, LeavesInTime, own_sides}
use Rattle.fp_allowed.specs.Moments.{is_barred}
use Rattle.fp_allowed.specs.Sweeps.{AllBelow, AreOnward, AreReady, FitsBetween, HasAll, IsOnward, IsRowOf, IsStableFrom, IsStableTo, IsWindowBetween, IsWindowOf, asked_for, value_at}
use Rattle.fp_allowed.proofs.DepartureCounts.{IsInTime, windows_in_time}
use Rattle.fp_allowed.proofs.Sweeps.{at-least_earlier, at-most_later, has_leg}

-- a step is short
step-le : (p : Problem) (a : ℕ) → IsValid p → a < length p.arcs → step p a ≤ 101000
step-le p a valid exists = omega (arith, (IsArc-valid p a valid exists).within.time.1, hold_at-le p (arc_at p a).to valid)

-- a moment at which a shipment can leave is in time
can-in_time : (b : Bool) (o : Option Window) (a m : ℕ) (sides : List Side) → IfSome o IsInTime → IsSomeAnd (cond b None o) (λ w. IsFree w a sides m) → m ≤ 100000
can-in_time true o a m sides in_time can = absurd can
can-in_time false None a m sides in_time can = absurd can
can-in_time false (Some w) a m sides in_time can = omega (arith, can.before, in_time.1)

module _ (q : Asked) (asked : IsAsked q) where
  -- what is ready to leave the next terminal is so at a small moment
  ready_in_time : (a m : ℕ) → a < length q.instance.now.arcs → CanLeave q a m → m + step q.instance.now a ≤ 4294967295
  ready_in_time a m exists can =
      let leaves : m ≤ 100000 =
      can-in_time (is_barred q.instance.now q.shipment a q.through.now) (windows_in q.windows.now q.shipment a) a m (own_sides q a)
      (windows_in_time q.instance.now q.windows.now q.shipment a asked.fits asked.shipment exists) can in
      let short : step q.instance.now a ≤ 101000 = step-le q.instance.now a asked.fits.valid exists in
      omega (arith, leaves, short)

  -- from a terminal on, where the shipment is ready no sooner than it can be, each leg leaves no sooner than it can
  leave_after : (earliest : List (Option ℕ)) → AllBelow (IsStableFrom q) (length q.instance.now.arcs) earliest → (here at : ℕ) (legs : List Leg) → IsOnward q here at legs →
      IsSomeAnd (value_at earliest here) (λ r. r ≤ at) → AllByRecursion (λ (l : Leg). LeavesFrom q l.arc (value_at earliest (arc_at q.instance.now l.arc).from) l.depart) legs
  leave_after earliest stable here at [] on ready = tt
  leave_after earliest stable here at (l ∷ legs) on ready =
      let leaves : LeavesFrom q l.arc (value_at earliest (arc_at q.instance.now l.arc).from) l.depart =
      (subst (λ (t : ℕ). IsSomeAnd (value_at earliest t) (λ r. r ≤ l.depart)) (sym on.leads.1) (at-most_later (value_at earliest here) at l.depart ready on.ready.0), on.can.0) in
      let next : IsSomeAnd (value_at earliest (arc_at q.instance.now l.arc).to) (λ r. r ≤ l.depart + 1 * step q.instance.now l.arc) =
      at-most_later (value_at earliest (arc_at q.instance.now l.arc).to) (l.depart + step q.instance.now l.arc) (l.depart + 1 * step q.instance.now l.arc) (stable l.arc on.leads.0 l.depart leaves) (omega arith) in
      (leaves, leave_after earliest stable (arc_at q.instance.now l.arc).to (l.depart + 1 * step q.instance.now l.arc) legs (record { leads = on.leads.2; ready = on.ready.1; can = on.can.1 }) next)

  -- and from each terminal on it can go on from no later than the latest moment, and each leg leaves in time
  leave_before : (latest : List (Option ℕ)) → AreOnward q latest → AllBelow (IsStableTo q) (length q.instance.now.arcs) latest → (here at : ℕ) (legs : List Leg) → IsOnward q here at legs → at ≤ 4294967295 →
      IsSomeAnd (value_at latest here) (λ u. at ≤ u) × AllByRecursion (λ (l : Leg). LeavesInTime q l.arc (value_at latest (arc_at q.instance.now l.arc).to) l.depart) legs
  leave_before latest good stable here at [] on small = (
    subst (λ (t : ℕ). IsSomeAnd (value_at latest t) (λ u. at ≤ u)) (sym on.leads) (at-least_earlier (value_at latest (asked_for q).to) 4294967295 at good.there small),
    tt,
  )
  leave_before latest good stable here at (l ∷ legs) on small =
      let later : l.depart + 1 * step q.instance.now l.arc ≤ 4294967295 = omega (arith, ready_in_time l.arc l.depart on.leads.0 on.can.0) in
      let rest = leave_before latest good stable (arc_at q.instance.now l.arc).to (l.depart + 1 * step q.instance.now l.arc) legs (record { leads = on.leads.2; ready = on.ready.1; can = on.can.1 }) later in
      let leaves : LeavesInTime q l.arc (value_at latest (arc_at q.instance.now l.arc).to) l.depart =
      (at-least_earlier (value_at latest (arc_at q.instance.now l.arc).to) (l.depart + 1 * step q.instance.now l.arc) (l.depart + step q.instance.now l.arc) rest.0 (omega arith), on.can.0) in (
        subst (λ (t : ℕ). IsSomeAnd (value_at latest t) (λ u. at ≤ u)) on.leads.1
            (at-least_earlier (value_at latest (arc_at q.instance.now l.arc).from) l.depart at (stable l.arc on.leads.0 l.depart leaves) on.ready.0),
        (leaves, rest.1),
      )

  module _ (earliest latest : List (Option ℕ)) (ready : AreReady q earliest) (onward : AreOnward q latest) (from : AllBelow (IsStableFrom q) (length q.instance.now.arcs) earliest)
      (to : AllBelow (IsStableTo q) (length q.instance.now.arcs) latest) where
    -- a leg of legs from the origin to the destination leaves between
    pub fits_between : (legs : List Leg) (a m : ℕ) → IsOnward q (asked_for q).from (asked_for q).release legs → Contains legs (record { arc = a; depart = m }) → FitsBetween q earliest latest a m
    fits_between legs a m on has =
        let s = asked.fits.valid.parts.shipments q.shipment no_shipment asked.shipment in
        let small : (asked_for q).release ≤ 4294967295 = omega (arith, s.window, s.within.due) in
        let after = leave_after earliest from (asked_for q).from (asked_for q).release legs on ready.release in
        let before = leave_before latest onward to (asked_for q).from (asked_for q).release legs on small in record {
          first = All-contains (λ (l : Leg). LeavesFrom q l.arc (value_at earliest (arc_at q.instance.now l.arc).from) l.depart) legs (record { arc = a; depart = m })
              (All-from_recursion (λ (l : Leg). LeavesFrom q l.arc (value_at earliest (arc_at q.instance.now l.arc).from) l.depart) legs after) has;
          last = All-contains (λ (l : Leg). LeavesInTime q l.arc (value_at latest (arc_at q.instance.now l.arc).to) l.depart) legs (record { arc = a; depart = m })
              (All-from_recursion (λ (l : Leg). LeavesInTime q l.arc (value_at latest (arc_at q.instance.now l.arc).to) l.depart) legs before.1) has;
        }

    -- what leaves between is a leg of some
    pub legs_through : (a m : ℕ) → a < length q.instance.now.arcs → FitsBetween q earliest latest a m → HasAll q (record { arc = a; depart = m } ∷ [])
    legs_through a m exists fits =
        has_leg q a exists (value_at earliest (arc_at q.instance.now a).from) (value_at latest (arc_at q.instance.now a).to) m (ready.ready (arc_at q.instance.now a).from) (onward.onward (arc_at q.instance.now a).to) fits.first
        fits.last

-- the first and the last moment of a window both leave between
pub window_fits-first : (q : Asked) (earliest latest : List (Option ℕ)) (a : ℕ) (w : Window) → IsWindowBetween q earliest latest a w → FitsBetween q earliest latest a w.lo
window_fits-first q earliest latest a w is = record {
  first = is.first.0;
  last = (
    at-least_earlier (value_at latest (arc_at q.instance.now a).to) (w.hi + step q.instance.now a) (w.lo + step q.instance.now a) is.last.0.0 (omega (arith, is.some)),
    is.first.0.1,
  );
}

pub window_fits-last : (q : Asked) (earliest latest : List (Option ℕ)) (a : ℕ) (w : Window) → IsWindowBetween q earliest latest a w → FitsBetween q earliest latest a w.hi
window_fits-last q earliest latest a w is = record {
  first = (at-most_later (value_at earliest (arc_at q.instance.now a).from) w.lo w.hi is.first.0.0 is.some, is.last.0.1);
  last = is.last.0;
}

-- a row with one window more
pub row_none : (q : Asked) (earliest latest : List (Option ℕ)) → IsRowOf q earliest latest 0 []
row_none q earliest latest = record { one_each = refl; exact = λ a below. absurd (omega (arith, below)) }

pub row_more : (q : Asked) (earliest latest : List (Option ℕ)) (n : ℕ) (row new : List (Option Window)) (o : Option Window) → IsRowOf q earliest latest n row → IsWindowOf q earliest latest n o →
    new ≡ row ++ o ∷ [] → IsRowOf q earliest latest (n + 1) new
row_more q earliest latest n row new o is one same = rw same (record {
  one_each = omega (arith, length-append row (o ∷ []), is.one_each);
  exact = λ a below.
      ⊎_elim
      (λ (earlier : a < n).
      subst (λ (x : Option Window). IsWindowOf q earliest latest a x) (sym (get_or_append_left row (o ∷ []) None a (omega (arith, earlier, is.one_each)))) (is.exact a earlier))
      (λ (late : n ≤ a).
      let here : n ≡ a = omega (arith, late, below) in
      subst (λ (k : ℕ). IsWindowOf q earliest latest k (get_or (row ++ o ∷ []) k None)) here
      (subst (λ (x : Option Window). IsWindowOf q earliest latest n x) (sym (get_or_push row o None n is.one_each)) one))
      (cases_lt a n);
})

pub row_all : (q : Asked) (earliest latest : List (Option ℕ)) (n m : ℕ) (row : List (Option Window)) → n ≡ m → IsRowOf q earliest latest n row → IsRowOf q earliest latest m row
row_all q earliest latest n m row same is = subst (λ (k : ℕ). IsRowOf q earliest latest k row) same is
