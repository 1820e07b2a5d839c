-- The windows between the stable moments are those under sides, and they keep the whole legs of plans.
use Rattle.std.proofs.Common.{◌≡◌, ℕ, ◌*◌, ◌<◌, ◌≤◌, Bool, true, false, cond, List, [], ◌∷◌, length, get_or, ⊎_elim, sym, ap, ◌∙◌, subst, arith}
use Rattle.std.specs.Prelude.{Option, Some, None, IfOk, IsSomeAnd, Contains, Result, Ok, Err}
use Rattle.std.specs.List.{AllByRecursion}
use Rattle.std.specs.declared.alloc.AllocError.{AllocError}
use Rattle.std.specs.declared.alloc.Global.{Global}
use Rattle.std.specs.declared.vec.Vec.{Vec}
use Rattle.std.proofs.lemmas.Bool.{both_ways, cases_Bool}
use Rattle.std.proofs.lemmas.List.Elements.{All-contains_itself, recursion_from_All}
use Rattle.fp_base_lists.proofs.Maps.{lists_of-get_or}
use Rattle.fp_base_lists.proofs.Membership.{Contains-first}
use Rattle.fp_base_lists.specs.Vectors.{lists_of}
use Rattle.fp_model.specs.declared.parts.Leg.{Leg}
use Rattle.fp_model.specs.Numbered.{route_at, shipment_at}
use Rattle.fp_model.specs.Problem.{Problem, no_arc}
use Rattle.fp_model.specs.Routes.{arcs_of}
use Rattle.fp_model.proofs.Bounds.{Leads-exist}
use Rattle.fp_flatnet.specs.declared.window_tables.Window.{Window}
use Rattle.fp_flatnet.specs.Tables.{windows_in}
use Rattle.fp_flatnet.specs.Windows.{IsInside, LiesWithin, whole_legs}
use Rattle.fp_tree.specs.declared.sides.Side.{Side}
use Rattle.fp_allowed.specs.declared.free_moments.Asked.{Asked}
use Rattle.fp_allowed.specs.Allowed.{exit_of, meets_all, tails_of}
use Rattle.fp_allowed.specs.FreeMoments.{CanLeave, IsAsked, IsFree, own_sides}
use Rattle.fp_allowed.specs.Moments.{AreByTerminal, all_let, barring, concerned, is_barred}
use Rattle.fp_allowed.specs.Settings.{Setting}
use Rattle.fp_allowed.specs.Sweeps.{AllBelow, AreOnward, AreReady, FitsBetween, HasAll, IsOnward, IsRowOf, IsStableFrom, IsStableTo, IsWindowOf, asked_for}
use Rattle.fp_allowed.specs.WindowsUnder.{IsPassage, IsWindowRowUnder, IsWindowUnderOrNone, KeepsPlansWhole, PassesAt}
use Rattle.fp_allowed.proofs.OpenMoments.{is_barred-barring, meets_all-barred, meets_all-concerned}
use Rattle.fp_allowed.proofs.Passages.{fits_between, legs_through, window_fits-first, window_fits-last}
use Rattle.fp_allowed.proofs.WholeLegs.{whole_passage}

-- the list of a terminal has the sides that restrict its departures
own-concerned : (p : Problem) (k : ℕ) (sides : List Side) (lists : List (Vec Side Global)) (t : ℕ) → AreByTerminal p k sides lists → t < length lists → get_or (lists_of lists) t [] ≡ concerned p k t sides
own-concerned p k sides [] t by lt = absurd (omega (arith, lt))
own-concerned p k sides (v ∷ vs) t by lt = lists_of-get_or (v ∷ vs) t v lt ∙ by.exact t v lt

-- a free moment of a window is one inside it that all sides let
free-inside : (o : Option Window) (a m : ℕ) (own : List Side) → IsSomeAnd o (IsInside 1 m) → all_let a m own ≡ true → IsSomeAnd o (λ w. IsFree w a own m)
free-inside None a m own inside let_it = absurd inside
free-inside (Some w) a m own inside let_it =
    let lo : 1 * w.lo ≤ m = inside.0 in
    let hi : m ≤ 1 * w.hi = inside.1 in
    record { after = omega (arith, lo); before = omega (arith, hi); let_it = let_it }

inside-free : (o : Option Window) (a m : ℕ) (own : List Side) → IsSomeAnd o (λ w. IsFree w a own m) → IsSomeAnd o (IsInside 1 m) × (all_let a m own ≡ true)
inside-free None a m own free = absurd free
inside-free (Some w) a m own free =
    let lo : 1 * w.lo ≤ m = omega (arith, free.after) in
    let hi : m ≤ 1 * w.hi = omega (arith, free.before) in
    ((lo, hi), free.let_it)

-- an arc that is barred has no open window
closed-none : (b : Bool) (o : Option Window) (a m : ℕ) (own : List Side) → b ≡ true → IsSomeAnd (cond b None o) (λ w. IsFree w a own m) → ⊥
closed-none true o a m own barred can = can
closed-none false o a m own barred can = cc barred

module _ (q : Asked) (sides : List Side) (asked : IsAsked q) (lists : AreByTerminal q.instance.now q.shipment sides q.by_terminal.now) (through : q.through.now ≡ barring q.shipment sides) where
  own_is : (a : ℕ) → a < length q.instance.now.arcs → own_sides q a ≡ concerned q.instance.now q.shipment (tails_of q.instance.now a) sides
  own_is a exists =
      let tail : tails_of q.instance.now a < length q.instance.now.terminals = (asked.fits.valid.parts.arcs a no_arc exists).from in
      own-concerned q.instance.now q.shipment sides q.by_terminal.now (tails_of q.instance.now a) lists (omega (arith, tail, asked.one_each))

  barred_is : (a : ℕ) → is_barred q.instance.now q.shipment a q.through.now ≡ is_barred q.instance.now q.shipment a sides
  barred_is a = ap (λ (l : List Side). is_barred q.instance.now q.shipment a l) through ∙ is_barred-barring q.instance.now q.shipment a sides

  -- a leg meets all sides where the sides of its tail let it
  met : (l : Leg) → l.arc < length q.instance.now.arcs → is_barred q.instance.now q.shipment l.arc sides ≡ false →
      meets_all q.shipment sides (exit_of q.instance.now l) ≡ all_let l.arc l.depart (own_sides q l.arc)
  met l exists free = meets_all-concerned q.instance.now q.shipment l sides free ∙ ap (λ (s : List Side). all_let l.arc l.depart s) (sym (own_is l.arc exists))

  -- the shipment can leave by a leg exactly where it lies in its window and meets all sides
  can_leave-from : (l : Leg) → l.arc < length q.instance.now.arcs → IsSomeAnd (windows_in q.windows.now q.shipment l.arc) (IsInside 1 l.depart) → meets_all q.shipment sides (exit_of q.instance.now l) ≡ true →
      CanLeave q l.arc l.depart
  can_leave-from l exists inside meets =
      ⊎_elim
      (λ (barred : is_barred q.instance.now q.shipment l.arc sides ≡ true).
      absurd (both_ways (meets_all q.shipment sides (exit_of q.instance.now l)) (meets_all-barred q.instance.now q.shipment l sides barred) meets))
      (λ (free : is_barred q.instance.now q.shipment l.arc sides ≡ false).
      subst (λ (b : Bool). IsSomeAnd (cond b None (windows_in q.windows.now q.shipment l.arc)) (λ (w : Window). IsFree w l.arc (own_sides q l.arc) l.depart)) (sym (barred_is l.arc ∙ free))
      (free-inside (windows_in q.windows.now q.shipment l.arc) l.arc l.depart (own_sides q l.arc) inside (sym (met l exists free) ∙ meets)))
      (cases_Bool (is_barred q.instance.now q.shipment l.arc sides))

  can_leave-to : (l : Leg) → l.arc < length q.instance.now.arcs → CanLeave q l.arc l.depart →
      IsSomeAnd (windows_in q.windows.now q.shipment l.arc) (IsInside 1 l.depart) × (meets_all q.shipment sides (exit_of q.instance.now l) ≡ true)
  can_leave-to l exists can =
      ⊎_elim
      (λ (barred : is_barred q.instance.now q.shipment l.arc sides ≡ true).
      absurd
      (closed-none (is_barred q.instance.now q.shipment l.arc q.through.now) (windows_in q.windows.now q.shipment l.arc) l.arc l.depart (own_sides q l.arc) (barred_is l.arc ∙ barred) can))
      (λ (free : is_barred q.instance.now q.shipment l.arc sides ≡ false).
      let both =
      inside-free (windows_in q.windows.now q.shipment l.arc) l.arc l.depart (own_sides q l.arc)
      (subst (λ (b : Bool). IsSomeAnd (cond b None (windows_in q.windows.now q.shipment l.arc)) (λ (w : Window). IsFree w l.arc (own_sides q l.arc) l.depart)) (barred_is l.arc ∙ free) can) in
      (both.0, met l exists free ∙ both.1))
      (cases_Bool (is_barred q.instance.now q.shipment l.arc sides))

  can_leave-all : (legs : List Leg) → AllByRecursion (λ a. a < length q.instance.now.arcs) (arcs_of legs) → LiesWithin (windows_in q.windows.now) 1 q.shipment legs →
      AllByRecursion (λ (l : Leg). meets_all q.shipment sides (exit_of q.instance.now l) ≡ true) legs → AllByRecursion (λ (l : Leg). CanLeave q l.arc l.depart) legs
  can_leave-all [] exist within meets = tt
  can_leave-all (l ∷ legs) exist within meets = (can_leave-from l exist.0 within.0 meets.0, can_leave-all legs exist.1 within.1 meets.1)

  within-all : (legs : List Leg) → AllByRecursion (λ a. a < length q.instance.now.arcs) (arcs_of legs) → AllByRecursion (λ (l : Leg). CanLeave q l.arc l.depart) legs →
      LiesWithin (windows_in q.windows.now) 1 q.shipment legs
  within-all [] exist can = tt
  within-all (l ∷ legs) exist can = ((can_leave-to l exist.0 can.0).0, within-all legs exist.1 can.1)

  meets-all : (legs : List Leg) → AllByRecursion (λ a. a < length q.instance.now.arcs) (arcs_of legs) → AllByRecursion (λ (l : Leg). CanLeave q l.arc l.depart) legs →
      AllByRecursion (λ (l : Leg). meets_all q.shipment sides (exit_of q.instance.now l) ≡ true) legs
  meets-all [] exist can = tt
  meets-all (l ∷ legs) exist can = ((can_leave-to l exist.0 can.0).1, meets-all legs exist.1 can.1)

  -- a passage is legs by which the shipment can leave, from the origin on
  onward-passage : (legs : List Leg) → IsPassage q.instance.now (windows_in q.windows.now) sides q.shipment legs → IsOnward q (asked_for q).from (asked_for q).release legs
  onward-passage legs is = record {
    leads = is.leads;
    ready = is.ready;
    can = can_leave-all legs (Leads-exist q.instance.now (asked_for q).from (arcs_of legs) (asked_for q).to is.leads) is.within is.meets;
  }

  passage-onward : (legs : List Leg) → IsOnward q (asked_for q).from (asked_for q).release legs → IsPassage q.instance.now (windows_in q.windows.now) sides q.shipment legs
  passage-onward legs on =
      let exist : AllByRecursion (λ a. a < length q.instance.now.arcs) (arcs_of legs) = Leads-exist q.instance.now (asked_for q).from (arcs_of legs) (asked_for q).to on.leads in record {
        leads = on.leads;
        ready = on.ready;
        within = within-all legs exist on.can;
        meets = meets-all legs exist on.can;
      }

  module _ (earliest latest : List (Option ℕ)) (ready : AreReady q earliest) (onward : AreOnward q latest) (from : AllBelow (IsStableFrom q) (length q.instance.now.arcs) earliest)
      (to : AllBelow (IsStableTo q) (length q.instance.now.arcs) latest) where
    -- a passage leaves between the stable moments, and by what leaves between them there is one
    fits-passes : (a m : ℕ) → PassesAt q.instance.now (windows_in q.windows.now) sides q.shipment a m → FitsBetween q earliest latest a m
    fits-passes a m passes = fits_between q asked earliest latest ready onward from to passes.legs a m (onward-passage passes.legs passes.is) passes.leaves

    passes-fits : (a m : ℕ) → a < length q.instance.now.arcs → FitsBetween q earliest latest a m → PassesAt q.instance.now (windows_in q.windows.now) sides q.shipment a m
    passes-fits a m exists fits =
        let all : HasAll q (record { arc = a; depart = m } ∷ []) = legs_through q asked earliest latest ready onward from to a m exists fits in record {
          legs = all.legs;
          is = passage-onward all.legs all.onward;
          leaves = all.has (record { arc = a; depart = m }) (Contains-first (record { arc = a; depart = m }) []);
        }

    window-under : (a : ℕ) (o : Option Window) → a < length q.instance.now.arcs → IsWindowOf q earliest latest a o → IsWindowUnderOrNone q.instance.now (windows_in q.windows.now) sides q.shipment a o
    window-under a None exists none = λ m passes. none m (fits-passes a m passes)
    window-under a (Some w) exists is = record {
      first = passes-fits a w.lo exists (window_fits-first q earliest latest a w is);
      last = passes-fits a w.hi exists (window_fits-last q earliest latest a w is);
      between = λ m passes. let fits : FitsBetween q earliest latest a m = fits-passes a m passes in (is.first.1 m fits.first, is.last.1 m fits.last);
    }

    -- so the row is that under sides
    pub rows_under : (r : Result (Vec (Option Window) Global) AllocError) → IfOk r (λ row. IsRowOf q earliest latest (length q.instance.now.arcs) row.items) →
        IfOk r (λ row. IsWindowRowUnder q.instance.now (windows_in q.windows.now) sides q.shipment row.items)
    rows_under (Err e) is = tt
    rows_under (Ok row) is = record {
      one_each = is.one_each;
      exact = λ a exists. window-under a (get_or row.items a None) exists (is.exact a exists);
    }

-- a window under sides has each moment at which a passage leaves
window-inside : (p : Problem) (windows : ℕ → ℕ → Option Window) (sides : List Side) (k a m : ℕ) (o : Option Window) → IsWindowUnderOrNone p windows sides k a o → PassesAt p windows sides k a m →
    IsSomeAnd o (IsInside 1 m)
window-inside p windows sides k a m None none passes = absurd (none m passes)
window-inside p windows sides k a m (Some w) is passes =
    let both = is.between m passes in
    let lo : 1 * w.lo ≤ m = omega (arith, both.0) in
    let hi : m ≤ 1 * w.hi = omega (arith, both.1) in
    (lo, hi)

-- so a row under sides keeps the whole legs of plans
pub row_keeps-plans : (p : Problem) (windows : ℕ → ℕ → Option Window) (sides : List Side) (k : ℕ) (row : List (Option Window)) → k < length p.shipments → IsWindowRowUnder p windows sides k row →
    KeepsPlansWhole p windows sides k row
row_keeps-plans p windows sides k row shipment under d routes h plan within obeys =
    let legs : List Leg = whole_legs d (route_at routes k) in
    let is : IsPassage p windows sides k legs = whole_passage p windows sides d k routes h shipment plan within obeys in
    each legs legs is (Leads-exist p (shipment_at p k).from (arcs_of legs) (shipment_at p k).to is.leads) (recursion_from_All (Contains legs) legs (All-contains_itself legs))
  where
    each : (all legs : List Leg) → IsPassage p windows sides k all → AllByRecursion (λ a. a < length p.arcs) (arcs_of legs) → AllByRecursion (Contains all) legs →
        AllByRecursion (λ (l : Leg). IsSomeAnd (get_or row l.arc None) (IsInside 1 l.depart)) legs
    each all [] is exist has = tt
    each all (l ∷ legs) is exist has = (
      window-inside p windows sides k l.arc l.depart (get_or row l.arc None) (under.exact l.arc exist.0) (record { legs = all; is = is; leaves = has.0 }),
      each all legs is exist.1 has.1,
    )

-- so does one that is found, of a setting that is the same
pub plans_under : (s v : Setting) (sides : List Side) (k : ℕ) (r : Result (Vec (Option Window) Global) AllocError) → s ≡ v → k < length v.problem.shipments →
    IfOk r (λ row. IsWindowRowUnder s.problem (windows_in s.windows) sides k row.items) → IfOk r (λ row. KeepsPlansWhole v.problem (windows_in v.windows) sides k row.items)
plans_under s v sides k (Err e) same shipment under = tt
plans_under s v sides k (Ok row) same shipment under =
    row_keeps-plans v.problem (windows_in v.windows) sides k row.items shipment (subst (λ (x : Setting). IsWindowRowUnder x.problem (windows_in x.windows) sides k row.items) same under)
