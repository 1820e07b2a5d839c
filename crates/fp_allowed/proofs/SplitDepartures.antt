-- A split that parts the allowed classes of a terminal divides the departures left there.
use Rattle.std.proofs.Common.{◌≡◌, ℕ, ◌<◌, ◌≤◌, Bool, true, false, ◌&&◌, List, [], ◌∷◌, ◌++◌, length, ⊎_elim, refl, sym, ap, ◌∙◌, subst, arith}
use Rattle.std.specs.Prelude.{nat_eq, nat_le, nat_lt, not, IsSomeAnd, Option, Some, None}
use Rattle.std.proofs.lemmas.Bool.{and_from, cases_lt, eq-eqb, le-leb, lt-ltb, ne_eqb, or_right}
use Rattle.fp_model.specs.declared.parts.Leg.{Leg}
use Rattle.fp_model.specs.Problem.{Problem}
use Rattle.fp_timenodes.specs.declared.places.TheConstants.{LATEST}
use Rattle.fp_timenodes.specs.Floor.{floor_point}
use Rattle.fp_base_lists.specs.Membership.{list_has}
use Rattle.fp_timenodes.proofs.Floors.{floor_le, floor_greatest}
use Rattle.fp_flatnet.specs.declared.window_tables.Window.{Window}
use Rattle.fp_flatnet.specs.Tables.{windows_in}
use Rattle.fp_longestarcs.specs.Ascending.{ArePoints}
use Rattle.fp_longestarcs.specs.Networks.{IsClass, TimedNetwork, points_in, tail_in}
use Rattle.fp_longestarcs.proofs.ClassNumbers.{tail-points}
use Rattle.fp_longestarcs.proofs.HeadLists.{arc-count, tail-of}
use Rattle.fp_base_lists.proofs.Membership.{StandsAt-from_list_has, StandsAt}
use Rattle.fp_tree.specs.declared.sides.Side.{Side}
use Rattle.fp_tree.specs.declared.sides.Side.TheVariants.{Without, Only, Before, From, Through}
use Rattle.fp_tree.specs.declared.sides.Split.{Split}
use Rattle.fp_tree.specs.declared.sides.Split.TheVariants.{ByArc, ByTime, ByTrucks, ByWay}
use Rattle.fp_allowed.specs.Allowed.{exit_of, meets, meets_all, tails_of}
use Rattle.fp_allowed.specs.Bits.{allowed_in, row_allows}
use Rattle.fp_allowed.specs.Choices.{AreByTwo, PartsClasses}
use Rattle.fp_allowed.specs.Departures.{DividesDepartures, IsSplitAt, departures_left}
use Rattle.fp_allowed.specs.Leaving.{OneLeaves}
use Rattle.fp_allowed.specs.Settings.{IsSetting, Setting}
use Rattle.fp_allowed.proofs.AllowedClasses.{HasMoment, is_allowed_parts}
use Rattle.fp_allowed.proofs.DepartureSums.{departure_left, departures_left_divided, meets_all_push}
use Rattle.fp_allowed.proofs.RowClasses.{is_class_parts}

-- a point of an arc's tail is not too late
point_in_time : (net : TimedNetwork) (c : Leg) → ArePoints (points_in net (tail_in net c.arc)) → IsClass net c → c.depart ≤ LATEST
point_in_time net c are is =
    let at : StandsAt (points_in net (tail_in net c.arc)) c.depart = StandsAt-from_list_has (points_in net (tail_in net c.arc)) c.depart is.1 in
    omega (arith, at.is 0, are.in_time at.place 0 at.within)

-- an arc by which one of two classes leaves a terminal whose bits are set exists, and leaves it
by_two-at : (s : Setting) (row : List Bool) (terminal arc : ℕ) → IsSetting s → AreByTwo (row_allows s.network row) (λ c. tails_of s.problem c.arc ≡ terminal) arc →
    (arc < length s.problem.arcs) × (tails_of s.problem arc ≡ terminal)
by_two-at s row terminal arc is two =
    let class : IsClass s.network two.one = (is_class_parts s.network row two.one two.one_leaves.allowed_it).0 in
    (omega (arith, two.by, class.0, arc-count s.problem s.network is.whole.arcs), ap (tails_of s.problem) (sym two.by) ∙ two.one_leaves.leaves)

-- a split that parts classes whose bits are set is one at the terminal
pub PartsClasses-IsSplitAt : (s : Setting) (row : List Bool) (k terminal : ℕ) (split : Split) → IsSetting s → PartsClasses s.problem (row_allows s.network row) k terminal split → IsSplitAt s.problem k terminal split
PartsClasses-IsSplitAt s row k terminal (ByArc shipment arc) is parts =
    let there = by_two-at s row terminal arc is parts.1 in
    (parts.0, there.0, there.1)
PartsClasses-IsSplitAt s row k terminal (ByTime shipment place at) is parts =
    let two : Leg = parts.2.two in
    let class : IsClass s.network two = (is_class_parts s.network row two parts.2.two_leaves.allowed_it).0 in
    (parts.0, parts.1, omega (arith, parts.2.from, point_in_time s.network two (tail-points s.network two.arc is.whole.valid class.0) class))
PartsClasses-IsSplitAt s row k terminal (ByTrucks arc point until most) is parts = absurd parts
PartsClasses-IsSplitAt s row k terminal (ByWay shipment arc) is parts =
    let there = by_two-at s row terminal arc is parts.1 in
    (parts.0, there.0, there.1)

-- a moment of a class that meets one more side
with_side : (p : Problem) (points : ℕ → List ℕ) (sides : List Side) (side : Side) (k : ℕ) (c : Leg) (o : Option Window) →
    ((m : ℕ) → floor_point (points (tails_of p c.arc)) 1 m ≡ c.depart → meets k (exit_of p (record { arc = c.arc; depart = m })) side ≡ true) → IsSomeAnd o (HasMoment p points sides k c) →
    IsSomeAnd o (HasMoment p points (sides ++ (side ∷ [])) k c)
with_side p points sides side k c None meets_it has = absurd has
with_side p points sides side k c (Some w) meets_it has =
    let e = exit_of p (record { arc = c.arc; depart = has.moment }) in
    record {
      moment = has.moment;
      falls = has.falls;
      after = has.after;
      before = has.before;
      met = meets_all_push k sides side e ∙ and_from (meets_all k sides e) (meets k e side) has.met (meets_it has.moment has.falls);
    }

module _ (s : Setting) (sides : List Side) (k terminal : ℕ) (is : IsSetting s) where
  -- a departure of an allowed class that meets one more side
  departures_left_with : (side : Side) (c : Leg) → OneLeaves (allowed_in s sides k) (λ c. tails_of s.problem c.arc ≡ terminal) c →
      ((m : ℕ) → floor_point (points_in s.network (tails_of s.problem c.arc)) 1 m ≡ c.depart → meets k (exit_of s.problem (record { arc = c.arc; depart = m })) side ≡ true) →
      1 ≤ departures_left s.problem (windows_in s.windows) (sides ++ (side ∷ [])) k terminal
  departures_left_with side c one meets_it =
      let parts = is_allowed_parts s.problem (windows_in s.windows) (points_in s.network) sides k c one.allowed_it in
      departure_left s.problem (windows_in s.windows) (points_in s.network) (sides ++ (side ∷ [])) k terminal c parts.0 one.leaves
      (with_side s.problem (points_in s.network) sides side k c (windows_in s.windows k c.arc) meets_it parts.1)

  -- the point of an allowed class is one of its tail's
  point_there : (c : Leg) → IsClass s.network c → list_has (points_in s.network (tails_of s.problem c.arc)) c.depart ≡ true
  point_there c class =
      subst (λ (t : ℕ). list_has (points_in s.network t) c.depart ≡ true) (tail-of s.problem s.network c.arc is.whole.arcs (omega (arith, class.0, arc-count s.problem s.network is.whole.arcs))) class.1

  -- both sides of a split that parts the allowed classes leave a departure
  pub divides : (split : Split) → IsSplitAt s.problem k terminal split → PartsClasses s.problem (allowed_in s sides k) k terminal split → ((c : Leg) → allowed_in s sides k c ≡ true → IsClass s.network c) →
      DividesDepartures s.problem (windows_in s.windows) sides k terminal split
  divides (ByArc shipment arc) at parts classes =
      let two = parts.1 in
      record {
        first = departures_left_with (Without shipment arc) two.two two.two_leaves (λ m falls. rw (ne_eqb two.two.arc arc two.not_by) (without (nat_eq k shipment)));
        second = departures_left_with (Only shipment arc terminal) two.one two.one_leaves
            (λ m falls. or_right (not (nat_eq k shipment && nat_eq (tails_of s.problem two.one.arc) terminal)) (nat_eq two.one.arc arc) (eq-eqb two.one.arc arc two.by));
        together = departures_left_divided s.problem (windows_in s.windows) sides k terminal (ByArc shipment arc) at;
      }
    where
      without : (b : Bool) → not (b && false) ≡ true
      without true = refl
      without false = refl
  divides (ByTime shipment place time) at parts classes =
      let parted = parts.2 in
      let there : list_has (points_in s.network (tails_of s.problem parted.two.arc)) time ≡ true =
      subst (λ (q : ℕ). list_has (points_in s.network (tails_of s.problem parted.two.arc)) q ≡ true) parted.from (point_there parted.two (classes parted.two parted.two_leaves.allowed_it)) in
      let same : tails_of s.problem parted.two.arc ≡ tails_of s.problem parted.one.arc = parted.two_leaves.leaves ∙ sym parted.one_leaves.leaves in
      record {
        first = departures_left_with (Before shipment place time) parted.one parted.one_leaves
            (λ m falls.
            or_right (not (nat_eq k shipment && nat_eq (tails_of s.problem parted.one.arc) place)) (nat_lt m time)
            (lt-ltb m time (early m (points_in s.network (tails_of s.problem parted.one.arc)) parted.one.depart falls parted.before
            (subst (λ (t : ℕ). list_has (points_in s.network t) time ≡ true) same there))));
        second = departures_left_with (From shipment place time) parted.two parted.two_leaves
            (λ m falls.
            or_right (not (nat_eq k shipment && nat_eq (tails_of s.problem parted.two.arc) place)) (nat_le time m)
            (le-leb time m (omega (arith, falls, parted.from, floor_le (points_in s.network (tails_of s.problem parted.two.arc)) 1 m))));
        together = departures_left_divided s.problem (windows_in s.windows) sides k terminal (ByTime shipment place time) at;
      }
    where
      -- a moment of a class before a point is before the point
      early : (m : ℕ) (qs : List ℕ) (q : ℕ) → floor_point qs 1 m ≡ q → q < time → list_has qs time ≡ true → m < time
      early m qs q falls before there =
          ⊎_elim (λ (less : m < time). less) (λ (late : time ≤ m). absurd (omega (arith, falls, before, floor_greatest qs 1 m time there (omega arith)))) (cases_lt m time)
  divides (ByTrucks arc point until most) at parts classes = absurd at
  divides (ByWay shipment arc) at parts classes =
      let two = parts.1 in
      record {
        first = departures_left_with (Without shipment arc) two.two two.two_leaves (λ m falls. rw (ne_eqb two.two.arc arc two.not_by) (without (nat_eq k shipment)));
        second = departures_left_with (Through shipment arc) two.one two.one_leaves (λ m falls. rw (eq-eqb two.one.arc arc two.by) (without (nat_eq k shipment)));
        together = departures_left_divided s.problem (windows_in s.windows) sides k terminal (ByWay shipment arc) at;
      }
    where
      without : (b : Bool) → not (b && false) ≡ true
      without true = refl
      without false = refl
