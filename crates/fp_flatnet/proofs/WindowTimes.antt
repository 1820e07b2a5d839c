-- When a shipment can leave by an arc, and be at its head, where the windows fit the instance; and so
-- where they belong to it.
use Rattle.std.proofs.Common.{◌≡◌, ◌≢◌, ℕ, zero, suc, ◌+◌, ◌<◌, ◌≤◌, Some, None, Option, List, [], ◌∷◌, length, get_or, refl, sym, ap, subst, arith}
use Rattle.std.specs.Prelude.{IfSome, IsSomeAnd, map, nat_eq}
use Rattle.std.proofs.lemmas.Bool.{cond-false, cond-true, eq-eqb, ne_eqb}
use Rattle.fp_model.specs.declared.parts.Shipment.{Shipment}
use Rattle.fp_model.specs.Numbered.{no_shipment, shipment_at}
use Rattle.fp_model.specs.Problem.{IsValid, Problem, arc_at, horizon}
use Rattle.fp_model.specs.Routes.{step}
use Rattle.fp_model.specs.Times.{IsLeastTime}
use Rattle.fp_timenodes.specs.declared.places.Place.{Place}
use Rattle.fp_flatnet.specs.declared.window_tables.Window.{Window}
use Rattle.fp_flatnet.specs.Belonging.{AreNarrower, BelongsTo, FitsInstance, IsInsideWindow, IsNarrowed}
use Rattle.fp_flatnet.specs.Tables.{WindowTable, tail_of, windows_in}
use Rattle.fp_flatnet.specs.Windows.{time_after, time_before}
use Rattle.fp_flatnet.proofs.WindowEntries.{entry-exists}
use Rattle.fp_flatnet.proofs.LeastWalks.{IsLeastTime-unique}

-- a window that was narrowed lies inside the problem's
IsNarrowed-inside : (p : Problem) (s : Shipment) (a : ℕ) (anchors : List Place) (w : Window) → IsNarrowed p s a anchors w → IsInsideWindow p s a w
IsNarrowed-inside p s a anchors w is = record { wide = is.wide; is_window = is.is_window; lo = is.lo; some = is.some; hi = is.hi }

-- windows that belong to an instance fit it
pub BelongsTo-FitsInstance : (p : Problem) (table : WindowTable) → BelongsTo p table → FitsInstance p table
BelongsTo-FitsInstance p table belongs = record {
  valid = belongs.valid;
  tails = belongs.tails;
  shipments = belongs.shipments;
  arcs = belongs.arcs;
  inside = λ k a k_lt a_lt. each k a (windows_in table k a) (belongs.narrowed k a k_lt a_lt);
}
  where
    each : (k a : ℕ) (o : Option Window) → IfSome o (IsNarrowed p (shipment_at p k) a table.anchors) → IfSome o (IsInsideWindow p (shipment_at p k) a)
    each k a None is = tt
    each k a (Some w) is = IsNarrowed-inside p (shipment_at p k) a table.anchors w is

-- the same, by a name that a function's tactic can be told of
pub BelongsTo_fits : (p : Problem) (table : WindowTable) → BelongsTo p table → FitsInstance p table
BelongsTo_fits = BelongsTo-FitsInstance

-- rows that lie inside the problem's windows fit the instance, whatever the anchors
pub FitsInstance-rows : (p : Problem) (table : WindowTable) → IsValid p → table.tails ≡ map tail_of p.arcs → AreNarrower p table.rows → FitsInstance p table
FitsInstance-rows p table valid tails are = record { valid = valid; tails = tails; shipments = are.shipments; arcs = are.arcs; inside = are.inside }

module _ (p : Problem) (s : Shipment) (a : ℕ) (w : Window) (is : IsInsideWindow p s a w) where
  -- it leaves at its release or later
  pub IsInsideWindow_release : s.release ≤ w.lo
  IsInsideWindow_release = omega (arith, is.lo, is.is_window.lo)

  -- and not before it can be at the arc's tail
  pub IsInsideWindow_before : (t : ℕ) → IsLeastTime p s.from (arc_at p a).from t → s.release + time_before p s a t ≤ w.lo
  IsInsideWindow_before t least =
      let same : is.is_window.before ≡ t = IsLeastTime-unique p s.from (arc_at p a).from is.is_window.before t is.is_window.to_tail least in
      omega (arith, is.lo, is.is_window.lo, ap (time_before p s a) same)

  -- it leaves so early that it can still be at its destination in time
  pub IsInsideWindow_after : (t : ℕ) → IsLeastTime p (arc_at p a).to s.to t → w.hi + time_after p s a t ≤ s.due
  IsInsideWindow_after t least =
      let same : is.is_window.after ≡ t = IsLeastTime-unique p (arc_at p a).to s.to is.is_window.after t is.is_window.from_head least in
      omega (arith, is.hi, is.is_window.hi, ap (time_after p s a) same)

  -- by an arc into its destination it arrives by its due time
  pub IsInsideWindow_into_destination : (arc_at p a).to ≡ s.to → w.hi + (arc_at p a).time ≤ s.due
  IsInsideWindow_into_destination into =
      let is_time : time_after p s a is.is_window.after ≡ (arc_at p a).time =
      cond-true (nat_eq (arc_at p a).to s.to) (arc_at p a).time (step p a + is.is_window.after) (eq-eqb (arc_at p a).to s.to into) in
      omega (arith, is.hi, is.is_window.hi, is_time)

  -- by another arc it is ready to go on by its due time
  pub IsInsideWindow_onward : (arc_at p a).to ≢ s.to → w.hi + step p a ≤ s.due
  IsInsideWindow_onward onward =
      let is_time : time_after p s a is.is_window.after ≡ step p a + is.is_window.after =
      cond-false (nat_eq (arc_at p a).to s.to) (arc_at p a).time (step p a + is.is_window.after) (ne_eqb (arc_at p a).to s.to onward) in
      omega (arith, is.hi, is.is_window.hi, is_time)

-- no shipment is due after the horizon
due_le_horizon : (shipments : List Shipment) (k : ℕ) → k < length shipments → (get_or shipments k no_shipment).due ≤ horizon shipments
due_le_horizon [] k h = absurd (omega arith)
due_le_horizon (s ∷ shipments) zero h = omega arith
due_le_horizon (s ∷ shipments) (suc k) h = omega (arith, due_le_horizon shipments k (omega arith))

-- a window that fits is that of a shipment and an arc of the instance, and lies inside the problem's
pub record IsFitting (p : Problem) (k a : ℕ) (w : Window) : Type 0 where
  pub shipment : k < length p.shipments
  pub arc : a < length p.arcs
  pub inside : IsInsideWindow p (shipment_at p k) a w

-- there are the shipment and the arc of a window
window-exists : (p : Problem) (table : WindowTable) (k a : ℕ) (w : Window) → FitsInstance p table → windows_in table k a ≡ Some w → (k < length p.shipments) × (a < length p.arcs)
window-exists p table k a w fits is =
    let there = entry-exists table k a (λ v. v ≡ v) (subst (λ (o : Option Window). IsSomeAnd o (λ v. v ≡ v)) (sym is) (refl_of w)) in
    (omega (arith, there.0, fits.shipments), omega (arith, there.1, fits.arcs k [] there.0))
  where
    refl_of : (v : Window) → v ≡ v
    refl_of v = refl

module _ (p : Problem) (table : WindowTable) (k a : ℕ) (w : Window) (fits : FitsInstance p table) (is : windows_in table k a ≡ Some w) where
  pub IsFitting-FitsInstance : IsFitting p k a w
  IsFitting-FitsInstance =
      let there = window-exists p table k a w fits is in
      record {
        shipment = there.0;
        arc = there.1;
        inside = subst (λ (o : Option Window). IfSome o (IsInsideWindow p (shipment_at p k) a)) is (fits.inside k a there.0 there.1);
      }

  -- a window that fits begins at its shipment's release or later
  pub FitsInstance_release : (shipment_at p k).release ≤ w.lo
  FitsInstance_release = IsInsideWindow_release p (shipment_at p k) a w IsFitting-FitsInstance.inside

  -- no arc out of its destination has one
  pub FitsInstance_leaves : (arc_at p a).from ≢ (shipment_at p k).to
  FitsInstance_leaves = IsFitting-FitsInstance.inside.is_window.leaves

  -- and none into its origin
  pub FitsInstance_enters : (arc_at p a).to ≢ (shipment_at p k).from
  FitsInstance_enters = IsFitting-FitsInstance.inside.is_window.enters

  -- at the end of the window of an arc into its destination the arc's time is left until it is due
  pub FitsInstance_into_destination : (arc_at p a).to ≡ (shipment_at p k).to → w.hi + (arc_at p a).time ≤ (shipment_at p k).due
  FitsInstance_into_destination into = IsInsideWindow_into_destination p (shipment_at p k) a w IsFitting-FitsInstance.inside into

  -- at the end of that of another arc, the arc's step is left
  pub FitsInstance_onward : (arc_at p a).to ≢ (shipment_at p k).to → w.hi + step p a ≤ (shipment_at p k).due
  FitsInstance_onward onward = IsInsideWindow_onward p (shipment_at p k) a w IsFitting-FitsInstance.inside onward

  -- so what it reaches is no later than the horizon
  pub FitsInstance_horizon : (arc_at p a).to ≢ (shipment_at p k).to → w.hi + step p a ≤ horizon p.shipments
  FitsInstance_horizon onward = omega (arith, FitsInstance_onward onward, due_le_horizon p.shipments k IsFitting-FitsInstance.shipment)

-- a window that belongs is that of a shipment and an arc of the instance, and was narrowed from the
-- problem's
pub record IsBelonging (p : Problem) (table : WindowTable) (k a : ℕ) (w : Window) : Type 0 where
  pub shipment : k < length p.shipments
  pub arc : a < length p.arcs
  pub narrowed : IsNarrowed p (shipment_at p k) a table.anchors w

-- the same of windows that belong, since they fit
module _ (p : Problem) (table : WindowTable) (k a : ℕ) (w : Window) (belongs : BelongsTo p table) (is : windows_in table k a ≡ Some w) where
  fits : FitsInstance p table
  fits = BelongsTo-FitsInstance p table belongs

  pub IsBelonging-BelongsTo : IsBelonging p table k a w
  IsBelonging-BelongsTo =
      let there = window-exists p table k a w fits is in
      record {
        shipment = there.0;
        arc = there.1;
        narrowed = subst (λ (o : Option Window). IfSome o (IsNarrowed p (shipment_at p k) a table.anchors)) is (belongs.narrowed k a there.0 there.1);
      }

  pub BelongsTo_release : (shipment_at p k).release ≤ w.lo
  BelongsTo_release = FitsInstance_release p table k a w fits is

  pub BelongsTo_leaves : (arc_at p a).from ≢ (shipment_at p k).to
  BelongsTo_leaves = FitsInstance_leaves p table k a w fits is

  pub BelongsTo_enters : (arc_at p a).to ≢ (shipment_at p k).from
  BelongsTo_enters = FitsInstance_enters p table k a w fits is

  pub BelongsTo_into_destination : (arc_at p a).to ≡ (shipment_at p k).to → w.hi + (arc_at p a).time ≤ (shipment_at p k).due
  BelongsTo_into_destination into = FitsInstance_into_destination p table k a w fits is into

  pub BelongsTo_onward : (arc_at p a).to ≢ (shipment_at p k).to → w.hi + step p a ≤ (shipment_at p k).due
  BelongsTo_onward onward = FitsInstance_onward p table k a w fits is onward

  pub BelongsTo_horizon : (arc_at p a).to ≢ (shipment_at p k).to → w.hi + step p a ≤ horizon p.shipments
  BelongsTo_horizon onward = FitsInstance_horizon p table k a w fits is onward
