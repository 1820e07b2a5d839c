-- Points with the initial ones of an instance and its windows stay so, and have each shipment's
-- times and each anchor.
use Rattle.std.proofs.Common.{◌≡◌, ◌≢◌, ℕ, ◌+◌, ◌<◌, true, List, ◌++◌, length, get_or, ⊎_elim, refl, sym, ap, ◌∙◌, subst, arith}
use Rattle.std.specs.Prelude.{nat_eq, Contains, IfSome, Option, Some}
use Rattle.std.proofs.lemmas.Bool.{cases_eq, cond-true, eq-eqb, or_left, or_right}
use Rattle.fp_model.specs.declared.parts.Shipment.{Shipment}
use Rattle.fp_model.specs.Numbered.{no_shipment, shipment_at}
use Rattle.fp_model.specs.Problem.{IsValid, Problem, arc_at, hold_at, no_arc}
use Rattle.fp_timenodes.specs.declared.places.Place.{Place}
use Rattle.fp_base_lists.specs.Membership.{list_has}
use Rattle.fp_timenodes.specs.Points.{times_at}
use Rattle.fp_base_lists.proofs.Membership.{list_has-append, list_has-rest, list_has-first, list_has-filter}
use Rattle.fp_flatnet.specs.declared.window_tables.Window.{Window}
use Rattle.fp_flatnet.specs.Belonging.{BelongsTo, IsNarrowed}
use Rattle.fp_flatnet.specs.Initial.{dues_at, releases_at}
use Rattle.fp_flatnet.specs.Tables.{WindowTable, windows_in}
use Rattle.fp_longestarcs.specs.Properties.{HasShipmentTimes}
use Rattle.fp_allowed.specs.InitialPoints.{HasInitialPoints}
use Rattle.fp_allowed.specs.SamePoints.{AgreeOnPoints}

-- the same points, in whatever lists
pub HasInitialPoints_same : (p : Problem) (anchors : List Place) (points others : ℕ → List ℕ) → AgreeOnPoints p points others → HasInitialPoints p anchors points → HasInitialPoints p anchors others
HasInitialPoints_same p anchors points others same initial = λ terminal at h has. sym (same terminal h at) ∙ initial terminal at h has

module _ (p : Problem) (anchors : List Place) (points : ℕ → List ℕ) (initial : HasInitialPoints p anchors points) where
  -- the time 0 is a point of each terminal
  pub initial_zero : (terminal : ℕ) → terminal < length p.terminals → list_has (points terminal) 0 ≡ true
  initial_zero terminal h = initial terminal 0 h (list_has-first 0 (releases_at p terminal ++ dues_at p terminal ++ times_at anchors terminal))

  -- each shipment's release is a point of its origin
  pub initial_release : (k : ℕ) (d : Shipment) → k < length p.shipments → (get_or p.shipments k d).from < length p.terminals →
      list_has (points (get_or p.shipments k d).from) (get_or p.shipments k d).release ≡ true
  initial_release k d h within =
      let s : Shipment = get_or p.shipments k d in
      let others : List ℕ = releases_at p s.from ++ dues_at p s.from in
      let own : list_has (releases_at p s.from) s.release ≡ true = list_has-filter (λ (t : Shipment). nat_eq t.from s.from) (λ (t : Shipment). t.release) p.shipments k d h (eq-eqb s.from s.from refl) in
      initial s.from s.release within
      (list_has-rest 0 (others ++ times_at anchors s.from) s.release
      (list_has-append others (times_at anchors s.from) s.release ∙
      or_left (list_has others s.release) (list_has (times_at anchors s.from) s.release)
      (list_has-append (releases_at p s.from) (dues_at p s.from) s.release ∙ or_left (list_has (releases_at p s.from) s.release) (list_has (dues_at p s.from) s.release) own)))

  -- each due time is a point of its destination
  pub initial_due : (k : ℕ) (d : Shipment) → k < length p.shipments → (get_or p.shipments k d).to < length p.terminals →
      list_has (points (get_or p.shipments k d).to) (get_or p.shipments k d).due ≡ true
  initial_due k d h within =
      let s : Shipment = get_or p.shipments k d in
      let others : List ℕ = releases_at p s.to ++ dues_at p s.to in
      let own : list_has (dues_at p s.to) s.due ≡ true = list_has-filter (λ (t : Shipment). nat_eq t.to s.to) (λ (t : Shipment). t.due) p.shipments k d h (eq-eqb s.to s.to refl) in
      initial s.to s.due within
      (list_has-rest 0 (others ++ times_at anchors s.to) s.due
      (list_has-append others (times_at anchors s.to) s.due ∙
      or_left (list_has others s.due) (list_has (times_at anchors s.to) s.due)
      (list_has-append (releases_at p s.to) (dues_at p s.to) s.due ∙ or_right (list_has (releases_at p s.to) s.due) (list_has (dues_at p s.to) s.due) own)))

  -- so the points have each shipment's times
  pub HasInitialPoints-HasShipmentTimes : IsValid p → HasShipmentTimes p points
  HasInitialPoints-HasShipmentTimes valid = λ k d h. (initial_release k d h (valid.parts.shipments k d h).from, initial_due k d h (valid.parts.shipments k d h).to)

  -- each anchor is a point
  pub initial_anchor : (place : Place) → place.terminal < length p.terminals → Contains anchors place → list_has (points place.terminal) place.at ≡ true
  initial_anchor place within among =
      let terminal : ℕ = place.terminal in
      let others : List ℕ = releases_at p terminal ++ dues_at p terminal in
      let same : get_or anchors among.0 place ≡ place = among.2 in
      let own : list_has (times_at anchors terminal) (get_or anchors among.0 place).at ≡ true =
      list_has-filter (λ (q : Place). nat_eq q.terminal terminal) (λ (q : Place). q.at) anchors among.0 place among.1 (eq-eqb (get_or anchors among.0 place).terminal terminal (ap (λ (q : Place). q.terminal) same)) in
      let there : list_has (times_at anchors terminal) place.at ≡ true = subst (λ (q : Place). list_has (times_at anchors terminal) q.at ≡ true) same own in
      initial terminal place.at within
      (list_has-rest 0 (others ++ times_at anchors terminal) place.at
      (list_has-append others (times_at anchors terminal) place.at ∙ or_right (list_has others place.at) (list_has (times_at anchors terminal) place.at) there))

-- a window for an arc out of the shipment's origin begins at a point
pub window_begins : (p : Problem) (table : WindowTable) (points : ℕ → List ℕ) (k a : ℕ) (w : Window) → BelongsTo p table → HasInitialPoints p table.anchors points → k < length p.shipments → a < length p.arcs →
    windows_in table k a ≡ Some w → (arc_at p a).from ≡ (shipment_at p k).from → list_has (points (arc_at p a).from) w.lo ≡ true
window_begins p table points k a w belongs initial shipment arc has leaves = begins (subst (λ (o : Option Window). IfSome o (IsNarrowed p (shipment_at p k) a table.anchors)) has (belongs.narrowed k a shipment arc))
  where
    begins : IsNarrowed p (shipment_at p k) a table.anchors w → list_has (points (arc_at p a).from) w.lo ≡ true
    begins narrowed =
        ⊎_elim
        (λ (same : w.lo ≡ narrowed.wide.lo).
        let s : Shipment = shipment_at p k in
        let test : nat_eq (arc_at p a).from s.from ≡ true = eq-eqb (arc_at p a).from s.from leaves in
        let at_once : narrowed.wide.lo ≡ s.release =
        omega (arith, narrowed.is_window.lo, cond-true (nat_eq (arc_at p a).from s.from) 0 (narrowed.is_window.before + hold_at p (arc_at p a).from) test) in
        subst (λ (n : ℕ). list_has (points (arc_at p a).from) n ≡ true) (sym (same ∙ at_once))
        (subst (λ (t : ℕ). list_has (points t) s.release ≡ true) (sym leaves) (initial_release p table.anchors points initial k no_shipment shipment (belongs.valid.parts.shipments k no_shipment shipment).from)))
        (λ (other : w.lo ≢ narrowed.wide.lo).
        initial_anchor p table.anchors points initial (record { terminal = (arc_at p a).from; at = w.lo }) (belongs.valid.parts.arcs a no_arc arc).from (narrowed.anchored other))
        (cases_eq w.lo narrowed.wide.lo)
