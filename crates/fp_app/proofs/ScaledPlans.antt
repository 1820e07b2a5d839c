-- A plan of an instance at a scale is one of the instance, and so is one that keeps legs or goes on with a day.
use Rattle.std.proofs.Common.{◌≡◌, ℕ, ◌+◌, ◌*◌, ◌≤◌, List, [], ◌∷◌, refl, subst, ap}
use Rattle.std.specs.List.{AllZip}
use Rattle.fp_model.specs.declared.parts.Leg.{Leg}
use Rattle.fp_model.specs.declared.parts.Shipment.{Shipment}
use Rattle.fp_model.specs.Numbered.{route_at, shipment_at}
use Rattle.fp_model.specs.Problem.{Problem, arc_at}
use Rattle.fp_model.specs.Routes.{ArrivesBy, Carries, IsRoute, Leads, LeavesReady, arcs_of, step}
use Rattle.fp_replan_present.specs.declared.presents.Tracked.{Tracked}
use Rattle.fp_replan_present.specs.Days.{AreInOrder, Day, arrival, from_now, last_arrival, next_ready, settled_ready}
use Rattle.fp_replan_present.specs.Plans.{GoesUnderway, settled_of}
use Rattle.fp_app_tails.specs.Ahead.{GoesOn}
use Rattle.fp_app_tails.specs.Duties.{Duty, go_on, keep}

module _ (p : Problem) (scale : ℕ) where
  abbrev at : Problem
  at = record p { scale = scale }

  leads : (here : ℕ) (arcs : List ℕ) (there : ℕ) → Leads at here arcs there → Leads p here arcs there
  leads here [] there is = is
  leads here (a ∷ arcs) there is = (is.0, is.1, leads (arc_at p a).to arcs there is.2)

  route : (s : Shipment) (arcs : List ℕ) → IsRoute at s arcs → IsRoute p s arcs
  route s arcs is = record { some = is.some; leads = leads s.from arcs s.to is.leads; once = is.once }

  leaves : (d ready : ℕ) (legs : List Leg) → LeavesReady at d ready legs → LeavesReady p d ready legs
  leaves d ready [] is = is
  leaves d ready (l ∷ legs) is = (is.0, leaves d (l.depart + d * step p l.arc) legs is.1)

  arrives : (d due : ℕ) (legs : List Leg) → ArrivesBy at d due legs → ArrivesBy p d due legs
  arrives d due [] is = is
  arrives d due (l ∷ []) is = is
  arrives d due (l ∷ next ∷ legs) is = arrives d due (next ∷ legs) is

  carries : (d : ℕ) (s : Shipment) (legs : List Leg) → Carries at d s legs → Carries p d s legs
  carries d s legs is = record { route = route s (arcs_of legs) is.route; ready = leaves d (d * s.release) legs is.ready; due = arrives d s.due legs is.due }

  all-carry : (d : ℕ) (shipments : List Shipment) (routes : List (List Leg)) → AllZip (Carries at d) shipments routes → AllZip (Carries p d) shipments routes
  all-carry d [] [] are = are
  all-carry d [] (legs ∷ routes) are = absurd are
  all-carry d (s ∷ shipments) [] are = absurd are
  all-carry d (s ∷ shipments) (legs ∷ routes) are = (carries d s legs are.0, all-carry d shipments routes are.1)

  in-order : (ready : ℕ) (legs : List Tracked) → AreInOrder at ready legs → AreInOrder p ready legs
  in-order ready [] are = are
  in-order ready (x ∷ legs) are = (are.0, in-order (next_ready p x) legs are.1)

  settled-same : (ready : ℕ) (legs : List Tracked) → settled_ready at ready legs ≡ settled_ready p ready legs
  settled-same ready [] = refl
  settled-same ready (x ∷ legs) = settled-same (next_ready p x) legs

  last-same : (before : ℕ) (legs : List Tracked) → last_arrival at before legs ≡ last_arrival p before legs
  last-same before [] = refl
  last-same before (x ∷ legs) = last-same (arrival p x) legs

  goes : (day : Day) (d k : ℕ) (legs : List Leg) → GoesUnderway at day d k legs → GoesUnderway p day d k legs
  goes day d k legs is =
      let s : Shipment = shipment_at p k in
      let ready = ap (λ (n : ℕ). from_now day.time n) (settled-same s.release (settled_of day k)) in
      record {
        rest = is.rest;
        begins = is.begins;
        route = route s (arcs_of legs) is.route;
        order = in-order s.release (settled_of day k) is.order;
        keeps = is.keeps;
        ready = subst (λ (n : ℕ). LeavesReady p d (d * n) is.rest) ready (leaves d (d * from_now day.time (settled_ready at s.release (settled_of day k))) is.rest is.ready);
        due = arrives d s.due is.rest is.due;
        there = λ none. subst (λ (n : ℕ). n ≤ s.due) (last-same 0 (settled_of day k)) (is.there none);
      }

  -- some plan goes on
  pub goes-on : (duty : Duty) → GoesOn at duty → GoesOn p duty
  goes-on (keep kept) is = (is.0, is.1, is.2, all-carry is.0 p.shipments is.1 is.3, is.4)
  goes-on (go_on day) is = (is.0, is.1, is.2, record { one_each = is.3.one_each; each = λ k exists. goes day is.0 k (route_at is.1 k) (is.3.each k exists) })
