-- The four properties of a partially time-expanded network: Boland, Hewitt, Marshall and
-- Savelsbergh, "The Continuous-Time Service Network Design Problem", Operations Research 65, 2017;
-- the fourth in this project's own form.
use Rattle.std.specs.Prelude.{ℕ, ◌+◌, ◌<◌, ◌≤◌, ◌≡◌, List, length, All, true, slice_index}
use Rattle.fp_model.specs.declared.parts.Shipment.{Shipment}
use Rattle.fp_model.specs.Problem.{Problem, arc_at}
use Rattle.fp_model.specs.Routes.{step}
use Rattle.fp_base_lists.specs.Membership.{list_has}
use Rattle.fp_longestarcs.specs.Networks.{TimedNetwork, points_in, heads_in}

-- the network has a timed arc: a copy of an arc from a point of its tail to a time at its head
pub record IsTimedArc (p : Problem) (net : TimedNetwork) (arc start end : ℕ) : Type 0 where
  pub place : ℕ
  pub exists : arc < length p.arcs
  pub within : place < length (points_in net (arc_at p arc).from)
  pub starts : slice_index (points_in net (arc_at p arc).from) place ≡ start
  pub ends : slice_index (heads_in net arc) place ≡ end

-- each shipment's release at its origin and its due time at its destination are points
abbrev pub HasShipmentTimes : Problem → (ℕ → List ℕ) → Type 0
HasShipmentTimes p points =
    All (λ (s : Shipment). (list_has (points s.from) s.release ≡ true) × (list_has (points s.to) s.due ≡ true)) p.shipments

-- the properties of a network, the first wherever the points that it was made of have it
pub record HasProperties (p : Problem) (points : ℕ → List ℕ) (net : TimedNetwork) : Type 0 where
  pub shipment_times : HasShipmentTimes p points → HasShipmentTimes p (points_in net)
  pub not_longer : (arc start end : ℕ) → IsTimedArc p net arc start end → end ≤ start + step p arc
  pub copies : (arc start : ℕ) → arc < length p.arcs → list_has (points_in net (arc_at p arc).from) start ≡ true →
      (end : ℕ) × IsTimedArc p net arc start end
  pub longest : (arc start end later : ℕ) → IsTimedArc p net arc start end → end < later → later ≤ start + step p arc →
      list_has (points_in net (arc_at p arc).to) later ≡ true → ⊥
  pub between : (arc start end : ℕ) → IsTimedArc p net arc start end →
      (list_has (points_in net (arc_at p arc).from) start ≡ true) × (list_has (points_in net (arc_at p arc).to) end ≡ true)
