-- A whole network has the four properties.
use Rattle.std.proofs.Common.{◌≡◌, ℕ, ◌+◌, true, List, [], length, get_or, refl, sym, ap, ◌∙◌, subst, arith}
use Rattle.std.proofs.lemmas.List.{get_or-map}
use Rattle.fp_model.specs.declared.parts.Shipment.{Shipment}
use Rattle.fp_model.specs.Problem.{Problem, arc_at, no_arc, IsArc, IsShipment, IsValid}
use Rattle.fp_model.specs.Routes.{step}
use Rattle.fp_timenodes.specs.Floor.{floor_point}
use Rattle.fp_base_lists.specs.Membership.{list_has}
use Rattle.fp_timenodes.specs.Points.{TimePoints, points_at}
use Rattle.fp_timenodes.proofs.Floors.{floor_le, floor_greatest, IsFloorPoint-floor_point}
use Rattle.fp_longestarcs.specs.Classes.{head_of}
use Rattle.fp_longestarcs.specs.Ascending.{ArePoints}
use Rattle.fp_longestarcs.specs.Networks.{TimedNetwork, points_in, heads_in}
use Rattle.fp_longestarcs.specs.Whole.{IsNetworkOf, IsWholeNetwork}
use Rattle.fp_longestarcs.specs.Properties.{IsTimedArc, HasProperties}
use Rattle.fp_base_lists.proofs.Membership.{list_has-get_or, StandsAt-from_list_has, StandsAt}
use Rattle.fp_longestarcs.proofs.HeadLists.{whole-heads}

-- a timed arc of a whole network ends at the greatest point that is not after its start and the
-- arc's step
ends-greatest : (p : Problem) (net : TimedNetwork) (arc start end : ℕ) → IsWholeNetwork p net → IsTimedArc p net arc start end → end ≡ floor_point (points_in net (arc_at p arc).to) 1 (start + step p arc)
ends-greatest p net arc start end whole timed =
    let head : ℕ → ℕ = λ q. head_of p (points_in net) (record { arc = arc; depart = q }) in
    let starts : List ℕ = points_in net (arc_at p arc).from in
    sym timed.ends ∙ ap (λ (l : List ℕ). get_or l timed.place 0) (whole-heads p net arc whole timed.exists) ∙ get_or-map head starts timed.place 0 0 timed.within ∙ ap head timed.starts

-- and it leads to a point
ends-at-point : (p : Problem) (net : TimedNetwork) (arc start end : ℕ) → IsValid p → IsWholeNetwork p net → IsTimedArc p net arc start end → list_has (points_in net (arc_at p arc).to) end ≡ true
ends-at-point p net arc start end valid whole timed =
    let is : IsArc (length p.terminals) (arc_at p arc) = valid.parts.arcs arc no_arc timed.exists in
    let are : ArePoints (points_in net (arc_at p arc).to) = whole.valid.points (arc_at p arc).to [] (omega (arith, is.to, whole.arcs.terminals)) in
    subst (λ (n : ℕ). list_has (points_in net (arc_at p arc).to) n ≡ true) (sym (ends-greatest p net arc start end whole timed))
    (IsFloorPoint-floor_point (points_in net (arc_at p arc).to) (start + step p arc) are.zero).0

-- the network with the points as of a round has the properties
pub HasProperties-network : (p : Problem) (v : TimePoints) (round : ℕ) (net : TimedNetwork) → IsValid p → IsNetworkOf p v round net → HasProperties p (λ t. points_at v t round) net
HasProperties-network p v round net valid made = record {
  shipment_times = λ there k d h.
      let s : Shipment = get_or p.shipments k d in
      let is : IsShipment (length p.terminals) s = valid.parts.shipments k d h in (
        made.points s.from is.from s.release ∙ (there k d h).0,
        made.points s.to is.to s.due ∙ (there k d h).1,
      );
  not_longer = λ arc start end timed.
      omega (arith, ends-greatest p net arc start end made.whole timed, floor_le (points_in net (arc_at p arc).to) 1 (start + step p arc));
  copies = λ arc start exists there.
      let w : StandsAt (points_in net (arc_at p arc).from) start = StandsAt-from_list_has (points_in net (arc_at p arc).from) start there in
      (get_or (heads_in net arc) w.place 0, record { place = w.place; exists = exists; within = w.within; starts = w.is 0; ends = refl });
  longest = λ arc start end later timed after before there.
      omega (arith, ends-greatest p net arc start end made.whole timed, floor_greatest (points_in net (arc_at p arc).to) 1 (start + step p arc) later there (omega arith), after);
  between = λ arc start end timed. (
    subst (λ (n : ℕ). list_has (points_in net (arc_at p arc).from) n ≡ true) timed.starts (list_has-get_or (points_in net (arc_at p arc).from) timed.place 0 timed.within),
    ends-at-point p net arc start end valid made.whole timed,
  );
}
