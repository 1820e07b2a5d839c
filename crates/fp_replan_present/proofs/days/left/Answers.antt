use Rattle.std.proofs.Common.{◌∙◌, ℕ, List, length, map, sym, ap, subst, arith}
use Rattle.fp_base_lists.specs.Vectors.{lists_of}
use Rattle.fp_model.specs.declared.parts.Leg.{Leg}
use Rattle.fp_model.specs.declared.parts.Shipment.{Shipment}
use Rattle.fp_model.specs.Costs.{cost}
use Rattle.fp_model.specs.Problem.{IsValid}
use Rattle.fp_model.proofs.Bounds.{AreReady}
use Rattle.fp_replan_present.specs.declared.rests.Rest.{Rest}
use Rattle.fp_replan_present.specs.Days.{Day}
use Rattle.fp_replan_present.specs.Parts.{AreParts, IsStart}
use Rattle.fp_replan_present.specs.Rests.{IsRest, is_left, promised_among, renumbered}
use Rattle.fp_replan_present.proofs.Numbers.{passing-few}
use Rattle.fp_replan_present.proofs.SettledCosts.{settled-ready}
use Rattle.fp_replan_present.proofs.ShipmentParts.{CanGoOn-rest, IsOpen-parts, IsStart-parts}
use Rattle.fp_replan_present.proofs.Weights.{IsValid-left}
use Rattle.fp_replan_present.proofs.days.left.Goals as goal

pub kept_left-requires : goal.kept_left-requires
kept_left-requires c =
    let p = c.args.instance.now in
    let day = c.args.present.now in
    let are : AreParts p day (length p.shipments) c.in-All.parts = rw c.in-All.is at c.in_ok-shipment.ensures in
    omega (
      arith,
      ap (λ (ks : List ℕ). length ks) (c.deref.ensures.value ∙ are.numbers),
      passing-few (is_left p day) (length p.shipments),
      c.arcs-known.ensures.valid.parts.few_shipments,
    )

pub routes_cost-sunk-requires : goal.routes_cost-sunk-requires
routes_cost-sunk-requires c =
    let p = c.args.instance.now in
    let day = c.args.present.now in
    let are : AreParts p day (length p.shipments) c.in-All.parts = rw c.in-All.is at c.in_ok-shipment.ensures in
    let ready : AreReady p c.deref-in-All.result.now =
    settled-ready p day c.deref-in-All.result.now c.arcs-known.ensures.valid c.requires.tracked (ap lists_of c.deref-in-All.ensures.value ∙ are.settled) in
    record { long = ready.long; arcs = ready.arcs; fits = ready.fits }

pub with_shipments-requires : goal.with_shipments-requires
with_shipments-requires c =
    let p = c.args.instance.now in
    let day = c.args.present.now in
    let are : AreParts p day (length p.shipments) c.in-All.parts = rw c.in-All.is at c.in_ok-shipment.ensures in
    subst (λ (ss : List Shipment). IsValid (record p { shipments = ss })) (sym are.shipments) (IsValid-left p day c.arcs-known.ensures.valid are.within)

pub returns-in_ok-with_shipments-in-All : goal.returns-in_ok-with_shipments-in-All
returns-in_ok-with_shipments-in-All c =
    let p = c.args.instance.now in
    let day : Day = c.args.present.now in
    let parts = c.in-All.parts in
    let are : AreParts p day (length p.shipments) parts = rw c.in-All.is at c.in_ok-shipment.ensures in
    let rest : Rest = record {
      instance = c.in_ok-with_shipments-in-All.field-0;
      kept = c.in_ok-kept-in-All.kept;
      numbers = parts.numbers;
      settled = lists_of parts.settled.items;
      sunk = c.routes_cost-sunk.result;
      gone = parts.gone;
    } in
    let is : IsRest p day rest = record {
      instance = c.in_ok-with_shipments-in-All.ensures ∙ ap (λ (ss : List Shipment). record p { shipments = ss }) are.shipments;
      kept = c.in_ok-kept-in-All.ensures ∙ ap (λ (ks : List ℕ). map (renumbered ks) (promised_among day.time day.legs)) (c.deref.ensures.value ∙ are.numbers);
      numbers = are.numbers;
      settled = are.settled;
      sunk = c.routes_cost-sunk.ensures ∙ ap (λ (ls : List (List Leg)). cost p ls) (ap lists_of c.deref-in-All.ensures.value ∙ are.settled);
      gone = are.gone;
    } in
    let start : IsStart p day (lists_of parts.routes.items) = IsStart-parts p day parts c.requires.tracked are in (
      IsOpen-parts p day parts c.requires.tracked are,
      is,
      CanGoOn-rest p day rest (lists_of parts.routes.items) c.arcs-known.ensures.valid c.requires.tracked c.requires.few is start,
      start,
    )
