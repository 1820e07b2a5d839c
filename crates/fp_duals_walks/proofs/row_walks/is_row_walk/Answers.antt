use Rattle.std.proofs.Common.{◌≡◌, ℕ, false, List, sym, ap, ◌∙◌}
use Rattle.std.specs.Prelude.{nat_eq}
use Rattle.std.proofs.lemmas.List.{drop_all, drop_more}
use Rattle.fp_model.specs.declared.parts.Shipment.{Shipment}
use Rattle.fp_model.specs.Numbered.{shipment_at}
use Rattle.fp_longestarcs.specs.declared.stops.Stop.{Stop}
use Rattle.fp_longestarcs.specs.Stops.{legs_of}
use Rattle.fp_duals_walks.proofs.RowWalks.{at_origin, goes-none, goes-some, goes-walk, goes_on}
use Rattle.fp_duals_walks.proofs.row_walks.is_row_walk.Goals as goal

pub loop-class-init : goal.loop-class-init
loop-class-init c =
    ap (λ (s : Shipment). goes_on c.args.instance.now c.args.network.now c.args.row.now (shipment_at c.args.instance.now c.args.shipment).to (legs_of c.args.walk.now) (at_origin s)) (sym c.shipment-ends.ensures.same)

pub loop-class-preserved : goal.loop-class-preserved
loop-class-preserved c =
    let p = c.args.instance.now in
    let net = c.args.network.now in
    let to : ℕ = (shipment_at p c.args.shipment).to in
    let stop : Stop = record { arc = 0; point = 0 } in
    c.loop-class.invariant
    ∙ ap (λ (w : List Stop). goes_on p net c.args.row.now to (legs_of w) c.loop-class.here) (drop_more c.args.walk.now c.loop-class.class-index stop c.loop-class-test.true)
    ∙ goes-some p net c.args.row.now to _ _ c.loop-class.here c.in-Some.next (sym c.after_class.ensures ∙ c.in-Some.is)

pub returns-in-None : goal.returns-in-None
returns-in-None c =
    let p = c.args.instance.now in
    let net = c.args.network.now in
    let s : Shipment = shipment_at p c.args.shipment in
    let stop : Stop = record { arc = 0; point = 0 } in
    let fails =
    c.loop-class.invariant
    ∙ ap (λ (w : List Stop). goes_on p net c.args.row.now s.to (legs_of w) c.loop-class.here) (drop_more c.args.walk.now c.loop-class.class-index stop c.loop-class-test.true)
    ∙ goes-none p net c.args.row.now s.to _ _ c.loop-class.here (sym c.after_class.ensures ∙ c.in-None.is) in
    goes-walk p net c.args.row.now s c.requires.whole (legs_of c.args.walk.now) false (sym fails)

pub returns : goal.returns
returns c =
    let p = c.args.instance.now in
    let net = c.args.network.now in
    let s : Shipment = shipment_at p c.args.shipment in
    let to : c.shipment-ends.result.now.to ≡ s.to = ap (λ (t : Shipment). t.to) c.shipment-ends.ensures.same in
    let over = c.loop-class.invariant ∙ ap (λ (w : List Stop). goes_on p net c.args.row.now s.to (legs_of w) c.loop-class.here) (drop_all c.loop-class.class-index c.args.walk.now c.loop-class-test.false) in
    goes-walk p net c.args.row.now s c.requires.whole (legs_of c.args.walk.now) (nat_eq c.loop-class.here.terminal c.shipment-ends.result.now.to)
    (ap (λ (t : ℕ). nat_eq c.loop-class.here.terminal t) to ∙ sym over)
