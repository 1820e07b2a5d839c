use Rattle.std.proofs.Common.{◌≡◌, ◌≤◌, [], length, subst, arith}
use Rattle.std.specs.Prelude.{Option}
use Rattle.std.specs.declared.alloc.Global.{Global}
use Rattle.std.specs.declared.vec.Vec.{Vec}
use Rattle.fp_model.specs.declared.parts.Shipment.{Shipment}
use Rattle.fp_model.specs.Numbered.{shipment_at}
use Rattle.fp_flatnet.specs.declared.window_tables.Window.{Window}
use Rattle.fp_flatnet.specs.Windows.{IsWindowRow}
use Rattle.fp_flatnet.proofs.OneMoreElement.{each_push_map}
use Rattle.fp_flatnet.proofs.FastestTimes.{shipment_read}
use Rattle.fp_flatnet.proofs.window_rows.all_rows.Goals as goal

pub loop-shipment-preserved : goal.loop-shipment-preserved
loop-shipment-preserved c =
    let p = c.args.instance.now in
    let n = c.loop-shipment.shipment-index in
    let same : c.shipment-item.result ≡ shipment_at p n =
    shipment_read p c.shipments-shipment-items.result.now n c.shipment-item.result c.shipments-shipment-items.ensures.same c.shipment-item.is c.loop-shipment-test.true in
    let row = c.in_ok-row.row in
    let last : IsWindowRow p (shipment_at p n) row.items = subst (λ (s : Shipment). IsWindowRow p s row.items) same c.in_ok-row.ensures in
    each_push_map (λ (r : Vec (Option Window) Global). r.items) (λ k. IsWindowRow p (shipment_at p k)) c.loop-shipment.rows.items c.push.new.self.items row [] n
    c.in_ok-push.ensures.items c.loop-shipment.invariant.0 c.loop-shipment.invariant.1 last

pub returns : goal.returns
returns c =
    let p = c.args.instance.now in
    let all : length p.shipments ≤ c.loop-shipment.shipment-index = rw (← c.shipments-shipment-items.ensures.same) c.loop-shipment-test.false in
    let few : c.loop-shipment.shipment-index ≤ length p.shipments = rw (← c.shipments-shipment-items.ensures.same) c.loop-shipment.auto.shipment-index-end in record {
      one_each = omega (arith, all, few, c.loop-shipment.invariant.0);
      exact = λ k lt. c.loop-shipment.invariant.1 k (omega (arith, lt, all));
    }
