use Rattle.std.proofs.Common.{◌≡◌, List, length, ap, arith}
use Rattle.fp_model.specs.declared.parts.Shipment.{Shipment}
use Rattle.fp_flatnet.specs.Tables.{row_lists, windows_in}
use Rattle.fp_allowed.proofs.LeafWindows.{rows_all, rows_more}
use Rattle.fp_allowed.proofs.windows_under.all_rows.Goals as goal

pub loop-shipment-preserved : goal.loop-shipment-preserved
loop-shipment-preserved c =
    rows_more c.args.instance.now (windows_in c.args.windows.now) c.args.sides.now c.loop-shipment.shipment c.loop-shipment.rows.items c.push.new.self.items c.in_ok-row.row c.loop-shipment.invariant c.in_ok-row.ensures
    c.in_ok-push.ensures.items

pub returns : goal.returns
returns c =
    let all : c.loop-shipment.shipment ≡ length c.args.instance.now.shipments =
    omega (arith, c.loop-shipment-test.false, c.loop-shipment.auto.shipment-end, ap (λ (l : List Shipment). length l) c.shipments.ensures.same) in
    rows_all c.args.instance.now (windows_in c.args.windows.now) c.args.sides.now c.loop-shipment.shipment (row_lists c.loop-shipment.rows.items) all c.loop-shipment.invariant
