use Rattle.std.proofs.Common.{◌≡◌, ℕ, None, length, arith}
use Rattle.std.specs.Prelude.{Option}
use Rattle.fp_flatnet.specs.declared.window_tables.Window.{Window}
use Rattle.fp_flatnet.specs.Windows.{IsWindowOrNone}
use Rattle.fp_flatnet.proofs.OneMoreElement.{each_push}
use Rattle.fp_flatnet.proofs.window_rows.window_row.Goals as goal

pub loop-number-preserved : goal.loop-number-preserved
loop-number-preserved c =
    let P : ℕ → Option Window → Type 0 = λ a o. IsWindowOrNone c.args.instance.now c.args.shipment.now a o in
    let row = c.loop-number.row in
    let long : length row.items ≡ c.loop-number.number = omega (arith, row.ok, c.loop-number.invariant.0) in
    let items = c.in_ok-push.ensures.items in (
      omega (arith, c.in_ok-push.ensures.len, c.loop-number.invariant.0),
      rw items (each_push P row.items c.window_of.result None c.loop-number.number long c.loop-number.invariant.1 c.window_of.ensures),
    )
