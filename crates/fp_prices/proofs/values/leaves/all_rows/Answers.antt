use Rattle.std.proofs.Common.{◌≡◌, ◌+◌, List, [], ◌∷◌, ◌++◌, length, arith}
use Rattle.std.specs.Prelude.{Bool}
use Rattle.std.proofs.lemmas.List.{length-append}
use Rattle.fp_prices.proofs.ShipmentCosts.{rows_under-push}
use Rattle.fp_prices.proofs.values.leaves.all_rows.Goals as goal

pub loop-shipment-preserved : goal.loop-shipment-preserved
loop-shipment-preserved c =
    let rows : List (List Bool) = c.loop-shipment.rows.items in
    let so_far = c.loop-shipment.invariant in
    let more : length (rows ++ (c.in_ok-row.field-0 ∷ [])) ≡ c.loop-shipment.shipment + 1 = omega (arith, length-append rows (c.in_ok-row.field-0 ∷ []), so_far.0) in
    rw c.in_ok-push.ensures.items (more, rows_under-push c.args.allowed.now c.args.sides.now rows c.loop-shipment.shipment c.in_ok-row.field-0 so_far.0 so_far.1 c.in_ok-row.ensures.exact)
