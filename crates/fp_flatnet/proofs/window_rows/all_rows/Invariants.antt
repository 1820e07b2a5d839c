use Rattle.std.proofs.Common.{◌≡◌, ◌<◌, ℕ, [], length}
use Rattle.std.specs.Prelude.{slice_index_or}
use Rattle.fp_model.specs.Numbered.{shipment_at}
use Rattle.fp_flatnet.specs.Tables.{row_lists}
use Rattle.fp_flatnet.specs.Windows.{IsWindowRow}
use Rattle.fp_flatnet.proofs.window_rows.all_rows.Given as goal

abbrev pub invariant-loop-shipment : goal.invariant-loop-shipment
invariant-loop-shipment l =
    (length (row_lists l.rows.items) ≡ l.shipment-index)
    × ((k : ℕ) → k < l.shipment-index → IsWindowRow l.instance (shipment_at l.instance k) (slice_index_or (row_lists l.rows.items) k []))
