use Rattle.std.proofs.Common.{◌≡◌, ◌<◌, ℕ, None, vec_len}
use Rattle.std.specs.Prelude.{slice_index_or}
use Rattle.fp_flatnet.specs.Windows.{IsWindowOrNone}
use Rattle.fp_flatnet.proofs.window_rows.window_row.Given as goal

abbrev pub invariant-loop-number : goal.invariant-loop-number
invariant-loop-number l =
    (vec_len l.row ≡ l.number) × ((a : ℕ) → a < l.number → IsWindowOrNone l.instance l.shipment a (slice_index_or l.row.items a None))
