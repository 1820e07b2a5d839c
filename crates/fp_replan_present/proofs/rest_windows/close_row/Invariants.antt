use Rattle.std.proofs.Common.{◌≡◌, ◌≢◌, ◌<◌, ◌≤◌, ℕ, cond}
use Rattle.std.specs.Prelude.{None}
use Rattle.fp_base_lists.specs.Membership.{list_has}
use Rattle.fp_model.specs.Problem.{arc_at}
use Rattle.fp_flatnet.specs.Belonging.{BelongsTo}
use Rattle.fp_flatnet.specs.Tables.{windows_in}
use Rattle.fp_replan_present.proofs.rest_windows.close_row.Given as goal

abbrev pub invariant-loop-number : goal.invariant-loop-number
invariant-loop-number l = record {
  belongs : BelongsTo l.instance l.windows;
  anchors : l.windows.anchors ≡ l.fn.windows.anchors;
  done : (a : ℕ) → a < l.number → windows_in l.windows l.shipment a ≡ cond (list_has l.gone (arc_at l.instance a).to) None (windows_in l.fn.windows l.shipment a);
  left : (a : ℕ) → l.number ≤ a → windows_in l.windows l.shipment a ≡ windows_in l.fn.windows l.shipment a;
  others : (k a : ℕ) → k ≢ l.shipment → windows_in l.windows k a ≡ windows_in l.fn.windows k a;
}
