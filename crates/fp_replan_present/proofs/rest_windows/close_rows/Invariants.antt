use Rattle.std.proofs.Common.{◌≡◌, ◌<◌, ◌≤◌, ℕ, cond, length}
use Rattle.std.specs.Prelude.{None}
use Rattle.fp_base_lists.specs.Membership.{list_has}
use Rattle.fp_base_lists.specs.Vectors.{lists_of}
use Rattle.fp_model.specs.Problem.{arc_at}
use Rattle.fp_flatnet.specs.Belonging.{BelongsTo}
use Rattle.fp_flatnet.specs.Tables.{windows_in}
use Rattle.fp_replan_present.specs.Rests.{gone_at}
use Rattle.fp_replan_present.proofs.rest_windows.close_rows.Given as goal

abbrev pub invariant-loop-number : goal.invariant-loop-number
invariant-loop-number l = record {
  belongs : BelongsTo l.instance l.windows;
  anchors : l.windows.anchors ≡ l.fn.windows.anchors;
  done : (k a : ℕ) → k < l.number → a < length l.instance.arcs →
      windows_in l.windows k a ≡ cond (list_has (gone_at (lists_of l.gone) k) (arc_at l.instance a).to) None (windows_in l.fn.windows k a);
  left : (k a : ℕ) → l.number ≤ k → windows_in l.windows k a ≡ windows_in l.fn.windows k a;
}
