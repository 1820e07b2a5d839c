use Rattle.std.proofs.Common.{◌≡◌, ◌<◌, ◌≤◌, ℕ, cond, length}
use Rattle.std.specs.Prelude.{None}
use Rattle.fp_base_lists.specs.Vectors.{lists_of}
use Rattle.fp_model.specs.Numbered.{route_at}
use Rattle.fp_flatnet.specs.Belonging.{BelongsTo}
use Rattle.fp_flatnet.specs.Tables.{windows_in}
use Rattle.fp_replan.specs.KeptWindows.{shut_off}
use Rattle.fp_replan.proofs.kept_windows.close_rows.Given as goal

abbrev pub invariant-loop-number : goal.invariant-loop-number
invariant-loop-number l = record {
  belongs : BelongsTo l.instance l.windows;
  anchors : l.windows.anchors ≡ l.fn.windows.anchors;
  done : (k a : ℕ) → k < l.number → a < length l.instance.arcs →
      windows_in l.windows k a ≡ cond (shut_off l.instance (route_at (lists_of l.beginnings) k) a) None (windows_in l.fn.windows k a);
  left : (k a : ℕ) → l.number ≤ k → windows_in l.windows k a ≡ windows_in l.fn.windows k a;
}
