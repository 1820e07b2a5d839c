use Rattle.std.proofs.Common.{◌≡◌, map, take}
use Rattle.fp_flatnet.specs.Belonging.{BelongsTo}
use Rattle.fp_flatnet.specs.Tables.{windows_in}
use Rattle.fp_replan.specs.KeptWindows.{AreNarrow, kept_place}
use Rattle.fp_replan.proofs.kept_windows.narrow_all.Given as goal

abbrev pub invariant-loop-leg : goal.invariant-loop-leg
invariant-loop-leg l = record {
  belongs : BelongsTo l.instance l.windows;
  anchors : l.windows.anchors ≡ map (kept_place l.instance) (take l.leg-index l.kept);
  narrow : AreNarrow (take l.leg-index l.kept) (windows_in l.fn.windows) (windows_in l.windows);
}
