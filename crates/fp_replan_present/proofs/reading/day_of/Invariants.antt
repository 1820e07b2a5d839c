use Rattle.std.proofs.Common.{◌≡◌, ◌≤◌, ◌+◌, drop, length}
use Rattle.fp_replan.specs.declared.kept.TheConstants.{MOST_KEPT}
use Rattle.fp_replan_present.specs.Days.{AreTracked}
use Rattle.fp_replan_present.specs.Drafts.{IsDraft, day_in}
use Rattle.fp_replan_present.specs.Records.{day_from, untold}
use Rattle.fp_replan_present.proofs.reading.day_of.Given as goal

-- the records that are left decide
abbrev pub invariant-loop-place : goal.invariant-loop-place
invariant-loop-place l = record {
  left : day_from l.instance (day_in l.draft) (l.first + l.place) (drop l.place l.lines) ≡ day_from l.instance untold l.first l.lines;
  sound : AreTracked l.instance (day_in l.draft);
  few : length l.draft.legs.items ≤ MOST_KEPT;
  draft : IsDraft (length l.instance.shipments) l.draft;
}
