use Rattle.std.proofs.Common.{ℕ, ◌*◌, ◌^◌, ◌<◌, ◌≤◌, length, take, get_or}
use Rattle.std.specs.Prelude.{All}
use Rattle.fp_timetable.specs.declared.lines.TruckLine.{TruckLine}
use Rattle.fp_timetable.specs.Order.{AreMerged, IsNotAfter}
use Rattle.fp_timetable.proofs.MergedLegs.{no_leg_line}
use Rattle.fp_timetable.proofs.truck_lines.merged.Given as goal

-- the lines are the departures of the legs so far, come no later than the legs that are left, and
-- their loads are small
abbrev pub invariant-loop-leg : goal.invariant-loop-leg
invariant-loop-leg l = record {
  merged : AreMerged l.instance (take l.leg-index l.legs) l.lines.items;
  before : (j : ℕ) → l.leg-index ≤ j → j < length l.legs → All (IsNotAfter (get_or l.legs j no_leg_line)) l.lines.items;
  small : All (λ (t : TruckLine). t.load ≤ l.leg-index * 2 ^ 64) l.lines.items;
}
