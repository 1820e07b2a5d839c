use Rattle.std.proofs.Common.{◌≡◌, ◌+◌, take}
use Rattle.std.specs.Prelude.{All}
use Rattle.fp_model.specs.Problem.{arc_at}
use Rattle.fp_timetable.specs.declared.lines.LegLine.{LegLine}
use Rattle.fp_checker.proofs.rules.plans.arrive_in_time.Given as goal

-- the legs that were passed arrive a travel time after they left
abbrev pub invariant-loop-leg : goal.invariant-loop-leg
invariant-loop-leg l = All (λ (m : LegLine). m.arrive ≡ m.depart + (arc_at l.instance m.arc).time) (take l.leg-index l.legs)
