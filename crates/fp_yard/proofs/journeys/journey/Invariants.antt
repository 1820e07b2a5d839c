use Rattle.std.proofs.Common.{◌≡◌, ◌<◌, length, map, take}
use Rattle.std.specs.Prelude.{All}
use Rattle.fp_yard.specs.Schedules.{leg_of}
use Rattle.fp_yard.proofs.journeys.journey.Given as goal

-- the lines so far are those of the legs so far
abbrev pub invariant-loop-leg : goal.invariant-loop-leg
invariant-loop-leg l = record {
  exist : All (λ line. line < length l.lines) l.journey.items;
  legs : map (leg_of l.lines) l.journey.items ≡ take l.leg-index l.route;
}
