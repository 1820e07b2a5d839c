use Rattle.std.proofs.Common.{◌≡◌, ◌<◌, length, map, take}
use Rattle.std.specs.Prelude.{All}
use Rattle.fp_base_lists.specs.Vectors.{lists_of}
use Rattle.fp_yard.specs.Schedules.{leg_of}
use Rattle.fp_yard.proofs.journeys.journeys.Given as goal

-- the lines so far are those of the legs of the routes so far
abbrev pub invariant-loop-route : goal.invariant-loop-route
invariant-loop-route l = record {
  exist : All (All (λ line. line < length l.lines)) (lists_of l.journeys.items);
  legs : map (map (leg_of l.lines)) (lists_of l.journeys.items) ≡ lists_of (take l.route-index l.routes);
}
