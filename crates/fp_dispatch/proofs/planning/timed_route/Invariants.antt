use Rattle.std.proofs.Common.{◌≡◌, ℕ, ◌+◌, ◌<◌, length, get_or, take}
use Rattle.fp_model.specs.Numbered.{leg_at}
use Rattle.fp_model.specs.Routes.{arcs_of}
use Rattle.fp_dispatch.proofs.planning.timed_route.Given as goal

-- the legs so far
abbrev pub invariant-loop-leg : goal.invariant-loop-leg
invariant-loop-leg l = record {
  long : length l.legs.items ≡ l.leg;
  arcs : arcs_of l.legs.items ≡ take l.leg l.route;
  times : (i : ℕ) → i < l.leg → (leg_at l.legs.items i).depart ≡ get_or l.values (l.first + i) 0;
}
