use Rattle.std.proofs.Common.{◌≡◌, ◌++◌}
use Rattle.fp_dispatch.specs.Rising.{legs_below}
use Rattle.fp_dispatch.proofs.gathering.push_legs.Given as goal

-- the legs so far
abbrev pub invariant-loop-leg : goal.invariant-loop-leg
invariant-loop-leg l = l.legs.items ≡ l.initial.legs.items ++ legs_below l.shipment l.leg
