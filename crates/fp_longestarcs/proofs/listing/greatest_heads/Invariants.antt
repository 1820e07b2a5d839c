use Rattle.std.proofs.Common.{◌≡◌, ◌+◌, map, take}
use Rattle.fp_timenodes.specs.Floor.{floor_point}
use Rattle.fp_longestarcs.proofs.listing.greatest_heads.Given as goal

abbrev pub invariant-loop-start : goal.invariant-loop-start
invariant-loop-start l = l.heads.items ≡ map (λ q. floor_point l.ends 1 (q + l.step)) (take l.start-index l.starts)
