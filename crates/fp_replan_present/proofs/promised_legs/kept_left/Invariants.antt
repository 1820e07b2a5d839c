use Rattle.std.proofs.Common.{◌≡◌, ◌++◌, drop, map}
use Rattle.fp_replan_present.specs.Rests.{promised_among, renumbered}
use Rattle.fp_replan_present.proofs.promised_legs.kept_left.Given as goal

abbrev pub invariant-loop-place : goal.invariant-loop-place
invariant-loop-place l =
    l.kept.items ++ map (renumbered l.numbers) (promised_among l.present.time (drop l.place l.present.legs)) ≡ map (renumbered l.numbers) (promised_among l.present.time l.present.legs)
