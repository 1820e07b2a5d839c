use Rattle.fp_allowed.specs.Sweeps.{AllBelow, AreOnward, Betters, IsStableTo, left_above}
use Rattle.fp_allowed.proofs.windows_under.better_tails.Given as goal

-- the arcs before are gone through
abbrev pub invariant-loop-arc : goal.invariant-loop-arc
invariant-loop-arc l = Betters (AreOnward l.asked) left_above (AllBelow (IsStableTo l.asked) l.arc) l.fn.latest l.latest l.changed
