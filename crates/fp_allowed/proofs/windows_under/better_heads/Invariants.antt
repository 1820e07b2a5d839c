use Rattle.fp_allowed.specs.Sweeps.{AllBelow, AreReady, Betters, IsStableFrom, left_below}
use Rattle.fp_allowed.proofs.windows_under.better_heads.Given as goal

-- the arcs before are gone through
abbrev pub invariant-loop-arc : goal.invariant-loop-arc
invariant-loop-arc l = Betters (AreReady l.asked) left_below (AllBelow (IsStableFrom l.asked) l.arc) l.fn.earliest l.earliest l.changed
