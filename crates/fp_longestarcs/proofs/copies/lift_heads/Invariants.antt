use Rattle.std.proofs.Common.{◌≡◌, ℕ, ◌<◌, ◌≤◌, get_or}
use Rattle.fp_longestarcs.specs.Changes.{lifted_head}
use Rattle.fp_longestarcs.proofs.copies.lift_heads.Given as goal

abbrev pub invariant-loop-copy : goal.invariant-loop-copy
invariant-loop-copy l =
    ((k : ℕ) → k < l.copy → get_or l.heads k 0 ≡ lifted_head l.step l.at (get_or l.points k 0) (get_or l.initial.heads k 0)) ×
    ((k : ℕ) → l.copy ≤ k → get_or l.heads k 0 ≡ get_or l.initial.heads k 0)
