use Rattle.std.proofs.Common.{ℕ, ◌≡◌, ◌≤◌, ◌&&◌, drop}
use Rattle.fp_allowed.specs.Moments.{all_let}
use Rattle.fp_allowed.proofs.moments.first_part.Given as goal

-- up to the last moment so far the sides before answer alike, and what they answer is told
abbrev pub invariant-loop-side : goal.invariant-loop-side
invariant-loop-side l =
    (l.lo ≤ l.hi) × (l.hi ≤ l.fn.window.hi)
    × ((m : ℕ) → l.lo ≤ m → m ≤ l.hi → (l.free && all_let l.arc m (drop l.side-index l.sides)) ≡ all_let l.arc m l.sides)
