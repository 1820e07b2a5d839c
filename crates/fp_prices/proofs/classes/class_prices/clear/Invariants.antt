use Rattle.std.proofs.Common.{◌≡◌, ℕ, ◌<◌, ◌≤◌, get_or}
use Rattle.std.specs.Prelude.{None}
use Rattle.fp_prices.proofs.classes.class_prices.clear.Given as goal

-- the entries so far are cleared, and the others stay
abbrev pub invariant-loop-place : goal.invariant-loop-place
invariant-loop-place l = ((n : ℕ) → n < l.place → get_or l.costs n None ≡ None) × ((n : ℕ) → l.place ≤ n → get_or l.costs n None ≡ get_or l.fn.costs n None)
