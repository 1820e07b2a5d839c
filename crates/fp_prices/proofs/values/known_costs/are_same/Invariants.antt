use Rattle.std.proofs.Common.{◌≡◌, ℕ, ◌<◌, false, get_or}
use Rattle.fp_prices.proofs.values.known_costs.are_same.Given as goal

-- the bits so far are the same
abbrev pub invariant-loop-place : goal.invariant-loop-place
invariant-loop-place l = (j : ℕ) → j < l.place → get_or l.left j false ≡ get_or l.right j false
