use Rattle.std.proofs.Common.{◌≡◌, ℕ, ◌<◌, length, get_or, [], All}
use Rattle.fp_timenodes.specs.Floor.{HaveSamePoints}
use Rattle.fp_timenodes.specs.Points.{points_at}
use Rattle.fp_longestarcs.specs.Ascending.{ArePoints}
use Rattle.fp_base_lists.specs.Vectors.{lists_of}
use Rattle.fp_longestarcs.proofs.listing.all_times.Given as goal

abbrev pub invariant-loop-terminal : goal.invariant-loop-terminal
invariant-loop-terminal l =
    (length (lists_of l.lists.items) ≡ l.terminal) × All ArePoints (lists_of l.lists.items) ×
    ((terminal : ℕ) → terminal < l.terminal → HaveSamePoints (get_or (lists_of l.lists.items) terminal []) (points_at l.points terminal l.round))
