use Rattle.std.proofs.Common.{◌≡◌, ◌<◌, ℕ, vec_len}
use Rattle.fp_model.specs.Times.{IsDistance}
use Rattle.fp_flatnet.specs.Distances.{time_at}
use Rattle.fp_flatnet.proofs.least_times.times_to.Given as goal

abbrev pub invariant-loop-here : goal.invariant-loop-here
invariant-loop-here l = (vec_len l.times ≡ l.here) × ((k : ℕ) → k < l.here → IsDistance l.instance k l.there (time_at l.times.items k))
