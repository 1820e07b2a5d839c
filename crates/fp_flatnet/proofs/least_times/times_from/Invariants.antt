use Rattle.std.proofs.Common.{◌≡◌, ◌<◌, ℕ, vec_len}
use Rattle.fp_model.specs.Times.{IsDistance}
use Rattle.fp_flatnet.specs.Distances.{time_at}
use Rattle.fp_flatnet.proofs.least_times.times_from.Given as goal

abbrev pub invariant-loop-there : goal.invariant-loop-there
invariant-loop-there l = (vec_len l.times ≡ l.there) × ((k : ℕ) → k < l.there → IsDistance l.instance l.here k (time_at l.times.items k))
