use Rattle.std.proofs.Common.{◌≡◌, ◌++◌, ◌<◌, length, reverse}
use Rattle.fp_prices_knapsack.specs.Loads.{best_places}
use Rattle.fp_prices_knapsack.proofs.loads.trace.Given as goal

abbrev pub invariant-loop-place : goal.invariant-loop-place
invariant-loop-place l = record {
  traced : best_places l.items l.grain (length l.items) l.load ≡ best_places l.items l.grain l.place l.left ++ reverse l.places.items;
  within : l.left < l.loads;
}
