use Rattle.fp_prices_knapsack.specs.Loads.{AreBest, AreTaken}
use Rattle.fp_prices_knapsack.proofs.loads.fill.Given as goal

abbrev pub invariant-loop-item : goal.invariant-loop-item
invariant-loop-item l = record {
  best : AreBest l.items l.grain l.item-index l.best.items;
  taken : AreTaken l.items l.grain l.item-index l.loads l.taken.items;
}
