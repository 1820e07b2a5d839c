use Rattle.std.proofs.Common.{ℕ, ◌*◌, take}
use Rattle.fp_prices_knapsack.specs.Charges.{trucks_for}
use Rattle.fp_prices_knapsack.specs.Loads.{IsExcess}
use Rattle.fp_prices_knapsack.proofs.loads.greatest_excess.Given as goal

abbrev pub invariant-loop-load : goal.invariant-loop-load
invariant-loop-load l = IsExcess (take l.load l.best) (λ (load : ℕ). l.money * trucks_for l.capacity (l.grain * load)) l.most.amount l.most.load
