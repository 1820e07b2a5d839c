use Rattle.std.proofs.Common.{◌≡◌, ℕ, ◌<◌, ◌≤◌, false, length, slice_index}
use Rattle.std.specs.Prelude.{slice_index_or}
use Rattle.fp_prices_knapsack.specs.Loads.{best_with, takes}
use Rattle.fp_prices_knapsack.proofs.loads.add_item.Given as goal

abbrev pub invariant-loop-load : goal.invariant-loop-load
invariant-loop-load l = record {
  len : length l.best ≡ length l.fn.best;
  taken_len : length l.taken ≡ length l.fn.best;
  done : (k : ℕ) → l.load ≤ k → k < length l.best → slice_index l.best k ≡ best_with (λ j. slice_index l.fn.best j) l.grains l.weight k;
  told : (k : ℕ) → l.load ≤ k → k < length l.best → slice_index_or l.taken k false ≡ takes (λ j. slice_index l.fn.best j) l.grains l.weight k;
  rest : (k : ℕ) → k < l.load → slice_index l.best k ≡ slice_index l.fn.best k;
  untold : (k : ℕ) → k < l.load → slice_index_or l.taken k false ≡ false;
}
