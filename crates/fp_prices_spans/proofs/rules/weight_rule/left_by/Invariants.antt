use Rattle.std.proofs.Common.{◌≡◌, ◌+◌, take}
use Rattle.std.specs.Prelude.{sum_by}
use Rattle.fp_prices.specs.declared.tables.Weight.{Weight}
use Rattle.fp_prices_spans.proofs.rules.weight_rule.left_by.Given as goal

-- what is left and the weights so far are together the number
abbrev pub invariant-loop-weight : goal.invariant-loop-weight
invariant-loop-weight l = l.left + sum_by (λ (w : Weight). w.w) (take l.weight-index l.weights) ≡ l.number
