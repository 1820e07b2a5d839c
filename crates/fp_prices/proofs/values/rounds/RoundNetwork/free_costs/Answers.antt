use Rattle.std.proofs.Common.{◌≡◌, ℕ, length, subst}
use Rattle.std.specs.Prelude.{IfOk}
use Rattle.fp_prices.proofs.values.rounds.RoundNetwork.free_costs.Goals as goal

pub returns-clause-count : goal.returns-clause-count
returns-clause-count c = subst (λ (n : ℕ). IfOk c.free_costs.result (λ costs. length costs.items ≡ n)) c.point_graph.ensures.count c.free_costs.ensures.count
