use Rattle.std.proofs.Common.{◌≡◌, ℕ, List, length, sym, ap, ◌∙◌, subst, arith}
use Rattle.std.specs.Prelude.{All, Option}
use Rattle.fp_labels.specs.Graphs.{Shape}
use Rattle.fp_labels.specs.Labels.{IsSmallFor}
use Rattle.fp_longestarcs.specs.Networks.{TimedNetwork, class_count}
use Rattle.fp_prices.specs.Rounds.{LeafModel}
use Rattle.fp_prices.proofs.PointEdges.{length-edges}
use Rattle.fp_session_branching.proofs.SmallCosts.{small-for}
use Rattle.fp_session_branching.proofs.rises.cost_over.Goals as goal

pub fill_costs-requires-clause-room : goal.fill_costs-requires-clause-room
fill_costs-requires-clause-room c =
    let round = c.round-round.result.now in
    let same : round.network ≡ c.args.pricing.now.leaf.setting.network = c.round-round.ensures.network ∙ ap (λ (l : LeafModel). l.setting.network) c.leaf.ensures in
    omega (
      arith,
      c.in_ok-costs.ensures.count,
      length-edges round.problem round.network,
      ap (λ (n : TimedNetwork). class_count n) same,
      ap (λ (l : List (Option ℕ)). length l) c.deref_mut.ensures.value,
    )

pub distances-requires-clause-costs_small : goal.distances-requires-clause-costs_small
distances-requires-clause-costs_small c =
    subst (λ (l : List (Option ℕ)). All (IsSmallFor c.graph.result.now.nodes) l) (sym c.deref-2.ensures.value)
    (small-for c.graph.result.now.nodes c.in_ok-capped.capped.items (omega (arith, ap (λ (s : Shape). s.nodes) c.graph.ensures, c.network.ensures.few)) c.in_ok-capped.ensures.small)
