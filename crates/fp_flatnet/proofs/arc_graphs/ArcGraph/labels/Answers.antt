use Rattle.std.proofs.Common.{List, sym, ◌∙◌, subst, ℕ}
use Rattle.std.specs.Prelude.{All, Option}
use Rattle.fp_labels.specs.Labels.{IsSmallFor}
use Rattle.fp_flatnet.proofs.ArcTimes.{costs-small}
use Rattle.fp_flatnet.proofs.arc_graphs.ArcGraph.labels.Goals as goal

pub distances-requires-clause-costs_small : goal.distances-requires-clause-costs_small
distances-requires-clause-costs_small c =
    let nodes = c.args.self.now.graph.nodes in
    subst (λ (costs : List (Option ℕ)). All (IsSmallFor nodes) costs) (sym (c.deref.ensures.value ∙ c.requires.costs))
    (costs-small c.args.instance.now nodes c.arcs-known.ensures.valid c.requires.nodes)
