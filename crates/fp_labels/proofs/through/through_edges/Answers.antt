use Rattle.std.proofs.Common.{ℕ, ◌*◌, ◌<◌, ◌≤◌, List, length, subst, sym}
use Rattle.std.specs.Prelude.{All, IfOk, IfSome, Option}
use Rattle.std.proofs.lemmas.Result.{IfOk-weaker}
use Rattle.fp_labels.specs.declared.graphs.Edge.{Edge}
use Rattle.fp_labels.specs.Labels.{greatest_cost}
use Rattle.fp_labels.specs.Walks.{cost_of}
use Rattle.fp_labels.specs.ThroughWalks.{AreCostsThrough, IsLeastThrough, cost_through}
use Rattle.fp_labels.proofs.ThroughCosts.{sums-exact, sums-most, sums-small}
use Rattle.fp_labels.proofs.through.through_edges.Goals as goal

pub costs_through-requires-clause-small : goal.costs_through-requires-clause-small
costs_through-requires-clause-small c =
    let g = c.args.graph.now in
    let costs = c.args.costs.now in
    let before = c.in_ok-before.before in
    let after = c.in_ok-after.after in
    subst (λ (edges : List Edge). (e : ℕ) → e < length edges → IfSome (cost_through edges costs before after e) (λ n. n ≤ greatest_cost)) (sym c.edges.ensures.same)
    (sums-small g costs c.args.start c.args.end before after c.edges.ensures.ends c.requires.costs_len c.requires.start c.requires.end c.in_ok-before.ensures c.in_ok-after.ensures c.requires.costs_small)

pub returns-clause-exact : goal.returns-clause-exact
returns-clause-exact c =
    let g = c.args.graph.now in
    let costs = c.args.costs.now in
    let start : ℕ = c.args.start in
    let end : ℕ = c.args.end in
    let before = c.in_ok-before.before in
    let after = c.in_ok-after.after in
    IfOk-weaker c.costs_through.result
    (λ through. AreCostsThrough g.edges costs before after (length g.edges) through.items)
    (λ through. (edge : ℕ) → edge < length g.edges → IsLeastThrough g.edges costs start end edge (cost_of through.items edge))
    (λ through.
    sums-exact g costs start end before after c.edges.ensures.ends c.requires.costs_len c.requires.start c.requires.end c.in_ok-before.ensures c.in_ok-after.ensures through.items)
    (subst (λ (edges : List Edge). IfOk c.costs_through.result (λ through. AreCostsThrough edges costs before after (length edges) through.items)) c.edges.ensures.same c.costs_through.ensures)

pub returns-clause-small : goal.returns-clause-small
returns-clause-small c =
    let g = c.args.graph.now in
    let costs = c.args.costs.now in
    let before = c.in_ok-before.before in
    let after = c.in_ok-after.after in
    IfOk-weaker c.costs_through.result
    (λ through. AreCostsThrough g.edges costs before after (length g.edges) through.items)
    (λ through. (most : ℕ) → All (λ (o : Option ℕ). IfSome o (λ (n : ℕ). n ≤ most)) costs → All (λ (o : Option ℕ). IfSome o (λ (n : ℕ). n ≤ 2 * g.nodes * most)) through.items)
    (λ through.
    sums-most g costs c.args.start c.args.end before after c.edges.ensures.ends c.requires.costs_len c.requires.start c.requires.end c.in_ok-before.ensures c.in_ok-after.ensures through.items)
    (subst (λ (edges : List Edge). IfOk c.costs_through.result (λ through. AreCostsThrough edges costs before after (length edges) through.items)) c.edges.ensures.same c.costs_through.ensures)
