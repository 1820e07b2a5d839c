use Rattle.std.proofs.Common.{◌≡◌, ◌∙◌, ℕ, ◌+◌, ◌*◌, ◌^◌, ◌<◌, ◌≤◌, ◌-◌, ◌∷◌, ◌++◌, length, ap, sym, subst, arith}
use Rattle.std.specs.Prelude.{All, Option, IfOk, IfSome}
use Rattle.std.proofs.lemmas.Result.{IfOk-weaker}
use Rattle.fp_labels.specs.Labels.{IsSmallFor}
use Rattle.fp_labels.specs.TaggedWalks.{IsTaggedDistance}
use Rattle.fp_labels.proofs.LayeredEdges.{All-twice, layers-double, layers-few, length-twice}
use Rattle.fp_labels.proofs.LayeredWalks.{layered-exact}
use Rattle.fp_labels.proofs.tagged.+tagged_distance.Goals as goal

pub layered-requires-clause-few_nodes : goal.layered-requires-clause-few_nodes
layered-requires-clause-few_nodes t c =
    omega (arith, layers-few c.in-Some.rest.now c.args.wanted.now c.args.graph.now.nodes c.in-Some.ensures.cases.1, c.requires.few_nodes)

pub layered-requires-clause-few_edges : goal.layered-requires-clause-few_edges
layered-requires-clause-few_edges t c =
    omega (arith, layers-few c.in-Some.rest.now c.args.wanted.now (length c.args.graph.now.edges) c.in-Some.ensures.cases.1, c.requires.few_edges)

pub tagged_distance-requires : goal.tagged_distance-requires
tagged_distance-requires t c =
    let wanted = c.args.wanted.now in
    let rest = c.in-Some.rest.now in
    let nodes : ℕ = c.args.graph.now.nodes in
    let edges : ℕ = length c.args.graph.now.edges in
    let costs = c.args.costs.now in
    let tags = c.args.tags.now in
    let both = c.in_ok-both-in-Some.both in
    let fewer : length rest + 1 ≡ length wanted = c.in-Some.ensures.cases.1 in
    let both_nodes : both.nodes ≡ nodes + nodes = c.in_ok-both-in-Some.ensures.nodes in
    let both_edges : length both.edges ≡ edges + edges = c.in_ok-both-in-Some.ensures.edges.len in
    let all_nodes : 2 ^ length wanted * nodes ≡ 2 ^ length rest * both.nodes = layers-double rest wanted nodes fewer ∙ ap (λ (n : ℕ). 2 ^ length rest * n) (sym both_nodes) in
    let all_edges : 2 ^ length wanted * edges ≡ 2 ^ length rest * length both.edges = layers-double rest wanted edges fewer ∙ ap (λ (n : ℕ). 2 ^ length rest * n) (sym both_edges) in
    let both_costs : c.deref.result.now ≡ costs ++ costs = c.deref.ensures.value ∙ c.in_ok-both_costs-in-Some.ensures in
    let both_tags : c.deref-in-Some.result.now ≡ tags ++ tags = c.deref-in-Some.ensures.value ∙ c.in_ok-both_tags-in-Some.ensures in
    let falls : length rest < t = omega (arith, fewer) in
    let start : c.args.start < both.nodes = omega (arith, both_nodes, c.requires.start) in
    let costs_len : length c.deref.result.now ≡ length both.edges = length-twice costs c.deref.result.now edges both_costs c.requires.costs_len ∙ sym both_edges in
    let tags_len : length c.deref-in-Some.result.now ≡ length both.edges = length-twice tags c.deref-in-Some.result.now edges both_tags c.requires.tags_len ∙ sym both_edges in
    let few_nodes : 2 ^ length rest * both.nodes < 2 ^ 32 = omega (arith, all_nodes, c.requires.few_nodes) in
    let few_edges : 2 ^ length rest * length both.edges < 2 ^ 32 - 1 = omega (arith, all_edges, c.requires.few_edges) in
    let small : All (IsSmallFor (2 ^ length rest * both.nodes)) c.deref.result.now =
    All-twice (IsSmallFor (2 ^ length rest * both.nodes)) costs c.deref.result.now both_costs (subst (λ (n : ℕ). All (IsSmallFor n) costs) all_nodes c.requires.small) in
    (falls, (start, (omega (arith, both_nodes, c.requires.end, c.nodes-nodes.ensures.value), (costs_len, (tags_len, (few_nodes, (few_edges, small)))))))

pub returns-in-None-clause-small : goal.returns-in-None-clause-small
returns-in-None-clause-small t c =
    let none : length c.args.wanted.now ≡ 0 = c.in-None.ensures.cases in
    let nodes : ℕ = c.args.graph.now.nodes in
    let all : nodes ≡ 2 ^ length c.args.wanted.now * nodes = sym (ap (λ (k : ℕ). 2 ^ k * nodes) none ∙ omega arith) in
    subst (λ (n : ℕ). IfOk c.distance.result (λ cost. (most : ℕ) → All (λ (o : Option ℕ). IfSome o (λ (m : ℕ). m ≤ most)) c.args.costs.now → IfSome cost (λ (m : ℕ). m ≤ n * most))) all c.distance.ensures.small

pub returns-in_ok-both_tags-in-Some-clause-exact :
    goal.returns-in_ok-both_tags-in-Some-clause-exact
returns-in_ok-both_tags-in-Some-clause-exact t c =
    let graph = c.args.graph.now in
    let costs = c.args.costs.now in
    let tags = c.args.tags.now in
    let rest = c.in-Some.rest.now in
    let both = c.in_ok-both-in-Some.both in
    let both_costs : c.deref.result.now ≡ costs ++ costs = c.deref.ensures.value ∙ c.in_ok-both_costs-in-Some.ensures in
    let both_tags : c.deref-in-Some.result.now ≡ tags ++ tags = c.deref-in-Some.ensures.value ∙ c.in_ok-both_tags-in-Some.ensures in
    rw c.in-Some.ensures.cases.0
    (IfOk-weaker c.tagged_distance.result
    (IsTaggedDistance both.edges c.deref.result.now c.deref-in-Some.result.now rest c.args.start (c.nodes-nodes.result + c.args.end))
    (IsTaggedDistance graph.edges costs tags (c.in-Some.tag.now ∷ rest) c.args.start c.args.end)
    (λ o over.
    layered-exact graph.nodes c.in-Some.tag.now graph.edges both.edges costs tags c.in_ok-both-in-Some.ensures.edges c.nodes-nodes.ensures.ends c.requires.costs_len c.requires.tags_len rest c.args.start c.args.end c.requires.start o
    (rw (← both_costs, ← both_tags, ← c.nodes-nodes.ensures.value) over))
    c.tagged_distance.ensures.exact)

pub returns-in_ok-both_tags-in-Some-clause-small :
    goal.returns-in_ok-both_tags-in-Some-clause-small
returns-in_ok-both_tags-in-Some-clause-small t c =
    let wanted = c.args.wanted.now in
    let rest = c.in-Some.rest.now in
    let nodes : ℕ = c.args.graph.now.nodes in
    let costs = c.args.costs.now in
    let both = c.in_ok-both-in-Some.both in
    let both_nodes : both.nodes ≡ nodes + nodes = c.in_ok-both-in-Some.ensures.nodes in
    let all_nodes : 2 ^ length rest * both.nodes ≡ 2 ^ length wanted * nodes =
    ap (λ (n : ℕ). 2 ^ length rest * n) both_nodes ∙ sym (layers-double rest wanted nodes c.in-Some.ensures.cases.1) in
    let both_costs : c.deref.result.now ≡ costs ++ costs = c.deref.ensures.value ∙ c.in_ok-both_costs-in-Some.ensures in
    IfOk-weaker c.tagged_distance.result
    (λ cost. (most : ℕ) → All (λ (o : Option ℕ). IfSome o (λ (n : ℕ). n ≤ most)) c.deref.result.now → IfSome cost (λ (n : ℕ). n ≤ 2 ^ length rest * both.nodes * most))
    (λ cost. (most : ℕ) → All (λ (o : Option ℕ). IfSome o (λ (n : ℕ). n ≤ most)) costs → IfSome cost (λ (n : ℕ). n ≤ 2 ^ length wanted * nodes * most))
    (λ cost over most all.
    subst (λ (all_of : ℕ). IfSome cost (λ (n : ℕ). n ≤ all_of * most)) all_nodes
    (over most (All-twice (λ (o : Option ℕ). IfSome o (λ (n : ℕ). n ≤ most)) costs c.deref.result.now both_costs all)))
    c.tagged_distance.ensures.small
