-- One more node has its edge to the next one.
use Rattle.std.proofs.Common.{◌≡◌, ℕ, ◌+◌, ◌-◌, ◌≤◌, List, [], ◌∷◌, ◌++◌, map, append_assoc, sym, ap, ◌∙◌, arith}
use Rattle.std.specs.List.{range_with_len}
use Rattle.std.proofs.lemmas.List.FromFn.{map-range_with_len_more}
use Rattle.fp_labels.specs.declared.graphs.Edge.{Edge}
use Rattle.fp_prices.specs.Points.{next_edge}
use Rattle.fp_prices.proofs.graphs.point_graphs.hold_between.Goals as goal

-- the edges of one more node after those of the nodes before it
one-more : (old : List Edge) (first node : ℕ) → first ≤ node →
    (old ++ map next_edge (range_with_len first (node - first))) ++ (next_edge node ∷ []) ≡ old ++ map next_edge (range_with_len first (node + 1 - first))
one-more old first node h =
    let more : node + 1 - first ≡ node - first + 1 = omega arith in
    append_assoc old (map next_edge (range_with_len first (node - first))) (next_edge node ∷ []) ∙
    ap (λ (l : List Edge). old ++ l) (sym (map-range_with_len_more next_edge first (node - first) node (omega arith))) ∙
    ap (λ (n : ℕ). old ++ map next_edge (range_with_len first n)) (sym more)

pub loop-node-preserved : goal.loop-node-preserved
loop-node-preserved c =
    let node : ℕ = c.loop-node.node in
    c.in_ok-push.ensures.items ∙
    ap (λ (l : List Edge). l ++ (next_edge node ∷ [])) c.loop-node.invariant ∙
    one-more c.args.edges.now.items c.args.first node c.loop-node.auto.node

pub returns : goal.returns
returns c =
    let end : c.loop-node.node ≡ c.args.last = omega arith in
    c.loop-node.invariant ∙ ap (λ (n : ℕ). c.args.edges.now.items ++ map next_edge (range_with_len c.args.first (n - c.args.first))) end
