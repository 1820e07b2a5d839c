-- One more terminal has its holding edges.
use Rattle.std.proofs.Common.{◌≡◌, ℕ, suc, ◌+◌, ◌-◌, ◌<◌, List, ◌++◌, length, get_or, map, append_assoc, ap, ◌∙◌, arith}
use Rattle.std.specs.List.{range_with_len}
use Rattle.fp_labels.specs.declared.graphs.Edge.{Edge}
use Rattle.fp_longestarcs.specs.Networks.{TimedNetwork, points_in}
use Rattle.fp_prices.specs.Points.{first_node, holding_at, holding_below, next_edge, last_node}
use Rattle.fp_prices.proofs.graphs.point_graphs.hold_at_all.Goals as goal

-- the holding edges of a terminal after all that come before them
one-more : (classes : List Edge) (net : TimedNetwork) (t first last : ℕ) → first ≡ first_node net t → last ≡ last_node net t →
    (classes ++ holding_below net t) ++ map next_edge (range_with_len first (last - first)) ≡ classes ++ holding_below net (t + 1)
one-more classes net t first last is end =
    let count : last - first ≡ length (points_in net t) - 1 = omega arith in
    ap (λ (n : ℕ). (classes ++ holding_below net t) ++ map next_edge (range_with_len first n)) count ∙
    ap (λ (n : ℕ). (classes ++ holding_below net t) ++ map next_edge (range_with_len n (length (points_in net t) - 1))) is ∙
    append_assoc classes (holding_below net t) (holding_at net t) ∙
    ap (λ (n : ℕ). classes ++ holding_below net n) (let e : suc t ≡ t + 1 = omega arith in e)

pub loop-terminal-preserved : goal.loop-terminal-preserved
loop-terminal-preserved c =
    let net : TimedNetwork = c.args.network.now in
    let t : ℕ = c.loop-terminal.terminal in
    let first : ℕ = get_or c.args.firsts.now t 0 in
    let last : ℕ = c.last_node_of-last.result in
    let exists : t < length net.points = omega (arith, c.loop-terminal-test.true, ap (λ (l : List (List ℕ)). length l) c.terminals.ensures.same, c.requires.whole.arcs.terminals) in
    c.in_ok-hold_between.ensures ∙
    ap (λ (l : List Edge). l ++ map next_edge (range_with_len first (last - first))) c.loop-terminal.invariant ∙
    one-more c.args.edges.now.items net t first last (c.requires.firsts.each t exists) c.last_node_of-last.ensures

pub returns-clause-edges : goal.returns-clause-edges
returns-clause-edges c =
    let net : TimedNetwork = c.args.network.now in
    let end : c.loop-terminal.terminal ≡ length net.points =
    omega (arith, c.loop-terminal-test.false, ap (λ (l : List (List ℕ)). length l) c.terminals.ensures.same, c.requires.whole.arcs.terminals) in
    c.loop-terminal.invariant ∙ ap (λ (n : ℕ). c.args.edges.now.items ++ holding_below net n) end
