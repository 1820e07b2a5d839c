use Rattle.std.proofs.Common.{◌+◌, ◌<◌, rules, arith}
use Rattle.std.proofs.lemmas.List.{get_or_read}
use Rattle.fp_labels.proofs.TailRows.{row_is_ordered, row_is_inside, row_is_row}
use Rattle.fp_labels.proofs.graphs.Graph.row.Goals as goal

pub part-requires : goal.part-requires
part-requires c =
    let g = c.self.inside in
    let inside : c.args.node < g.nodes = search rules in
    let first = get_or_read g.rows.items c.args.node c.index.result.now (omega (arith, c.self.invariant.fills.rows_len)) c.index.ensures 0 in
    let end = get_or_read g.rows.items (c.args.node + 1) c.index-2.result.now (omega (arith, c.self.invariant.fills.rows_len)) c.index-2.ensures 0 in
    record {
      ordered = omega (arith, row_is_ordered g.nodes g.edges.items g.rows.items g.by_tail.items c.self.invariant c.args.node inside);
      inside = rw c.deref.ensures.value (omega (arith, row_is_inside g.nodes g.edges.items g.rows.items g.by_tail.items c.self.invariant c.args.node inside));
    }

pub returns : goal.returns
returns c =
    let g = c.self.inside in
    let inside : c.args.node < g.nodes = search rules in
    let first = get_or_read g.rows.items c.args.node c.index.result.now (omega (arith, c.self.invariant.fills.rows_len)) c.index.ensures 0 in
    let end = get_or_read g.rows.items (c.args.node + 1) c.index-2.result.now (omega (arith, c.self.invariant.fills.rows_len)) c.index-2.ensures 0 in
    rw (c.part.ensures, c.deref.ensures.value, ← c.self.view_is)
    (row_is_row g.nodes g.edges.items g.rows.items g.by_tail.items c.self.invariant c.args.node inside c.index.result.now c.index-2.result.now first end)
