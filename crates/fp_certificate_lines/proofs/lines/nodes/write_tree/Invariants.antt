use Rattle.std.proofs.Common.{◌≡◌, ◌++◌, drop, false, map}
use Rattle.fp_records.specs.Text.{lines_of}
use Rattle.fp_certificate_lines.specs.Rows.{node_fields}
use Rattle.fp_certificate_lines.proofs.lines.nodes.write_tree.Given as goal

-- the lines so far and those that are left are all of them
abbrev pub invariant-loop-node : goal.invariant-loop-node
invariant-loop-node l = record {
  begun : l.line.begun ≡ false;
  text : l.line.text ++ lines_of (map (node_fields l.instance) (drop l.node-index l.tree)) ≡ l.initial.line.text ++ lines_of (map (node_fields l.instance) l.tree);
}
