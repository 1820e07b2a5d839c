-- How many lines of each kind an accepted certificate has at most.
use Rattle.std.specs.Prelude.{◌+◌, ◌-◌, ◌*◌, ◌≤◌, ◌≡◌, length}
use Rattle.fp_model.specs.declared.limits.TheConstants.{LAST_ROUND, MOST_SHIPMENTS, MOST_TERMINALS}
use Rattle.fp_model.specs.Problem.{IsValid, Problem}
use Rattle.fp_flatnet.specs.Tables.{WindowTable}
use Rattle.fp_tree.specs.declared.layout.TheConstants.{MOST_SPLITS}
use Rattle.fp_tree.specs.Trees.{tree_leaves, tree_splits}
use Rattle.fp_certificate_lines.specs.Ranges.{IsInRange}
use Rattle.fp_certificate_lines.specs.Statements.{Statement}
use Rattle.fp_certificate_rules.specs.Accepted.{Applies, IsAccepted, Part}
use Rattle.fp_certificate_rules.specs.Leaves.{bare_nodes, fork_of, narrowings_among}
use Rattle.fp_certificate_rules.specs.declared.limits.TheConstants.{MOST_IN_ROUND, MOST_NARROWINGS}

-- each shipment has fewer legs than there are terminals, each departure has a leg, each round adds at
-- most 8 points, there are at most so many splits, one leaf more than splits, and at most so many narrowings
pub record HasFewLines (p : Problem) (c : Statement) : Type 0 where
  pub legs : length c.legs ≤ MOST_SHIPMENTS * (MOST_TERMINALS - 1)
  pub trucks : length c.trucks ≤ length c.legs
  pub points : length c.points ≤ MOST_IN_ROUND * LAST_ROUND
  pub splits : length (tree_splits (fork_of p) c.tree) ≤ MOST_SPLITS
  pub leaves : length (tree_leaves (fork_of p) (bare_nodes c.tree)) ≡ length (tree_splits (fork_of p) c.tree) + 1
  pub narrowings : length (narrowings_among c.tree) ≤ MOST_NARROWINGS

-- a certificate in range that is accepted has few lines, where its answer is one that rests on a tree
abbrev pub AcceptedAreFew : Type 0
AcceptedAreFew = (p : Problem) (table : WindowTable) (c : Statement) → IsValid p → IsInRange p c → IsAccepted p table c → Applies c.answer Part.Tree → HasFewLines p c
