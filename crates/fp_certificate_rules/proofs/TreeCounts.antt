-- How many leaves the tree of a certificate has, and how many bytes its lines have.
use Rattle.std.proofs.Common.{◌≡◌, ℕ, zero, suc, ◌+◌, ◌*◌, List, [], ◌∷◌, ◌++◌, length, arith}
use Rattle.std.specs.Prelude.{sum_by}
use Rattle.std.proofs.lemmas.List.Sums.{sum_by-cons}
use Rattle.fp_model.specs.Problem.{Problem}
use Rattle.fp_tree.specs.declared.sides.Side.{Side}
use Rattle.fp_tree.specs.Sides.{Fork, first, second}
use Rattle.fp_tree.specs.Trees.{AreTrees, leaves_of, tree_splits}
use Rattle.fp_certificate_lines.specs.declared.certificates.Node.{Node}
use Rattle.fp_certificate_lines.specs.declared.certificates.Node.TheVariants.{Branch, Leaf, Narrow}
use Rattle.fp_certificate_lines.specs.Lengths.{node_bytes}
use Rattle.fp_certificate_rules.specs.Leaves.{AreNarrowedTrees, fork_of, narrowings_among, split_tail}

-- trees have as many leaves as splits, and one more each
pub leaves-splits : (p : Problem) (nodes : List Node) (pending : List (List Side)) → AreTrees (fork_of p) (length pending) nodes →
    length (leaves_of (fork_of p) pending nodes) ≡ length (tree_splits (fork_of p) nodes) + length pending
leaves-splits p [] pending trees = omega (arith, trees)
leaves-splits p (x ∷ nodes) [] trees = absurd trees
leaves-splits p (Branch split ∷ nodes) (sides ∷ pending) trees =
    let fork : Fork = record { split = split; tail = split_tail p split } in
    omega (arith, leaves-splits p nodes ((sides ++ (first fork ∷ [])) ∷ (sides ++ (second fork ∷ [])) ∷ pending) trees)
leaves-splits p (Leaf valuation ∷ nodes) (sides ∷ pending) trees = omega (arith, leaves-splits p nodes pending trees)
leaves-splits p (Narrow narrowing ∷ nodes) (sides ∷ pending) trees = omega (arith, leaves-splits p nodes pending trees)

-- the bytes of their lines, narrowings and all
pub tree-bytes : (p : Problem) (nodes : List Node) (pending : ℕ) → AreNarrowedTrees pending nodes →
    sum_by node_bytes nodes ≡ 144 * length (tree_splits (fork_of p) nodes) + 35 * pending + 70 * length (narrowings_among nodes)
tree-bytes p [] pending trees = omega (arith, trees)
tree-bytes p (x ∷ nodes) zero trees = absurd trees
tree-bytes p (Branch split ∷ nodes) (suc pending) trees = omega (arith, sum_by-cons node_bytes (Branch split) nodes, tree-bytes p nodes (suc (suc pending)) trees)
tree-bytes p (Leaf valuation ∷ nodes) (suc pending) trees = omega (arith, sum_by-cons node_bytes (Leaf valuation) nodes, tree-bytes p nodes pending trees)
tree-bytes p (Narrow narrowing ∷ nodes) (suc pending) trees = omega (arith, sum_by-cons node_bytes (Narrow narrowing) nodes, tree-bytes p nodes (suc pending) trees)
