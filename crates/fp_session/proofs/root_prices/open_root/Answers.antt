-- The root is an open leaf that isn't known to be empty.
use Rattle.std.proofs.Common.{◌≡◌, false, ap, ◌∙◌}
use Rattle.std.specs.Prelude.{IsSomeAnd, Option, Some, None}
use Rattle.fp_tree.specs.Nodes.{Node, leaf_at}
use Rattle.fp_tree.specs.Trees.{Leaf}
use Rattle.fp_session.specs.declared.payloads.Payload.{Payload}
use Rattle.fp_session.proofs.BestOpen.{best-open}
use Rattle.fp_session.proofs.OpenMoves.{AtOpenLeaf-both}
use Rattle.fp_session.proofs.root_prices.open_root.Goals as goal

-- a leaf whose payload isn't marked as empty isn't
not-empty : (o : Option (Leaf (Node Payload))) (p : Payload) → p.empty ≡ false → IsSomeAnd o (λ (l : Leaf (Node Payload)). l.node.payload ≡ p) → IsSomeAnd o (λ (l : Leaf (Node Payload)). l.node.payload.empty ≡ false)
not-empty None p some is = absurd is
not-empty (Some l) p some is = ap (λ (q : Payload). q.empty) is ∙ some

pub returns-in-None : goal.returns-in-None
returns-in-None c = record {
  exists = c.in-Some.ensures.best.there;
  some = AtOpenLeaf-both c.args.search.now.tree c.in-Some.number (λ (l : Leaf (Node Payload)). l.node.payload.empty ≡ false) (best-open c.args.search.now.tree c.in-Some.number c.in-Some.ensures.best)
      (not-empty (leaf_at c.args.search.now.tree c.in-Some.number) c.payload-payload.result.now c.if-payload.false c.payload-payload.ensures);
}
