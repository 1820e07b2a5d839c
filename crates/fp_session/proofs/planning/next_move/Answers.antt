-- A leaf that is settled is closed.
use Rattle.std.proofs.Common.{inl}
use Rattle.fp_tree.specs.Nodes.{Node}
use Rattle.fp_tree.specs.Trees.{Leaf}
use Rattle.fp_session.specs.declared.payloads.Payload.{Payload}
use Rattle.fp_session.specs.Nodes.{IsKeptAs, IsSettled}
use Rattle.fp_session.specs.Searches.{history}
use Rattle.fp_session.proofs.OpenMoves.{AtOpenLeaf-both, settled-stays}
use Rattle.fp_session.proofs.planning.next_move.Goals as goal

pub open_move-requires-clause-old : goal.open_move-requires-clause-old
open_move-requires-clause-old g c =
    AtOpenLeaf-both c.args.search.now.tree c.args.number (λ (l : Leaf (Node Payload)). IsKeptAs l c.kept_at-old.result) c.requires.still_open c.kept_at-old.ensures

pub known_move-requires-clause-old : goal.known_move-requires-clause-old
known_move-requires-clause-old g c =
    AtOpenLeaf-both c.args.search.now.tree c.args.number (λ (l : Leaf (Node Payload)). IsKeptAs l c.kept_at-old.result) c.requires.still_open c.kept_at-old.ensures

pub returns-then-old-clause-planned : goal.returns-then-old-clause-planned
returns-then-old-clause-planned g c =
    let settled : IsSettled (history c.args.search.now c.args.prices.now) c.args.search.now.cost c.kept_at-old.result.payload c.kept_at-old.result.value = inl c.if-old.true in
    settled-stays c.args.search.now c.args.prices.now c.args.number c.kept_at-old.result c.requires.search
    (AtOpenLeaf-both c.args.search.now.tree c.args.number (λ (l : Leaf (Node Payload)). IsKeptAs l c.kept_at-old.result) c.requires.still_open c.kept_at-old.ensures)
    settled
