use Rattle.fp_tree.specs.Nodes.{Node}
use Rattle.fp_tree.specs.Trees.{Leaf}
use Rattle.fp_session.specs.declared.payloads.Payload.{Payload}
use Rattle.fp_session.specs.Nodes.{IsKept}
use Rattle.fp_session.specs.Searches.{history}
use Rattle.fp_session.proofs.Applied.{put-applied}
use Rattle.fp_session.proofs.OpenCounts.{branches-kept, leaves-kept}
use Rattle.fp_session.proofs.searches.Search.keep.Goals as goal

pub returns-clause-search : goal.returns-clause-search
returns-clause-search c =
    put-applied c.args.self.now c.args.prices.now c.requires.search c.requires.going c.args.leaf c.args.kept.payload c.args.kept.value c.put.new.self c.requires.kept c.put.ensures.changed c.put.ensures.splits

pub returns-clause-open_leaves : goal.returns-clause-open_leaves
returns-clause-open_leaves c =
    leaves-kept c.args.self.now.tree c.put.new.self c.args.leaf c.args.kept.payload c.args.kept.value
    (λ (l : Leaf (Node Payload)). IsKept (history c.args.self.now c.args.prices.now) l.sides c.args.kept.payload c.args.kept.value) c.requires.kept c.put.ensures.changed

pub returns-clause-branches : goal.returns-clause-branches
returns-clause-branches c =
    branches-kept c.args.self.now.tree c.put.new.self c.args.leaf c.args.kept.payload c.args.kept.value
    (λ (l : Leaf (Node Payload)). IsKept (history c.args.self.now c.args.prices.now) l.sides c.args.kept.payload c.args.kept.value) c.requires.kept c.put.ensures.changed
