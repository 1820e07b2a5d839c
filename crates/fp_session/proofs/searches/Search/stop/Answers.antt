use Rattle.std.proofs.Common.{refl}
use Rattle.fp_tree.specs.Nodes.{Node}
use Rattle.fp_tree.specs.Trees.{Leaf}
use Rattle.fp_session.specs.declared.payloads.Payload.{Payload}
use Rattle.fp_session.specs.Nodes.{IsKept}
use Rattle.fp_session.specs.Searches.{history}
use Rattle.fp_session.proofs.Applied.{stop-applied}
use Rattle.fp_session.proofs.OpenCounts.{branches-kept, leaves-kept}
use Rattle.fp_session.proofs.searches.Search.stop.Goals as goal

pub returns-clause-search : goal.returns-clause-search
returns-clause-search c =
    stop-applied c.args.self.now c.args.prices.now c.requires.search c.requires.going c.args.leaf c.args.kept c.args.left c.put.new.self c.requires.kept c.requires.unsettled c.requires.left c.requires.none
    c.put.ensures.changed c.put.ensures.splits

pub returns-clause-ended : goal.returns-clause-ended
returns-clause-ended c = record {
  left = refl;
  leaves = leaves-kept c.args.self.now.tree c.put.new.self c.args.leaf c.args.kept.payload c.args.kept.value
      (λ (l : Leaf (Node Payload)). IsKept (history c.args.self.now c.args.prices.now) l.sides c.args.kept.payload c.args.kept.value) c.requires.kept c.put.ensures.changed;
  splits = c.put.ensures.splits;
  branches = branches-kept c.args.self.now.tree c.put.new.self c.args.leaf c.args.kept.payload c.args.kept.value
      (λ (l : Leaf (Node Payload)). IsKept (history c.args.self.now c.args.prices.now) l.sides c.args.kept.payload c.args.kept.value) c.requires.kept c.put.ensures.changed;
  cost = refl;
  trace = refl;
}
