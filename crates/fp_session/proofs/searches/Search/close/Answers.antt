use Rattle.std.proofs.Common.{refl, ap, ◌∙◌}
use Rattle.fp_tree.specs.Nodes.{Node}
use Rattle.fp_tree.specs.Trees.{Leaf}
use Rattle.fp_session.specs.declared.payloads.Payload.{Payload}
use Rattle.fp_session.specs.Nodes.{IsKept}
use Rattle.fp_session.specs.Order.{with_closed}
use Rattle.fp_session.specs.Searches.{history}
use Rattle.fp_session.proofs.Applied.{close-applied}
use Rattle.fp_session.proofs.OpenCounts.{branches-closed, leaves-closed}
use Rattle.fp_session.proofs.searches.Search.close.Goals as goal

pub returns-clause-search : goal.returns-clause-search
returns-clause-search c =
    close-applied c.args.self.now c.args.prices.now c.requires.search c.requires.going c.args.leaf c.args.kept.payload c.args.kept.value c.put.new.self c.close.new.self c.requires.kept c.requires.settled
    c.put.ensures.changed c.put.ensures.splits c.close.ensures.changed c.close.ensures.splits

pub returns-clause-closed : goal.returns-clause-closed
returns-clause-closed c = record {
  going = c.requires.going;
  leaves = leaves-closed c.args.self.now.tree c.put.new.self c.args.leaf c.args.kept.payload c.args.kept.value
      (λ (l : Leaf (Node Payload)). IsKept (history c.args.self.now c.args.prices.now) l.sides c.args.kept.payload c.args.kept.value) c.requires.kept c.put.ensures.changed c.close.new.self c.close.ensures.changed;
  splits = c.close.ensures.splits ∙ c.put.ensures.splits;
  branches = branches-closed c.args.self.now.tree c.put.new.self c.args.leaf c.args.kept.payload c.args.kept.value
      (λ (l : Leaf (Node Payload)). IsKept (history c.args.self.now c.args.prices.now) l.sides c.args.kept.payload c.args.kept.value) c.requires.kept c.put.ensures.changed c.close.new.self c.close.ensures.changed;
  cost = refl;
  trace = refl;
}

pub returns-clause-tree : goal.returns-clause-tree
returns-clause-tree c = c.close.ensures.changed ∙ ap (with_closed c.args.leaf) c.put.ensures.changed
