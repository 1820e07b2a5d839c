use Rattle.std.proofs.Common.{refl, arith}
use Rattle.fp_tree.specs.Nodes.{put_leaf}
use Rattle.fp_tree.proofs.TreeNodes.{leaf_count-seen, leaf_count-set, split_count-set}
use Rattle.fp_tree.proofs.StateChanges.{IsSound-set, seen-set}
use Rattle.fp_tree.proofs.trees.Tree.put.Goals as goal

pub index_mut-state-requires : goal.index_mut-state-requires
index_mut-state-requires g c = omega (arith, leaf_count-seen _ _ _ _ c.self.view_is c.self.invariant)

pub invariant_of-self : goal.invariant_of-self
invariant_of-self g c = IsSound-set _ _ _ _ _ c.self.invariant

pub returns-clause-changed : goal.returns-clause-changed
returns-clause-changed g c =
    seen-set c.self.inside.kinds.items c.self.inside.states.items c.self.inside.payloads.items c.args.self.now c.args.leaf c.index_mut-state.result.now (record { payload = c.args.payload; value = c.args.value; closed = c.index_mut-state.result.now.closed }) (put_leaf c.args.payload c.args.value) c.self.view_is c.self.invariant
    (omega (arith, leaf_count-seen _ _ _ _ c.self.view_is c.self.invariant)) c.index_mut-state.ensures.value refl

pub returns-clause-leaves : goal.returns-clause-leaves
returns-clause-leaves g c = leaf_count-set _ _ _ _ c.self.view_is c.self.invariant c.args.leaf (record { payload = c.args.payload; value = c.args.value; closed = c.index_mut-state.result.now.closed })

pub returns-clause-splits : goal.returns-clause-splits
returns-clause-splits g c = split_count-set _ _ _ _ c.self.view_is c.self.invariant c.args.leaf (record { payload = c.args.payload; value = c.args.value; closed = c.index_mut-state.result.now.closed })
