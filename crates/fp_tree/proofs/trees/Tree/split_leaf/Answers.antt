use Rattle.std.proofs.Common.{◌≡◌, ◌+◌, ◌<◌, false, List, length, count_by, refl, ap, ◌∙◌, subst, arith}
use Rattle.fp_tree.specs.declared.layout.Kind.{Kind}
use Rattle.fp_tree.specs.declared.layout.LeafState.{LeafState}
use Rattle.fp_tree.specs.declared.layout.TheConstants.{MOST_SPLITS}
use Rattle.fp_tree.specs.Sides.{Fork}
use Rattle.fp_tree.specs.Trees.{with_leaf}
use Rattle.fp_tree.specs.Nodes.{divide_leaf, fork_of, open_leaf}
use Rattle.fp_tree.specs.Layout.{is_leaf_kind, IsPlaceOfLeaf, leaf_node}
use Rattle.fp_tree.proofs.TreeNodes.{leaf_count-kinds, leaf_count-seen, one_more-seen, split_count-seen}
use Rattle.fp_tree.proofs.LeafDivision.{IsSeen, IsSeen-same, IsSeen-divided, splits_before-le}
use Rattle.fp_tree.proofs.trees.Tree.split_leaf.Given.{Over}
use Rattle.fp_tree.proofs.trees.Tree.split_leaf.Goals as goal

pub place_of_leaf-place-requires : goal.place_of_leaf-place-requires
place_of_leaf-place-requires g c =
    let kinds : c.as_slice.result.now ≡ c.self.inside.kinds.items = c.as_slice.ensures.value ∙ c.reserve.ensures.items in
    omega (arith, ap (λ (ks : List Kind). count_by is_leaf_kind ks) kinds, leaf_count-kinds _ _ _ _ c.self.view_is c.self.invariant)

pub divide_state-payload-requires-clause-leaf : goal.divide_state-payload-requires-clause-leaf
divide_state-payload-requires-clause-leaf g c = omega (arith, leaf_count-seen _ _ _ _ c.self.view_is c.self.invariant)

pub insert_reserved-requires-clause-place : goal.insert_reserved-requires-clause-place
insert_reserved-requires-clause-place g c =
    let place_is : IsPlaceOfLeaf c.self.inside.kinds.items c.args.leaf c.place_of_leaf-place.result =
    subst (λ (ks : List Kind). IsPlaceOfLeaf ks c.args.leaf c.place_of_leaf-place.result) (c.as_slice.ensures.value ∙ c.reserve.ensures.items) c.place_of_leaf-place.ensures in
    omega (arith, splits_before-le _ _ c.self.inside.payloads.items _ _ c.self.invariant.matched place_is)

-- the new lists are seen as the nodes with the leaf divided
after : (g : Over) (c : goal.After-insert_reserved g) →
    IsSeen c.divide_kind.new.kinds.items c.divide_state-payload.new.states.items c.insert_reserved.new.items.items
    (with_leaf fork_of (divide_leaf (record { split = c.args.split; tail = c.args.tail }) (open_leaf c.args.first.0 c.args.first.1) (open_leaf c.args.second.0 c.args.second.1)) c.args.leaf c.args.self.now)
after g c =
    let fork : Fork = record { split = c.args.split; tail = c.args.tail } in
    let first : LeafState g.row.T.Denot = record { payload = c.args.first.0; value = c.args.first.1; closed = false } in
    let P : LeafState g.row.T.Denot → LeafState g.row.T.Denot → Type 0 = λ one two.
    IsSeen c.divide_kind.new.kinds.items c.divide_state-payload.new.states.items c.insert_reserved.new.items.items
    (with_leaf fork_of (divide_leaf fork (leaf_node one) (leaf_node two)) c.args.leaf c.args.self.now) in
    let reserved : IsSeen c.reserve.new.self.items c.reserve-2.new.self.items c.reserve-3.new.self.items c.args.self.now =
    IsSeen-same c.self.inside.kinds.items _ c.self.inside.states.items _ c.self.inside.payloads.items _ c.args.self.now c.reserve.ensures.items c.reserve-2.ensures.items c.reserve-3.ensures.items
    (record { sound = c.self.invariant; seen = c.self.view_is }) in
    let place_is : IsPlaceOfLeaf c.reserve.new.self.items c.args.leaf c.place_of_leaf-place.result =
    subst (λ (ks : List Kind). IsPlaceOfLeaf ks c.args.leaf c.place_of_leaf-place.result) c.as_slice.ensures.value c.place_of_leaf-place.ensures in
    let few : length c.reserve-3.new.self.items < MOST_SPLITS = omega (arith, ap length c.reserve-3.ensures.items, split_count-seen _ _ _ _ c.self.view_is c.self.invariant) in
    let divided : P c.open-first.result c.open-second.result =
    IsSeen-same _ _ _ _ _ _ _ c.divide_kind.ensures c.divide_state-payload.ensures.states c.insert_reserved.ensures.items
    (IsSeen-divided c.reserve.new.self.items c.reserve-2.new.self.items c.reserve-3.new.self.items c.args.self.now c.args.leaf c.place_of_leaf-place.result c.open-first.result c.open-second.result
    c.open-first.result c.args.split c.args.tail c.divide_state-payload.result reserved few place_is c.divide_state-payload.ensures.payload) in
    subst (λ (two : LeafState g.row.T.Denot). P first two) c.open-second.ensures (subst (λ (one : LeafState g.row.T.Denot). P one c.open-second.result) c.open-first.ensures divided)

pub invariant_of-self-2 : goal.invariant_of-self-2
invariant_of-self-2 g c = (after g c).sound

pub returns-clause-ok : goal.returns-clause-ok
returns-clause-ok g c = (after g c).seen

-- there is one payload more
one_split : (g : Over) (c : goal.After-insert_reserved g) → length c.insert_reserved.new.items.items ≡ length c.self.inside.payloads.items + 1
one_split g c = omega (arith, ap length c.reserve-3.ensures.items, c.insert_reserved.ensures.len)

pub returns-clause-leaves : goal.returns-clause-leaves
returns-clause-leaves g c =
    let new = (after g c).sound in
    omega (arith, one_split g c, leaf_count-seen _ _ _ _ refl new, one_more-seen _ _ _ _ refl new, leaf_count-seen _ _ _ _ c.self.view_is c.self.invariant, one_more-seen _ _ _ _ c.self.view_is c.self.invariant)

pub returns-clause-splits : goal.returns-clause-splits
returns-clause-splits g c = omega (arith, one_split g c, split_count-seen _ _ _ _ refl (after g c).sound, split_count-seen _ _ _ _ c.self.view_is c.self.invariant)
