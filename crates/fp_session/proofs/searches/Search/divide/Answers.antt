-- A leaf that is divided, or has again what it had.
use Rattle.std.proofs.Common.{◌≡◌, ℕ, ◌+◌, List, refl, sym, ap, ap₂, ◌∙◌}
use Rattle.std.specs.Prelude.{IsSomeAnd}
use Rattle.fp_tree.specs.Nodes.{Node, fork_of, leaf_at, put_leaf, value_of}
use Rattle.fp_tree.specs.Trees.{Leaf, splits_before, with_leaf}
use Rattle.fp_tree.proofs.TwoChanges.{with_leaf-put_back}
use Rattle.fp_session.specs.declared.moves.Division.{Division}
use Rattle.fp_session.specs.declared.payloads.Payload.{Payload}
use Rattle.fp_session.specs.declared.searches.Search.{Search}
use Rattle.fp_session.specs.Moves.{fork_in}
use Rattle.fp_session.specs.Nodes.{IsKept}
use Rattle.fp_session.specs.Order.{with_divided}
use Rattle.fp_session.specs.Searches.{IsSearch, history}
use Rattle.fp_session.proofs.Applied.{divide-applied, of-value, some-value}
use Rattle.fp_session.proofs.OpenCounts.{branches-divided, leaves-divided}
use Rattle.fp_session.proofs.SearchChanges.{IsSearch-reserve}
use Rattle.fp_session.proofs.searches.Search.divide.Goals as goal

-- what was put in a leaf's place and put back
back : (nodes put again : List (Node Payload)) (k : ℕ) (other before : Payload) (worth value : ℕ) → IsSomeAnd (leaf_at nodes k) (λ (l : Leaf (Node Payload)). l.node.payload ≡ before) →
    IsSomeAnd (leaf_at nodes k) (λ (l : Leaf (Node Payload)). value_of l.node ≡ value) → put ≡ with_leaf fork_of (put_leaf other worth) k nodes → again ≡ with_leaf fork_of (put_leaf before value) k put → again ≡ nodes
back nodes put again k other before worth value payload_is value_is changed restored =
    let leaf = some-value (leaf_at nodes k) (λ (l : Leaf (Node Payload)). l.node.payload ≡ before) payload_is in
    let l : Leaf (Node Payload) = leaf.0 in
    let own : value_of l.node ≡ value = of-value (leaf_at nodes k) l (λ (m : Leaf (Node Payload)). value_of m.node ≡ value) leaf.1 value_is in
    restored
    ∙ ap (λ (ns : List (Node Payload)). with_leaf fork_of (put_leaf before value) k ns) changed
    ∙ ap₂ (λ (p : Payload) (v : ℕ). with_leaf fork_of (put_leaf p v) k (with_leaf fork_of (put_leaf other worth) k nodes)) (sym leaf.2) (sym own)
    ∙ with_leaf-put_back nodes k l other worth leaf.1

pub returns-in-Ok-clause-search : goal.returns-in-Ok-clause-search
returns-in-Ok-clause-search c =
    let s : Search = c.args.self.now in
    let divided : Search = record s { tree = c.split_leaf.new.self } in
    let is : IsSearch divided c.args.prices.now =
    divide-applied s c.args.prices.now c.requires.search c.requires.going c.args.leaf c.args.kept c.args.division c.put.new.self c.split_leaf.new.self c.requires.kept c.requires.unsettled c.requires.division c.requires.left
    c.put.ensures.changed c.put.ensures.splits c.in-Ok.ensures.ok c.in-Ok.ensures.splits in
    IsSearch-reserve divided c.args.prices.now s.reserve c.next_look-self.result is is.reserve is.ended

pub returns-in-Ok-clause-branched : goal.returns-in-Ok-clause-branched
returns-in-Ok-clause-branched c =
    let s : Search = c.args.self.now in
    let d : Division = c.args.division in
    let divided : List (Node Payload) = c.split_leaf.new.self in
    let noted : Payload = record c.args.kept.payload { incumbent = s.cost } in
    let split =
    branches-divided s.tree c.put.new.self c.args.leaf noted c.args.kept.value (λ (l : Leaf (Node Payload)). IsKept (history s c.args.prices.now) l.sides c.args.kept.payload c.args.kept.value) c.requires.kept
    c.put.ensures.changed (fork_in d) d.first.payload d.second.payload d.first.value d.second.value divided c.in-Ok.ensures.ok in record {
      going = c.requires.going;
      leaves = leaves-divided s.tree c.put.new.self c.args.leaf (record c.args.kept.payload { incumbent = s.cost }) c.args.kept.value
          (λ (l : Leaf (Node Payload)). IsKept (history s c.args.prices.now) l.sides c.args.kept.payload c.args.kept.value) c.requires.kept c.put.ensures.changed (fork_in d) d.first.payload d.second.payload
          d.first.value d.second.value divided c.in-Ok.ensures.ok;
      splits = c.in-Ok.ensures.splits ∙ ap (λ (n : ℕ). n + 1) c.put.ensures.splits;
      cost = refl;
      trace = refl;
      place = splits_before fork_of c.args.leaf c.put.new.self;
      branch = split.0;
      branches = split.1;
      incumbent = ap (λ (x : Payload). x.incumbent) split.2;
    }

pub returns-in-Ok-clause-tree : goal.returns-in-Ok-clause-tree
returns-in-Ok-clause-tree c = c.in-Ok.ensures.ok ∙ ap (with_divided c.args.leaf (fork_in c.args.division) c.args.division.first c.args.division.second) c.put.ensures.changed

pub returns-in-Err-clause-err : goal.returns-in-Err-clause-err
returns-in-Err-clause-err c =
    let s : Search = c.args.self.now in
    let again : List (Node Payload) = c.put-in-Err.new.self in
    let before : Payload = c.payload-before.result.now in
    ap (λ (ns : List (Node Payload)). let t : Search = record s { tree = ns } in t)
    (back s.tree c.put.new.self again c.args.leaf (record c.args.kept.payload { incumbent = s.cost }) before c.args.kept.value c.value-value.result c.payload-before.ensures c.value-value.ensures c.put.ensures.changed
    (c.put-in-Err.ensures.changed ∙ ap (λ (ns : List (Node Payload)). with_leaf fork_of (put_leaf before c.value-value.result) c.args.leaf ns) c.in-Err.ensures.err))
