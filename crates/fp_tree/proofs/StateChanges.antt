-- A leaf whose state is another, and a leaf that becomes a split.
use Rattle.std.proofs.Common.{◌≡◌, ℕ, zero, suc, ◌<◌, List, [], ◌∷◌, ◌++◌, length, set, get_or, refl, sym, ap, ◌∙◌, subst}
use Rattle.std.specs.Prelude.{Option, Some, None, slice_get}
use Rattle.std.proofs.lemmas.Option.{none-some, same_Some, slice_get_read}
use Rattle.fp_tree.specs.declared.layout.Kind.{Kind}
use Rattle.fp_tree.specs.declared.layout.Kind.TheVariants.{Divided as DividedKind, Leaf as LeafKind}
use Rattle.fp_tree.specs.declared.layout.LeafState.{LeafState}
use Rattle.fp_tree.specs.declared.sides.Split.{Split}
use Rattle.fp_tree.specs.Sides.{Fork}
use Rattle.fp_tree.specs.Trees.{AreTrees, with_leaf}
use Rattle.fp_tree.specs.Nodes.{Node, fork_of, divide_leaf}
use Rattle.fp_tree.specs.Layout.{leaf_node, split_node, joined_nodes, AreMatched, IsSoundLayout}

module _ {T : Type 0} where
  -- another state in place of one
  pub AreMatched-set : (kinds : List Kind) (states : List (LeafState T)) (payloads : List T) (k : ℕ) (s : LeafState T) → AreMatched kinds states payloads → AreMatched kinds (set states k s) payloads
  AreMatched-set [] [] payloads k s m = m
  AreMatched-set [] (x ∷ states) payloads k s m = absurd m
  AreMatched-set (LeafKind ∷ kinds) [] payloads k s m = absurd m
  AreMatched-set (LeafKind ∷ kinds) (x ∷ states) payloads zero s m = m
  AreMatched-set (LeafKind ∷ kinds) (x ∷ states) payloads (suc k) s m = AreMatched-set kinds states payloads k s m
  AreMatched-set (DividedKind split tail ∷ kinds) states [] k s m = absurd m
  AreMatched-set (DividedKind split tail ∷ kinds) states (p ∷ payloads) k s m = AreMatched-set kinds states payloads k s m

  -- another state changes that leaf
  joined-set : (kinds : List Kind) (states : List (LeafState T)) (payloads : List T) (k : ℕ) (s new : LeafState T) (change : Node T → List (Node T)) → AreMatched kinds states payloads →
      slice_get states k ≡ Some s → change (leaf_node s) ≡ leaf_node new ∷ [] → joined_nodes kinds (set states k new) payloads ≡ with_leaf fork_of change k (joined_nodes kinds states payloads)
  joined-set [] [] payloads k s new change m is changed = absurd (none-some s is)
  joined-set [] (x ∷ states) payloads k s new change m is changed = absurd m
  joined-set (LeafKind ∷ kinds) [] payloads k s new change m is changed = absurd m
  joined-set (LeafKind ∷ kinds) (x ∷ states) payloads zero s new change m is changed =
      sym (ap (λ (y : LeafState T). change (leaf_node y) ++ joined_nodes kinds states payloads) (same_Some x s is) ∙ ap (λ (ns : List (Node T)). ns ++ joined_nodes kinds states payloads) changed)
  joined-set (LeafKind ∷ kinds) (x ∷ states) payloads (suc k) s new change m is changed = ap (λ (ns : List (Node T)). leaf_node x ∷ ns) (joined-set kinds states payloads k s new change m is changed)
  joined-set (DividedKind split tail ∷ kinds) states [] k s new change m is changed = absurd m
  joined-set (DividedKind split tail ∷ kinds) states (p ∷ payloads) zero s new change m is changed =
      ap (λ (ns : List (Node T)). split_node (record { split = split; tail = tail }) p ∷ ns) (joined-set kinds states payloads zero s new change m is changed)
  joined-set (DividedKind split tail ∷ kinds) states (p ∷ payloads) (suc k) s new change m is changed =
      ap (λ (ns : List (Node T)). split_node (record { split = split; tail = tail }) p ∷ ns) (joined-set kinds states payloads (suc k) s new change m is changed)

  -- what is sound stays so with another state in place of one
  pub IsSound-set : (kinds : List Kind) (states : List (LeafState T)) (payloads : List T) (k : ℕ) (s : LeafState T) → IsSoundLayout kinds states payloads → IsSoundLayout kinds (set states k s) payloads
  IsSound-set kinds states payloads k s sound = record { tree = sound.tree; matched = AreMatched-set kinds states payloads k s sound.matched; few = sound.few }

  -- what the nodes are seen as with another state in place of the one that was read
  pub seen-set : (kinds : List Kind) (states : List (LeafState T)) (payloads : List T) (nodes : List (Node T)) (k : ℕ) (s new : LeafState T) (change : Node T → List (Node T)) →
      joined_nodes kinds states payloads ≡ nodes → IsSoundLayout kinds states payloads → k < length states → s ≡ get_or states k s → change (leaf_node s) ≡ leaf_node new ∷ [] →
      joined_nodes kinds (set states k new) payloads ≡ with_leaf fork_of change k nodes
  seen-set kinds states payloads nodes k s new change seen sound within is changed =
      joined-set kinds states payloads k s new change sound.matched (slice_get_read states (length states) k s refl within is) changed
      ∙ ap (λ (ns : List (Node T)). with_leaf fork_of change k ns) seen

  -- states and payloads cut where the kinds are
  pub record Cut (before after : List Kind) (states : List (LeafState T)) (payloads : List T) : Type 0 where
    pub front_states : List (LeafState T)
    pub back_states : List (LeafState T)
    pub front_payloads : List T
    pub back_payloads : List T
    pub states_are : states ≡ front_states ++ back_states
    pub payloads_are : payloads ≡ front_payloads ++ back_payloads
    pub front : AreMatched before front_states front_payloads
    pub back : AreMatched after back_states back_payloads

  pub cut : (before after : List Kind) (states : List (LeafState T)) (payloads : List T) → AreMatched (before ++ after) states payloads → Cut before after states payloads
  cut [] after states payloads m = record {
    front_states = [];
    back_states = states;
    front_payloads = [];
    back_payloads = payloads;
    states_are = refl;
    payloads_are = refl;
    front = tt;
    back = m;
  }
  cut (LeafKind ∷ before) after [] payloads m = absurd m
  cut (LeafKind ∷ before) after (s ∷ states) payloads m =
      let rest = cut before after states payloads m in
      record {
        front_states = s ∷ rest.front_states;
        back_states = rest.back_states;
        front_payloads = rest.front_payloads;
        back_payloads = rest.back_payloads;
        states_are = ap (λ (ss : List (LeafState T)). s ∷ ss) rest.states_are;
        payloads_are = rest.payloads_are;
        front = rest.front;
        back = rest.back;
      }
  cut (DividedKind split tail ∷ before) after states [] m = absurd m
  cut (DividedKind split tail ∷ before) after states (p ∷ payloads) m =
      let rest = cut before after states payloads m in
      record {
        front_states = rest.front_states;
        back_states = rest.back_states;
        front_payloads = p ∷ rest.front_payloads;
        back_payloads = rest.back_payloads;
        states_are = rest.states_are;
        payloads_are = ap (λ (ps : List T). p ∷ ps) rest.payloads_are;
        front = rest.front;
        back = rest.back;
      }

  -- matched parts one after the other
  pub AreMatched-append : (before after : List Kind) (front back : List (LeafState T)) (fore aft : List T) → AreMatched before front fore → AreMatched after back aft →
      AreMatched (before ++ after) (front ++ back) (fore ++ aft)
  AreMatched-append [] after [] back [] aft m n = n
  AreMatched-append [] after [] back (p ∷ fore) aft m n = absurd m
  AreMatched-append [] after (s ∷ front) back fore aft m n = absurd m
  AreMatched-append (LeafKind ∷ before) after [] back fore aft m n = absurd m
  AreMatched-append (LeafKind ∷ before) after (s ∷ front) back fore aft m n = AreMatched-append before after front back fore aft m n
  AreMatched-append (DividedKind split tail ∷ before) after front back [] aft m n = absurd m
  AreMatched-append (DividedKind split tail ∷ before) after front back (p ∷ fore) aft m n = AreMatched-append before after front back fore aft m n

  -- a leaf with the state s that becomes a split, with leaves of the states one and two
  pub joined-divided : (before after : List Kind) (front back : List (LeafState T)) (fore aft : List T) (s one two : LeafState T) (split : Split) (tail : ℕ) → AreMatched before front fore →
      joined_nodes (before ++ (DividedKind split tail ∷ LeafKind ∷ LeafKind ∷ after)) (front ++ (one ∷ two ∷ back)) (fore ++ (s.payload ∷ aft))
      ≡ with_leaf fork_of (divide_leaf (record { split = split; tail = tail }) (leaf_node one) (leaf_node two)) (length front) (joined_nodes (before ++ (LeafKind ∷ after)) (front ++ (s ∷ back)) (fore ++ aft))
  joined-divided [] after [] back [] aft s one two split tail m = refl
  joined-divided [] after [] back (p ∷ fore) aft s one two split tail m = absurd m
  joined-divided [] after (x ∷ front) back fore aft s one two split tail m = absurd m
  joined-divided (LeafKind ∷ before) after [] back fore aft s one two split tail m = absurd m
  joined-divided (LeafKind ∷ before) after (x ∷ front) back fore aft s one two split tail m = ap (λ (ns : List (Node T)). leaf_node x ∷ ns) (joined-divided before after front back fore aft s one two split tail m)
  joined-divided (DividedKind by at ∷ before) after front back [] aft s one two split tail m = absurd m
  joined-divided (DividedKind by at ∷ before) after [] back (p ∷ fore) aft s one two split tail m =
      ap (λ (ns : List (Node T)). split_node (record { split = by; tail = at }) p ∷ ns) (joined-divided before after [] back fore aft s one two split tail m)
  joined-divided (DividedKind by at ∷ before) after (x ∷ front) back (p ∷ fore) aft s one two split tail m =
      ap (λ (ns : List (Node T)). split_node (record { split = by; tail = at }) p ∷ ns) (joined-divided before after (x ∷ front) back fore aft s one two split tail m)

-- a leaf becomes a split with two leaves: the nodes stay as many trees
pub AreTrees-divided : {X : Type 0} (fork_of : X → Option Fork) (x y z w : X) (f : Fork) → fork_of x ≡ None → fork_of y ≡ Some f → fork_of z ≡ None → fork_of w ≡ None →
    (before after : List X) (pending : ℕ) → AreTrees fork_of pending (before ++ (x ∷ after)) → AreTrees fork_of pending (before ++ (y ∷ z ∷ w ∷ after))
AreTrees-divided fork_of x y z w f leaf divided one two [] after zero trees = absurd trees
AreTrees-divided fork_of x y z w f leaf divided one two [] after (suc pending) trees =
    let P : Option Fork → Type 0 = λ o. elim o as (λ p. Type 0) [ None ↦ AreTrees fork_of pending after | Some c ↦ AreTrees fork_of (suc (suc pending)) after ] in
    let rest : AreTrees fork_of pending after = subst P leaf trees in
    rw (divided, one, two) rest
AreTrees-divided fork_of x y z w f leaf divided one two (n ∷ before) after zero trees = absurd trees
AreTrees-divided {X} fork_of x y z w f leaf divided one two (n ∷ before) after (suc pending) trees =
    by_node (fork_of n) (λ more. AreTrees-divided fork_of x y z w f leaf divided one two before after more) trees
  where
    by_node : (o : Option Fork) → ((more : ℕ) → AreTrees fork_of more (before ++ (x ∷ after)) → AreTrees fork_of more (before ++ (y ∷ z ∷ w ∷ after))) →
        elim o as (λ p. Type 0) [ None ↦ AreTrees fork_of pending (before ++ (x ∷ after)) | Some c ↦ AreTrees fork_of (suc (suc pending)) (before ++ (x ∷ after)) ] →
        elim o as (λ p. Type 0) [ None ↦ AreTrees fork_of pending (before ++ (y ∷ z ∷ w ∷ after)) | Some c ↦ AreTrees fork_of (suc (suc pending)) (before ++ (y ∷ z ∷ w ∷ after)) ]
    by_node None again h = again pending h
    by_node (Some c) again h = again (suc (suc pending)) h
