-- What the lists of a tree are once a leaf has become a split.
use Rattle.std.proofs.Common.{◌≡◌, ℕ, ◌+◌, ◌-◌, ◌<◌, ◌≤◌, List, [], ◌∷◌, ◌++◌, length, take, drop, set, get_or, refl, sym, ap, ◌∙◌, subst, arith, append_assoc, length-append}
use Rattle.std.specs.List.{insert}
use Rattle.std.proofs.lemmas.List.{take_at, drop_at, set_at, get_or_at, drop_more, take-append-drop, length-take-le}
use Rattle.fp_tree.specs.declared.layout.Kind.{Kind}
use Rattle.fp_tree.specs.declared.layout.Kind.TheVariants.{Divided as DividedKind, Leaf as LeafKind}
use Rattle.fp_tree.specs.declared.layout.LeafState.{LeafState}
use Rattle.fp_tree.specs.declared.layout.TheConstants.{MOST_SPLITS}
use Rattle.fp_tree.specs.declared.sides.Split.{Split}
use Rattle.fp_tree.specs.Trees.{with_leaf}
use Rattle.fp_tree.specs.Nodes.{Node, fork_of, divide_leaf}
use Rattle.fp_tree.specs.Layout.{fork_of_kind, leaf_node, joined_nodes, AreMatched, IsPlaceOfLeaf, IsSoundLayout}
use Rattle.fp_tree.proofs.JoinedNodes.{count_by-kinds}
use Rattle.fp_tree.proofs.StateChanges.{Cut, cut, AreMatched-append, AreTrees-divided, joined-divided}

-- an insert between two parts
insert_at : {X : Type 0} (front back : List X) (n : ℕ) (x : X) → length front ≡ n → insert (front ++ back) n x ≡ front ++ x ∷ back
insert_at {X} front back n x is =
    ap (λ (xs : List X). xs ++ x ∷ drop n (front ++ back)) (take_at front back n is) ∙ ap (λ (xs : List X). front ++ x ∷ xs) (drop_at front back n is)

-- the kinds round a leaf
round_leaf : (kinds : List Kind) (k place : ℕ) → IsPlaceOfLeaf kinds k place → kinds ≡ take place kinds ++ (LeafKind ∷ drop (place + 1) kinds)
round_leaf kinds k place at =
    sym (take-append-drop place kinds)
    ∙ ap (λ (rest : List Kind). take place kinds ++ rest) (drop_more kinds place LeafKind at.there ∙ ap (λ (kind : Kind). kind ∷ drop (place + 1) kinds) at.is_leaf)

-- two inserts at a leaf
kinds_divided : (kinds before after : List Kind) (place : ℕ) (by : Kind) → kinds ≡ before ++ (LeafKind ∷ after) → length before ≡ place →
    insert (insert kinds place by) (place + 1) LeafKind ≡ before ++ (by ∷ LeafKind ∷ LeafKind ∷ after)
kinds_divided kinds before after place by are is =
    ap (λ (ks : List Kind). insert (insert ks place by) (place + 1) LeafKind) are
    ∙ ap (λ (ks : List Kind). insert ks (place + 1) LeafKind) (insert_at before (LeafKind ∷ after) place by is ∙ sym (append_assoc before (by ∷ []) (LeafKind ∷ after)))
    ∙ insert_at (before ++ (by ∷ [])) (LeafKind ∷ after) (place + 1) LeafKind (omega (arith, length-append before (by ∷ []), is))
    ∙ append_assoc before (by ∷ []) (LeafKind ∷ LeafKind ∷ after)

module _ {T : Type 0} where
  -- two states in place of one
  states_divided : (states front back : List (LeafState T)) (k : ℕ) (s one two : LeafState T) → states ≡ front ++ (s ∷ back) → length front ≡ k →
      insert (set states k two) k one ≡ front ++ (one ∷ two ∷ back)
  states_divided states front back k s one two are is =
      ap (λ (ss : List (LeafState T)). insert (set ss k two) k one) are
      ∙ ap (λ (ss : List (LeafState T)). insert ss k one) (set_at front s back two k is) ∙ insert_at front (two ∷ back) k one is

  -- one payload more
  payloads_divided : (payloads fore aft : List T) (n : ℕ) (p q : T) → payloads ≡ fore ++ aft → length fore ≡ n → p ≡ q → insert payloads n p ≡ fore ++ (q ∷ aft)
  payloads_divided payloads fore aft n p q are is same =
      ap (λ (ps : List T). insert ps n p) are ∙ insert_at fore aft n p is ∙ ap (λ (r : T). fore ++ (r ∷ aft)) same

  -- the payload of the state at a number
  payload_at : (states front back : List (LeafState T)) (k : ℕ) (s d : LeafState T) (payload : T) → states ≡ front ++ (s ∷ back) → length front ≡ k → (get_or states k d).payload ≡ payload → payload ≡ s.payload
  payload_at states front back k s d payload are is read =
      sym read ∙ ap (λ (ss : List (LeafState T)). (get_or ss k d).payload) are ∙ ap (λ (x : LeafState T). x.payload) (get_or_at front s back d k is)

  -- the first state of a leaf that begins the kinds
  first_state : (after : List Kind) (states : List (LeafState T)) (payloads : List T) → AreMatched (LeafKind ∷ after) states payloads →
      (s : LeafState T) × (back : List (LeafState T)) × (states ≡ s ∷ back) × AreMatched after back payloads
  first_state after [] payloads m = absurd m
  first_state after (s ∷ back) payloads m = (s, back, refl, m)

  -- the lists are sound, and seen as the nodes
  pub record IsSeen (kinds : List Kind) (states : List (LeafState T)) (payloads : List T) (nodes : List (Node T)) : Type 0 where
    pub sound : IsSoundLayout kinds states payloads
    pub seen : joined_nodes kinds states payloads ≡ nodes

  -- the same of equal lists
  pub IsSeen-same : (kinds others : List Kind) (states these : List (LeafState T)) (payloads those : List T) (nodes : List (Node T)) → others ≡ kinds → these ≡ states → those ≡ payloads →
      IsSeen kinds states payloads nodes → IsSeen others these those nodes
  IsSeen-same kinds others states these payloads those nodes e f g h =
      subst (λ (ks : List Kind). IsSeen ks these those nodes) (sym e)
      (subst (λ (ss : List (LeafState T)). IsSeen kinds ss those nodes) (sym f) (subst (λ (ps : List T). IsSeen kinds states ps nodes) (sym g) h))

  -- a leaf becomes a split, where the lists have these parts
  IsSeen-parts : (kinds before after : List Kind) (states front back : List (LeafState T)) (payloads fore aft : List T) (s one two : LeafState T) (split : Split) (tail k : ℕ) (nodes : List (Node T)) →
      IsSeen kinds states payloads nodes → kinds ≡ before ++ (LeafKind ∷ after) → states ≡ front ++ (s ∷ back) → payloads ≡ fore ++ aft →
      AreMatched before front fore → AreMatched after back aft → length front ≡ k → length payloads < MOST_SPLITS →
      IsSeen (before ++ (DividedKind split tail ∷ LeafKind ∷ LeafKind ∷ after)) (front ++ (one ∷ two ∷ back)) (fore ++ (s.payload ∷ aft))
      (with_leaf fork_of (divide_leaf (record { split = split; tail = tail }) (leaf_node one) (leaf_node two)) k nodes)
  IsSeen-parts kinds before after states front back payloads fore aft s one two split tail k nodes whole kinds_are states_are payloads_are m n number few =
      let change : Node T → List (Node T) = divide_leaf (record { split = split; tail = tail }) (leaf_node one) (leaf_node two) in
      let old : IsSeen (before ++ (LeafKind ∷ after)) (front ++ (s ∷ back)) (fore ++ aft) nodes =
      IsSeen-same kinds _ states _ payloads _ nodes (sym kinds_are) (sym states_are) (sym payloads_are) whole in
      record {
        sound = record {
          tree = AreTrees-divided fork_of_kind LeafKind (DividedKind split tail) LeafKind LeafKind (record { split = split; tail = tail }) refl refl refl refl before after 1 old.sound.tree;
          matched = AreMatched-append before (DividedKind split tail ∷ LeafKind ∷ LeafKind ∷ after) front (one ∷ two ∷ back) fore (s.payload ∷ aft) m n;
          few = omega (arith, few, ap length payloads_are, length-append fore aft, length-append fore (s.payload ∷ aft));
        };
        seen =
            joined-divided before after front back fore aft s one two split tail m ∙ ap (λ (j : ℕ). with_leaf fork_of change j (joined_nodes (before ++ (LeafKind ∷ after)) (front ++ (s ∷ back)) (fore ++ aft))) number
            ∙ ap (λ (ns : List (Node T)). with_leaf fork_of change k ns) old.seen;
      }

  -- the splits before a leaf are at most all
  pub splits_before-le : (kinds : List Kind) (states : List (LeafState T)) (payloads : List T) (k place : ℕ) → AreMatched kinds states payloads → IsPlaceOfLeaf kinds k place → place - k ≤ length payloads
  splits_before-le kinds states payloads k place m at =
      let before : List Kind = take place kinds in
      let c : Cut before (LeafKind ∷ drop (place + 1) kinds) states payloads =
      cut before (LeafKind ∷ drop (place + 1) kinds) states payloads (subst (λ (ks : List Kind). AreMatched ks states payloads) (round_leaf kinds k place at) m) in
      let counts = count_by-kinds before c.front_states c.front_payloads c.front in
      omega (arith, at.before, counts.0, counts.1, length-take-le place kinds (omega (arith, at.there)), ap length c.payloads_are, length-append c.front_payloads c.back_payloads)

  -- the lists once the leaf k at a place has become a split
  pub IsSeen-divided : (kinds : List Kind) (states : List (LeafState T)) (payloads : List T) (nodes : List (Node T)) (k place : ℕ) (one two d : LeafState T) (split : Split) (tail : ℕ) (payload : T) →
      IsSeen kinds states payloads nodes → length payloads < MOST_SPLITS → IsPlaceOfLeaf kinds k place → (get_or states k d).payload ≡ payload →
      IsSeen (insert (insert kinds place (DividedKind split tail)) (place + 1) LeafKind) (insert (set states k two) k one) (insert payloads (place - k) payload)
      (with_leaf fork_of (divide_leaf (record { split = split; tail = tail }) (leaf_node one) (leaf_node two)) k nodes)
  IsSeen-divided kinds states payloads nodes k place one two d split tail payload old few at is =
      let before : List Kind = take place kinds in
      let after : List Kind = drop (place + 1) kinds in
      let round : kinds ≡ before ++ (LeafKind ∷ after) = round_leaf kinds k place at in
      let c : Cut before (LeafKind ∷ after) states payloads = cut before (LeafKind ∷ after) states payloads (subst (λ (ks : List Kind). AreMatched ks states payloads) round old.sound.matched) in
      let f = first_state after c.back_states c.back_payloads c.back in
      let states_are : states ≡ c.front_states ++ (f.0 ∷ f.1) = c.states_are ∙ ap (λ (ss : List (LeafState T)). c.front_states ++ ss) f.2 in
      let counts = count_by-kinds before c.front_states c.front_payloads c.front in
      let long : length before ≡ place = length-take-le place kinds (omega (arith, at.there)) in
      let number : length c.front_states ≡ k = sym counts.0 ∙ at.before in
      let behind : length c.front_payloads ≡ place - k = omega (arith, long, number, counts.1) in
      IsSeen-same (before ++ (DividedKind split tail ∷ LeafKind ∷ LeafKind ∷ after)) _ (c.front_states ++ (one ∷ two ∷ f.1)) _ (c.front_payloads ++ (f.0.payload ∷ c.back_payloads)) _ _
      (kinds_divided kinds before after place (DividedKind split tail) round long)
      (states_divided states c.front_states f.1 k f.0 one two states_are number)
      (payloads_divided payloads c.front_payloads c.back_payloads (place - k) payload f.0.payload c.payloads_are behind (payload_at states c.front_states f.1 k f.0 d payload states_are number is))
      (IsSeen-parts kinds before after states c.front_states f.1 payloads c.front_payloads c.back_payloads f.0 one two split tail k nodes old round states_are c.payloads_are c.front f.3 number few)
