-- What a search knows after a step's parts: of an open leaf something is kept, and it is closed,
-- divided, or left.
use Rattle.std.proofs.Common.{◌≡◌, ℕ, zero, suc, ◌+◌, ◌<◌, false, List, [], ◌∷◌, Result, Ok, Err, refl, sym, ap, ◌∙◌, subst, arith}
use Rattle.std.specs.Prelude.{⊤, IsSomeAnd, None, OnErr, Option, Some, slice_get}
use Rattle.std.proofs.lemmas.Option.{none-some, same_Some}
use Rattle.fp_tree.specs.Nodes.{Node, close_leaf, closed_of, divide_leaf, fork_of, leaf_at, open_leaf, put_leaf, split_count}
use Rattle.fp_tree.specs.Trees.{Leaf, tree_leaves, with_leaf}
use Rattle.fp_tree.proofs.LeafChange.{leaves_of-with_leaf, with_element}
use Rattle.fp_duals_leaves.specs.Prices.{PriceLists}
use Rattle.fp_session_history.specs.declared.endings.Left.{Left}
use Rattle.fp_session_history.specs.declared.endings.Left.TheVariants.{Nothing, Several, Timing, Unsettled}
use Rattle.fp_session_history.specs.PrintedLeaves.{IsOpenBelow}
use Rattle.fp_session_history.specs.Solutions.{AreWalksUnder, HasSeveral}
use Rattle.fp_session.specs.declared.kept.Kept.{Kept}
use Rattle.fp_session.specs.declared.moves.Division.{Division}
use Rattle.fp_session.specs.declared.payloads.Payload.{Payload}
use Rattle.fp_session.specs.declared.searches.Search.{Search}
use Rattle.fp_session.specs.Moves.{AtOpenLeaf, IsDivision, IsStopAt, IsUnsettled, fork_in, points_now}
use Rattle.fp_session.specs.Nodes.{IsEarnedAs, IsKept, IsSettled}
use Rattle.fp_session.specs.Searches.{IsLeft, IsSearch, history}
use Rattle.fp_session_history.specs.Notes.{worth_of}
use Rattle.fp_session.proofs.EarnedSplits.{IsEarnedAs-kept, IsEarnedSplit-kept, IsKept-noted}
use Rattle.fp_session.proofs.SearchChanges.{IsSearch-close, IsSearch-divide, IsSearch-put, IsSearch-stop}
use Rattle.fp_session.proofs.TreeChanges.{leaf_put}

-- an option that has a value of which P holds
pub some-value : {X : Type 0} (o : Option X) (P : X → Type 0) → IsSomeAnd o P → (x : X) × (o ≡ Some x) × P x
some-value None P is = absurd is
some-value (Some x) P is = (x, refl, is)

-- what holds of its value
pub of-value : {X : Type 0} (o : Option X) (x : X) (P : X → Type 0) → o ≡ Some x → IsSomeAnd o P → P x
of-value o x P is all = subst (λ q. IsSomeAnd q P) is all

pub OnErr-any : {X E : Type 0} (r : Result X E) (A : Type 0) → A → OnErr r A
OnErr-any (Ok x) A is = tt
OnErr-any (Err e) A is = is

-- the element in another's place
element-changed : {X : Type 0} (f : X → X) (k : ℕ) (xs : List X) (x : X) → slice_get xs k ≡ Some x → slice_get (with_element (λ y. f y ∷ []) k xs) k ≡ Some (f x)
element-changed f k [] x is = absurd (none-some x is)
element-changed f zero (y ∷ xs) x is = ap (λ z. Some (f z)) (same_Some y x is)
element-changed f (suc k) (y ∷ xs) x is = element-changed f k xs x is

module _ {T : Type 0} (nodes : List (Node T)) (k : ℕ) (l : Leaf (Node T)) (at : leaf_at nodes k ≡ Some l) where
  -- the leaf after it got another payload and value
  pub leaf_at-put : (payload : T) (value : ℕ) → leaf_at (with_leaf fork_of (put_leaf payload value) k nodes) k ≡ Some (leaf_put payload value (closed_of l.node) l.sides)
  leaf_at-put payload value =
      ap (λ (ls : List (Leaf (Node T))). slice_get ls k) (leaves_of-with_leaf fork_of (put_leaf payload value) (λ x leaf. refl) nodes ([] ∷ []) k)
      ∙ element-changed (λ (m : Leaf (Node T)). leaf_put payload value (closed_of m.node) m.sides) k (tree_leaves fork_of nodes) l at

module _ (s : Search) (prices : PriceLists) (is : IsSearch s prices) (going : s.left ≡ None) (k : ℕ) where
  -- something is kept of an open leaf
  pub put-applied : (payload : Payload) (value : ℕ) (nodes : List (Node Payload)) → AtOpenLeaf s.tree k (λ l. IsKept (history s prices) l.sides payload value) →
      nodes ≡ with_leaf fork_of (put_leaf payload value) k s.tree → split_count nodes ≡ split_count s.tree → IsSearch (record s { tree = nodes }) prices
  put-applied payload value nodes kept changed count =
      let leaf = some-value (leaf_at s.tree k) (λ (l : Leaf (Node Payload)). (closed_of l.node ≡ false) × IsKept (history s prices) l.sides payload value) kept in
      subst (λ (ns : List (Node Payload)). IsSearch (record s { tree = ns }) prices) (sym changed)
      (IsSearch-put s prices is going k leaf.0 leaf.1 payload value leaf.2.1 leaf.2.0 (omega (arith, ap split_count changed, count)))

  -- and it is closed
  pub close-applied : (payload : Payload) (value : ℕ) (nodes shut : List (Node Payload)) → AtOpenLeaf s.tree k (λ l. IsKept (history s prices) l.sides payload value) →
      IsSettled (history s prices) s.cost payload value → nodes ≡ with_leaf fork_of (put_leaf payload value) k s.tree → split_count nodes ≡ split_count s.tree →
      shut ≡ with_leaf fork_of close_leaf k nodes → split_count shut ≡ split_count nodes → IsSearch (record s { tree = shut }) prices
  close-applied payload value nodes shut kept settled changed count closed same =
      let leaf = some-value (leaf_at s.tree k) (λ (l : Leaf (Node Payload)). (closed_of l.node ≡ false) × IsKept (history s prices) l.sides payload value) kept in
      let between : IsSearch (record s { tree = nodes }) prices = put-applied payload value nodes kept changed count in
      let at : leaf_at nodes k ≡ Some (leaf_put payload value (closed_of leaf.0.node) leaf.0.sides) =
      ap (λ (ns : List (Node Payload)). leaf_at ns k) changed ∙ leaf_at-put s.tree k leaf.0 leaf.1 payload value in
      subst (λ (ns : List (Node Payload)). IsSearch (record s { tree = ns }) prices) (sym closed)
      (IsSearch-close (record s { tree = nodes }) prices between going k (leaf_put payload value (closed_of leaf.0.node) leaf.0.sides) at leaf.2.1 settled (omega (arith, ap split_count closed, same)))

  -- or it is divided
  pub divide-applied : (kept : Kept) (d : Division) (nodes divided : List (Node Payload)) → AtOpenLeaf s.tree k (λ l. IsKept (history s prices) l.sides kept.payload kept.value) →
      AtOpenLeaf s.tree k (λ l. IsUnsettled (history s prices) s.cost l.sides kept) → AtOpenLeaf s.tree k (λ l. IsDivision (history s prices) l.sides d) → split_count s.tree < s.budget.branches →
      nodes ≡ with_leaf fork_of (put_leaf (record kept.payload { incumbent = s.cost }) kept.value) k s.tree → split_count nodes ≡ split_count s.tree →
      divided ≡ with_leaf fork_of (divide_leaf (fork_in d) (open_leaf d.first.payload d.first.value) (open_leaf d.second.payload d.second.value)) k nodes →
      split_count divided ≡ split_count nodes + 1 → IsSearch (record s { tree = divided }) prices
  divide-applied kept d nodes divided keeps unsettled division room changed count parted more =
      let noted : Payload = record kept.payload { incumbent = s.cost } in
      let leaf = some-value (leaf_at s.tree k) (λ (l : Leaf (Node Payload)). (closed_of l.node ≡ false) × IsKept (history s prices) l.sides kept.payload kept.value) keeps in
      let l : Leaf (Node Payload) = leaf.0 in
      let open_still = of-value (leaf_at s.tree k) l (λ (m : Leaf (Node Payload)). (closed_of m.node ≡ false) × IsUnsettled (history s prices) s.cost m.sides kept) leaf.1 unsettled in
      let parts = of-value (leaf_at s.tree k) l (λ (m : Leaf (Node Payload)). (closed_of m.node ≡ false) × IsDivision (history s prices) m.sides d) leaf.1 division in
      let keeps_noted : IsKept (history s prices) l.sides noted kept.value = IsKept-noted (history s prices) l.sides kept.payload kept.value s.cost leaf.2.1 in
      let between : IsSearch (record s { tree = nodes }) prices =
      subst (λ (ns : List (Node Payload)). IsSearch (record s { tree = ns }) prices) (sym changed)
      (IsSearch-put s prices is going k l leaf.1 noted kept.value keeps_noted leaf.2.0 (omega (arith, ap split_count changed, count))) in
      let at : leaf_at nodes k ≡ Some (leaf_put noted kept.value (closed_of l.node) l.sides) =
      ap (λ (ns : List (Node Payload)). leaf_at ns k) changed ∙ leaf_at-put s.tree k l leaf.1 noted kept.value in
      subst (λ (ns : List (Node Payload)). IsSearch (record s { tree = ns }) prices) (sym parted)
      (IsSearch-divide (record s { tree = nodes }) prices between going k (leaf_put noted kept.value (closed_of l.node) l.sides) at d parts.1
      (IsEarnedSplit-kept (history s prices) s.started s.cost l.sides kept.payload kept.value leaf.2.1 open_still.1.some open_still.1.below is.cheaper) leaf.2.1.price
      (omega (arith, ap split_count parted, more, count, room)))

  -- or the search ends with what is left there
  pub stop-applied : (kept : Kept) (left : Left) (nodes : List (Node Payload)) → AtOpenLeaf s.tree k (λ l. IsKept (history s prices) l.sides kept.payload kept.value) →
      AtOpenLeaf s.tree k (λ l. IsUnsettled (history s prices) s.cost l.sides kept) → AtOpenLeaf s.tree k (λ l. IsStopAt s k l.sides left) → s.reserve ≡ None →
      nodes ≡ with_leaf fork_of (put_leaf kept.payload kept.value) k s.tree → split_count nodes ≡ split_count s.tree → IsSearch (record s { tree = nodes; left = Some left }) prices
  stop-applied kept left nodes keeps unsettled lefts none changed count =
      IsSearch-stop (record s { tree = nodes }) prices (put-applied kept.payload kept.value nodes keeps changed count) going left (why left lefts) none
    where
      keepsat : (x : Leaf (Node Payload)) × (leaf_at s.tree k ≡ Some x) × ((closed_of x.node ≡ false) × IsKept (history s prices) x.sides kept.payload kept.value)
      keepsat = some-value (leaf_at s.tree k) (λ (l : Leaf (Node Payload)). (closed_of l.node ≡ false) × IsKept (history s prices) l.sides kept.payload kept.value) keeps

      l : Leaf (Node Payload)
      l = keepsat.0

      unsettledat : IsUnsettled (history s prices) s.cost l.sides kept
      unsettledat = (of-value (leaf_at s.tree k) l (λ (m : Leaf (Node Payload)). (closed_of m.node ≡ false) × IsUnsettled (history s prices) s.cost m.sides kept) keepsat.1 unsettled).1

      now : Leaf (Node Payload)
      now = leaf_put kept.payload kept.value (closed_of l.node) l.sides

      at : leaf_at nodes k ≡ Some now
      at = ap (λ (ns : List (Node Payload)). leaf_at ns k) changed ∙ leaf_at-put s.tree k l keepsat.1 kept.payload kept.value

      askept : IsEarnedAs (history s prices) l.sides kept.payload.valuation kept.value
      askept = IsEarnedAs-kept (history s prices) l.sides kept.payload kept.value keepsat.2.1 unsettledat.some

      below : IsOpenBelow (history s prices) s.cost l.sides kept.payload.valuation
      below = record {
        value = askept.earned.value;
        is = askept.earned.is;
        below = subst (λ (v : ℕ). worth_of (history s prices) v < s.cost) askept.is unsettledat.below;
        linear = λ f other v. omega (arith, unsettledat.starts.linear f other v, askept.is);
        even = λ f other v. omega (arith, unsettledat.starts.even f other v, askept.is);
      }

      here : (n : ℕ) → n ≡ k → (P : Leaf (Node Payload) → Type 0) → P now → IsSomeAnd (leaf_at nodes n) P
      here n own P holds = subst (λ (o : Option (Leaf (Node Payload))). IsSomeAnd o P) (sym (ap (leaf_at nodes) own ∙ at)) holds

      why : (what : Left) → AtOpenLeaf s.tree k (λ m. IsStopAt s k m.sides what) → IsLeft (record s { tree = nodes }) prices what
      why Nothing all = absurd (of-value (leaf_at s.tree k) l (λ (m : Leaf (Node Payload)). (closed_of m.node ≡ false) × IsStopAt s k m.sides Nothing) keepsat.1 all).1
      why (Timing leaf relaxed) all =
          let own = (of-value (leaf_at s.tree k) l (λ (m : Leaf (Node Payload)). (closed_of m.node ≡ false) × IsStopAt s k m.sides (Timing leaf relaxed)) keepsat.1 all).1 in (
            own.1.spent,
            own.1.clashes,
            record {
              open_at = here leaf own.0 (λ m. IsOpenBelow (history s prices) s.cost m.sides m.node.payload.valuation) below;
              holds = here leaf own.0 (λ m. AreWalksUnder s.instance s.windows (points_now s) m.sides relaxed) own.1.under;
            },
          )
      why (Several leaf shipment) all =
          let own = (of-value (leaf_at s.tree k) l (λ (m : Leaf (Node Payload)). (closed_of m.node ≡ false) × IsStopAt s k m.sides (Several leaf shipment)) keepsat.1 all).1 in (
            omega (arith, count, own.1.spent),
            record {
              open_at = here leaf own.0 (λ m. IsOpenBelow (history s prices) s.cost m.sides m.node.payload.valuation) below;
              holds = here leaf own.0 (λ m. HasSeveral s.instance s.windows (points_now s) m.sides shipment) own.1.several;
            },
          )
      why (Unsettled leaf) all =
          let own = (of-value (leaf_at s.tree k) l (λ (m : Leaf (Node Payload)). (closed_of m.node ≡ false) × IsStopAt s k m.sides (Unsettled leaf)) keepsat.1 all).1 in
          record {
            open_at = here leaf own (λ m. IsOpenBelow (history s prices) s.cost m.sides m.node.payload.valuation) below;
            holds = here leaf own (λ m. ⊤) tt;
          }
