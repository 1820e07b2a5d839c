-- What a step did, from what its parts did.
use Rattle.std.proofs.Common.{◌≡◌, ℕ, ◌+◌, ◌<◌, false, List, refl, sym, ap, ◌∙◌, subst}
use Rattle.std.specs.Prelude.{IsSomeAnd, None, Option, Some}
use Rattle.fp_tree.specs.declared.sides.Side.{Side}
use Rattle.fp_tree.specs.Nodes.{Node, closed_of, fork_of, leaf_at, split_count}
use Rattle.fp_tree.specs.Trees.{Leaf, tree_branches}
use Rattle.fp_duals_leaves.specs.Prices.{PriceLists}
use Rattle.fp_session_history.specs.declared.endings.Left.{Left}
use Rattle.fp_session_history.specs.Notes.{History, Refinement, last_round, with_note}
use Rattle.fp_session.specs.declared.kept.Kept.{Kept}
use Rattle.fp_session_looks.specs.declared.cheaper.Cheaper.{Cheaper}
use Rattle.fp_session.specs.declared.moves.Division.{Division}
use Rattle.fp_session.specs.declared.moves.Move.{Move}
use Rattle.fp_session.specs.declared.moves.Move.TheVariants as move
use Rattle.fp_session_clashes.specs.declared.refining.RefinedNetwork.{RefinedNetwork}
use Rattle.fp_session.specs.declared.payloads.Payload.{Payload}
use Rattle.fp_session.specs.declared.preparations.Preparation.{Preparation}
use Rattle.fp_session.specs.declared.searches.Search.{Search}
use Rattle.fp_session.specs.Moves.{AtOpenLeaf, HasReserve, IsDivision, IsStopAt, IsMove, IsMoveAt, IsNextRound, IsUnsettled}
use Rattle.fp_session.specs.Nodes.{IsKept, IsLeafOf, IsSettled}
use Rattle.fp_session.specs.Searches.{InHand, IsCheaper, history, in_hand}
use Rattle.fp_session.specs.StepCauses.{open_count, with_incumbent, with_round, with_tree}
use Rattle.fp_session.specs.Steps.{HasRefined, IsCheaperNow, StayFixed}
use Rattle.fp_session.proofs.Applied.{some-value}
use Rattle.fp_session.proofs.SearchChanges.{IsLeafOf-with_note}
use Rattle.fp_session.proofs.TreeChanges.{leaf_put}

-- what holds at an open leaf, weakened
pub AtOpenLeaf-map : (nodes : List (Node Payload)) (k : ℕ) (P Q : Leaf (Node Payload) → Type 0) → ((l : Leaf (Node Payload)) → P l → Q l) → AtOpenLeaf nodes k P → AtOpenLeaf nodes k Q
AtOpenLeaf-map nodes k P Q weaker at = by_leaf (leaf_at nodes k) at
  where
    by_leaf : (o : Option (Leaf (Node Payload))) → IsSomeAnd o (λ (l : Leaf (Node Payload)). (closed_of l.node ≡ false) × P l) → IsSomeAnd o (λ (l : Leaf (Node Payload)). (closed_of l.node ≡ false) × Q l)
    by_leaf None is = absurd is
    by_leaf (Some l) is = (is.0, weaker l is.1)

-- what doesn't speak of the leaf
pub AtOpenLeaf-fact : (nodes : List (Node Payload)) (k : ℕ) (A : Type 0) → AtOpenLeaf nodes k (λ l. A) → A
AtOpenLeaf-fact nodes k A at = (some-value (leaf_at nodes k) (λ (l : Leaf (Node Payload)). (closed_of l.node ≡ false) × A) at).2.1

module _ (s : Search) (prices : PriceLists) (k : ℕ) (kept : Kept) (m : Move) (is : IsMove s prices k kept m) where
  planned-as : (other : Move) → m ≡ other → AtOpenLeaf s.tree k (λ l. IsMoveAt s prices k l.sides kept other)
  planned-as other same = subst (λ (n : Move). AtOpenLeaf s.tree k (λ l. IsMoveAt s prices k l.sides kept n)) same is.planned

  -- a leaf that is to be closed is settled
  pub close-settled : m ≡ move.Close → IsSettled (history s prices) s.cost kept.payload kept.value
  close-settled same = AtOpenLeaf-fact s.tree k (IsSettled (history s prices) s.cost kept.payload kept.value) (planned-as move.Close same)

  -- a plan that is to be taken is cheaper
  pub better-cheaper : (c : Cheaper) → m ≡ move.Better c → IsCheaper s c
  better-cheaper c same =
      AtOpenLeaf-fact s.tree k (IsCheaper s c) (planned-as (move.Better c) same)

  -- a round that is to be added is the next one
  pub refine-next : (note : Refinement) (r : RefinedNetwork) → m ≡ move.Refine note r → IsNextRound s prices.unit note r
  refine-next note r same =
      AtOpenLeaf-fact s.tree k (IsNextRound s prices.unit note r)
      (AtOpenLeaf-map s.tree k (λ l. IsMoveAt s prices k l.sides kept (move.Refine note r)) (λ l. IsNextRound s prices.unit note r) (λ l both. both.1) (planned-as (move.Refine note r) same))

  module _ (d : Division) (same : m ≡ move.Divide d) where
    -- a leaf that is to be divided has something to search for
    pub divide-unsettled : AtOpenLeaf s.tree k (λ l. IsUnsettled (history s prices) s.cost l.sides kept)
    divide-unsettled =
        AtOpenLeaf-map s.tree k (λ l. IsMoveAt s prices k l.sides kept (move.Divide d)) (λ l. IsUnsettled (history s prices) s.cost l.sides kept) (λ l all. all.0) (planned-as (move.Divide d) same)

    -- a branch is left for it
    pub divide-left : split_count s.tree < s.budget.branches
    divide-left =
        AtOpenLeaf-fact s.tree k (split_count s.tree < s.budget.branches)
        (AtOpenLeaf-map s.tree k (λ l. IsMoveAt s prices k l.sides kept (move.Divide d)) (λ l. split_count s.tree < s.budget.branches) (λ l all. all.1) (planned-as (move.Divide d) same))

    -- and it is divided so
    pub divide-division : AtOpenLeaf s.tree k (λ l. IsDivision (history s prices) l.sides d)
    divide-division =
        AtOpenLeaf-map s.tree k (λ l. IsMoveAt s prices k l.sides kept (move.Divide d)) (λ l. IsDivision (history s prices) l.sides d) (λ l all. all.2) (planned-as (move.Divide d) same)

  module _ (left : Left) (same : m ≡ move.Stop left) where
    -- a leaf at which the search ends has something to search for
    pub stop-unsettled : AtOpenLeaf s.tree k (λ l. IsUnsettled (history s prices) s.cost l.sides kept)
    stop-unsettled =
        AtOpenLeaf-map s.tree k (λ l. IsMoveAt s prices k l.sides kept (move.Stop left)) (λ l. IsUnsettled (history s prices) s.cost l.sides kept) (λ l all. all.0) (planned-as (move.Stop left) same)

    -- and this is left there
    pub stop-left : AtOpenLeaf s.tree k (λ l. IsStopAt s k l.sides left)
    stop-left =
        AtOpenLeaf-map s.tree k (λ l. IsMoveAt s prices k l.sides kept (move.Stop left)) (λ l. IsStopAt s k l.sides left) (λ l all. all.1) (planned-as (move.Stop left) same)

    -- where no plan waits in reserve
    pub stop-none : s.reserve ≡ None
    stop-none =
        AtOpenLeaf-fact s.tree k (s.reserve ≡ None)
        (AtOpenLeaf-map s.tree k (λ l. IsMoveAt s prices k l.sides kept (move.Stop left)) (λ l. s.reserve ≡ None) (λ l all. all.2) (planned-as (move.Stop left) same))

  -- a plan that is to be taken out of reserve is there
  pub reserve-some : m ≡ move.TakeReserve → HasReserve s
  reserve-some same = AtOpenLeaf-fact s.tree k (HasReserve s) (planned-as move.TakeReserve same)

-- what is kept of a leaf stays true with one more note
IsKept-with_note : (h : History) (started cost : ℕ) (n : Refinement) (sides : List Side) (payload : Payload) (value : ℕ) → n.round ≡ last_round h + 1 → IsKept h sides payload value →
    IsKept (with_note h n) sides payload value
IsKept-with_note h started cost n sides payload value next kept =
    let open_still : IsLeafOf h cost (leaf_put payload value false sides) = record { kept = kept; closed = λ shut. absurd (Rattle.std.proofs.lemmas.Bool.false≢true shut) } in
    (IsLeafOf-with_note h started cost n next (leaf_put payload value false sides) open_still).kept

module _ (s t : Search) (prices : PriceLists) (note : Refinement) (r : RefinedNetwork) (next : IsNextRound s prices.unit note r) (with : in_hand t ≡ with_round (in_hand s) note r t.preparation) where
  -- what was found of an open leaf is still true after a round
  pub round-kept : (k : ℕ) (kept : Kept) → AtOpenLeaf s.tree k (λ l. IsKept (history s prices) l.sides kept.payload kept.value) →
      AtOpenLeaf t.tree k (λ l. IsKept (history t prices) l.sides kept.payload kept.value)
  round-kept k kept at =
      subst (λ (h : InHand). AtOpenLeaf h.tree k (λ l. IsKept (record { problem = h.instance; windows = h.windows; trace = h.trace; tables = prices.tables; spans = prices.spans; gifts = prices.gifts; unit = prices.unit }) l.sides kept.payload kept.value)) (sym with)
      (AtOpenLeaf-map s.tree k (λ l. IsKept (history s prices) l.sides kept.payload kept.value) (λ l. IsKept (with_note (history s prices) note) l.sides kept.payload kept.value)
      (λ l own. IsKept-with_note (history s prices) s.started s.cost note l.sides kept.payload kept.value next.round own) at)

  pub round-going : s.left ≡ None → t.left ≡ None
  round-going going = ap (λ (h : InHand). h.left) with ∙ going

  -- and after something is kept of that leaf
  module _ (u : Search) (others : u ≡ with_tree t u.tree) where
    of_both : {A : Type 0} (f : InHand → A) → f (in_hand (with_tree t u.tree)) ≡ f (in_hand t) → f (with_round (in_hand s) note r t.preparation) ≡ f (in_hand s) → f (in_hand u) ≡ f (in_hand s)
    of_both f tree round = ap (λ (x : Search). f (in_hand x)) others ∙ tree ∙ ap f with ∙ round

    pub round-fixed : StayFixed (in_hand s) (in_hand u)
    round-fixed = record {
      instance = of_both (λ (h : InHand). h.instance) refl refl;
      windows = of_both (λ (h : InHand). h.windows) refl refl;
      budget = of_both (λ (h : InHand). h.budget) refl refl;
      started = of_both (λ (h : InHand). h.started) refl refl;
    }

    pub round-taken : s.left ≡ None → open_count u.tree ≡ open_count t.tree → split_count u.tree ≡ split_count t.tree →
        tree_branches fork_of u.tree ≡ tree_branches fork_of t.tree → HasRefined (in_hand s) (in_hand u)
    round-taken going leaves splits branches = record {
      going = of_both (λ (h : InHand). h.left) refl refl ∙ going;
      leaves = leaves ∙ ap (λ (h : InHand). open_count h.tree) with;
      splits = splits ∙ ap (λ (h : InHand). split_count h.tree) with;
      branches = branches ∙ ap (λ (h : InHand). tree_branches fork_of h.tree) with;
      cost = of_both (λ (h : InHand). h.cost) refl refl;
      note = note;
      trace = ap (λ (x : Search). x.trace.items) others ∙ ap (λ (h : InHand). h.trace) with;
      incumbent = next.incumbent;
    }

module _ (s t u : Search) (c : Cheaper) (cheaper : IsCheaper s c) (others : t ≡ with_tree s t.tree) where
  -- a plan is still cheaper after something is kept of a leaf
  pub kept-cheaper : IsCheaper t c
  kept-cheaper = subst (λ (x : Search). IsCheaper x c) (sym others) (record { incumbent = cheaper.incumbent; less = cheaper.less })

  pub kept-going : s.left ≡ None → t.left ≡ None
  kept-going going = ap (λ (x : Search). x.left) others ∙ going

  module _ (reserve : Option Cheaper) (preparation : Preparation) (taken : u ≡ with_incumbent t c reserve preparation) where
    pub better-fixed : StayFixed (in_hand s) (in_hand u)
    better-fixed = record {
      instance = ap (λ (x : Search). x.instance) taken ∙ ap (λ (x : Search). x.instance) others;
      windows = ap (λ (x : Search). x.windows) taken ∙ ap (λ (x : Search). x.windows) others;
      budget = ap (λ (x : Search). x.budget) taken ∙ ap (λ (x : Search). x.budget) others;
      started = ap (λ (x : Search). x.started) taken ∙ ap (λ (x : Search). x.started) others;
    }

    pub better-taken : s.left ≡ None → open_count t.tree ≡ open_count s.tree → split_count t.tree ≡ split_count s.tree →
        tree_branches fork_of t.tree ≡ tree_branches fork_of s.tree → IsCheaperNow (in_hand s) (in_hand u)
    better-taken going leaves splits branches = record {
      going = ap (λ (x : Search). x.left) taken ∙ kept-going going;
      leaves = ap (λ (x : Search). open_count x.tree) taken ∙ leaves;
      splits = ap (λ (x : Search). split_count x.tree) taken ∙ splits;
      branches = ap (λ (x : Search). tree_branches fork_of x.tree) taken ∙ branches;
      cost = subst (λ (n : ℕ). n < s.cost) (sym (ap (λ (x : Search). x.cost) taken)) cheaper.less;
      trace = ap (λ (x : Search). x.trace.items) taken ∙ ap (λ (x : Search). x.trace.items) others;
    }

-- a plan still waits in reserve after something is kept of a leaf
pub kept-reserve : (s t : Search) → t ≡ with_tree s t.tree → HasReserve s → HasReserve t
kept-reserve s t others some = subst HasReserve (sym others) some
