-- What was planned is done in order: at the least open leaf, and a round before a split.
use Rattle.std.proofs.Common.{◌≡◌, ℕ, ◌<◌, ◌≤◌, ⊎_elim, Bool, true, false, List, sym, ap, ◌∙◌, subst}
use Rattle.std.specs.Prelude.{All, IfOk, IsSomeAnd, None, Option, Some, Result, Ok, Err}
use Rattle.std.specs.declared.alloc.AllocError.{AllocError}
use Rattle.std.proofs.lemmas.Bool.{cases_lt, false≢true}
use Rattle.fp_base_lists.specs.Distinct.{AreDistinct}
use Rattle.fp_model.specs.declared.parts.Leg.{Leg}
use Rattle.fp_model.specs.Costs.{cost}
use Rattle.fp_relaxmodel.specs.Terminals.{terminals_on}
use Rattle.fp_tree.specs.declared.sides.Side.{Side}
use Rattle.fp_tree.specs.Nodes.{IsBestOpen, Node, closed_of, leaf_at}
use Rattle.fp_tree.specs.Trees.{Leaf}
use Rattle.fp_duals_leaves.specs.Prices.{PriceLists}
use Rattle.fp_session_history.specs.declared.endings.Ending.{Ending}
use Rattle.fp_session_history.specs.declared.endings.Left.{Left}
use Rattle.fp_session_history.specs.declared.endings.Left.TheVariants.{Nothing, Several, Timing, Unsettled}
use Rattle.fp_session_history.specs.Notes.{Refinement}
use Rattle.fp_session_history.specs.Solutions.{AreWalksUnder}
use Rattle.fp_session.specs.declared.kept.Kept.{Kept}
use Rattle.fp_session_looks.specs.declared.cheaper.Cheaper.{Cheaper}
use Rattle.fp_session.specs.declared.moves.Division.{Division}
use Rattle.fp_session.specs.declared.moves.Move.{Move}
use Rattle.fp_session.specs.declared.moves.Move.TheVariants as move
use Rattle.fp_session_clashes.specs.declared.refining.RefinedNetwork.{RefinedNetwork}
use Rattle.fp_session.specs.declared.payloads.Payload.{Payload}
use Rattle.fp_session.specs.declared.preparations.Preparation.{Preparation}
use Rattle.fp_session.specs.declared.searches.Search.{Search}
use Rattle.fp_session.specs.declared.steps.Step.{Step}
use Rattle.fp_session.specs.declared.steps.Step.TheVariants as step
use Rattle.fp_session.specs.Moves.{AtOpenLeaf, IsMove, IsMoveAt, LeavesNoLess, fork_in, points_now}
use Rattle.fp_session.specs.Nodes.{HasNoMore}
use Rattle.fp_session.specs.Order.{AreWalksHad, HasDearWalks, IsInOrder, IsWorkAt, LeavesAt, WorksAtLeast, with_closed, with_cost, with_divided, with_kept}
use Rattle.fp_session.specs.Searches.{InHand, in_hand}
use Rattle.fp_session.specs.StepCauses.{ending_of, with_incumbent, with_round, with_tree}
use Rattle.fp_session.proofs.Applied.{some-value}

-- walks that were tested, and aren't routes that cost less, make no cheaper plan
pub dear-walks : (s : Search) (sides : List Side) (walks : List (List Leg)) (told : Bool) → AreWalksUnder s.instance s.windows (points_now s) sides walks → told ≡ false →
    (All (λ walk. AreDistinct (terminals_on s.instance walk)) walks × (cost s.instance walks < s.cost) → told ≡ true) → HasDearWalks (in_hand s) sides
dear-walks s sides walks told under fails calls = record {
  walks = walks;
  under = under;
  dear = λ apart.
      ⊎_elim (λ (less : cost s.instance walks < s.cost). absurd (false≢true (sym fails ∙ calls (apart, less)))) (λ (more : s.cost ≤ cost s.instance walks). more)
      (cases_lt (cost s.instance walks) s.cost);
}

-- a step that is in order is so where the search hadn't ended
pub order-any : (unit : Option ℕ) (s t : InHand) (r : Result Step AllocError) → IfOk r (IsInOrder unit s t) → IfOk r (λ (did : Step). s.left ≡ None → IsInOrder unit s t did)
order-any unit s t (Ok did) is = λ going. is
order-any unit s t (Err e) is = tt

-- what is so of an open leaf, by another fact of it
of-open : (nodes : List (Node Payload)) (k : ℕ) (P Q : Leaf (Node Payload) → Type 0) → ((l : Leaf (Node Payload)) → P l → Q l) → AtOpenLeaf nodes k P → IsSomeAnd (leaf_at nodes k) Q
of-open nodes k P Q weaker at = by_leaf (leaf_at nodes k) at
  where
    by_leaf : (o : Option (Leaf (Node Payload))) → IsSomeAnd o (λ (l : Leaf (Node Payload)). (closed_of l.node ≡ false) × P l) → IsSomeAnd o Q
    by_leaf None is = absurd is
    by_leaf (Some l) is = weaker l is.1

module _ (s : Search) (prices : PriceLists) (k : ℕ) (kept : Kept) (m : Move) (is : IsMove s prices k kept m) (least : IsBestOpen s.tree k) where
  planned-so : (other : Move) → m ≡ other → AtOpenLeaf s.tree k (λ l. IsMoveAt s prices k l.sides kept other)
  planned-so other same = subst (λ (n : Move). AtOpenLeaf s.tree k (λ l. IsMoveAt s prices k l.sides kept n)) same is.planned

  -- the value of the leaf doesn't fall
  own-no_less : kept.payload.empty ≡ false → IsSomeAnd (leaf_at s.tree k) (λ (l : Leaf (Node Payload)). HasNoMore l kept)
  own-no_less some = of-open s.tree k (λ l. kept.payload.empty ≡ false → HasNoMore l kept) (λ l. HasNoMore l kept) (λ l less. less some) is.no_less

  works : (t : Search) (did : Step) → IsWorkAt prices.unit (in_hand s) (in_hand t) k kept did → WorksAtLeast prices.unit (in_hand s) (in_hand t) did
  works t did work = record { leaf = k; least = least; kept = kept; no_less = own-no_less; work = work }

  -- a leaf that is closed
  pub close-order : (t : Search) → t.tree ≡ with_closed k (with_kept k kept s.tree) → IsInOrder prices.unit (in_hand s) (in_hand t) step.Closed
  close-order t tree = works t step.Closed tree

  -- a cheaper plan that is taken
  pub better-order : (t u : Search) (c : Cheaper) (reserve : Option Cheaper) (preparation : Preparation) → t.tree ≡ with_kept k kept s.tree → u ≡ with_incumbent t c reserve preparation →
      IsInOrder prices.unit (in_hand s) (in_hand u) step.Better
  better-order t u c reserve preparation tree taken = works u step.Better (ap (λ (x : Search). x.tree) taken ∙ tree)

  -- a round that is added
  pub round-order : (t u : Search) (note : Refinement) (r : RefinedNetwork) → m ≡ move.Refine note r → in_hand t ≡ with_round (in_hand s) note r t.preparation → u ≡ with_tree t u.tree →
      u.tree ≡ with_kept k kept t.tree → IsInOrder prices.unit (in_hand s) (in_hand u) step.Round
  round-order t u note r same with others tree = works u step.Round
      (record {
        tree = tree ∙ ap (λ (h : InHand). with_kept k kept h.tree) with;
        note = note;
        trace = ap (λ (x : Search). x.trace.items) others ∙ ap (λ (h : InHand). h.trace) with;
        under = of-open s.tree k (λ l. IsMoveAt s prices k l.sides kept (move.Refine note r)) (λ l. AreWalksHad (in_hand s) l.sides note.relaxed) (λ l all. all.2) (planned-so (move.Refine note r) same);
      })

  -- a leaf that is divided
  pub split-order : (t : Search) (d : Division) → m ≡ move.Divide d → t.tree ≡ with_divided k (fork_in d) d.first d.second (with_kept k (with_cost s.cost kept) s.tree) →
      IsInOrder prices.unit (in_hand s) (in_hand t) step.Branch
  split-order t d same tree = works t step.Branch
      (record {
        fork = fork_in d;
        first = d.first;
        second = d.second;
        some = (some-value (leaf_at s.tree k) (λ (l : Leaf (Node Payload)). (closed_of l.node ≡ false) × IsMoveAt s prices k l.sides kept (move.Divide d)) (planned-so (move.Divide d) same)).2.1.0.some;
        no_less = subst (LeavesNoLess prices.unit kept) same is.below;
        tree = tree;
        dear = of-open s.tree k (λ l. IsMoveAt s prices k l.sides kept (move.Divide d)) (λ l. HasDearWalks (in_hand s) l.sides) (λ l all. all.3) (planned-so (move.Divide d) same);
      })

  -- a leaf at which the search ends
  pub stop-order : (t : Search) (left : Left) (ending : Ending) → m ≡ move.Stop left → ending ≡ ending_of left → t.tree ≡ with_kept k kept s.tree → t.left ≡ Some left →
      IsInOrder prices.unit (in_hand s) (in_hand t) (step.Done ending)
  stop-order t left ending same how tree what = subst (λ (e : Ending). IsInOrder prices.unit (in_hand s) (in_hand t) (step.Done e)) (sym how) (by_left left same what)
    where
      at-own : (other : Left) → m ≡ move.Stop other → (l : Leaf (Node Payload)) × (leaf_at s.tree k ≡ Some l) × ((closed_of l.node ≡ false) × IsMoveAt s prices k l.sides kept (move.Stop other))
      at-own other same_other =
          some-value (leaf_at s.tree k) (λ (l : Leaf (Node Payload)). (closed_of l.node ≡ false) × IsMoveAt s prices k l.sides kept (move.Stop other)) (planned-so (move.Stop other) same_other)

      by_left : (other : Left) → m ≡ move.Stop other → t.left ≡ Some other → IsInOrder prices.unit (in_hand s) (in_hand t) (step.Done (ending_of other))
      by_left Nothing same_other what_other = absurd (at-own Nothing same_other).2.1.1
      by_left (Timing leaf relaxed) same_other what_other =
          works t (step.Done (ending_of (Timing leaf relaxed))) (tree, subst (LeavesAt k) (sym what_other) (at-own (Timing leaf relaxed) same_other).2.1.1.0)
      by_left (Several leaf shipment) same_other what_other =
          works t (step.Done (ending_of (Several leaf shipment))) (tree, subst (LeavesAt k) (sym what_other) (at-own (Several leaf shipment) same_other).2.1.1.0)
      by_left (Unsettled leaf) same_other what_other =
          works t (step.Done (ending_of (Unsettled leaf))) (tree, subst (LeavesAt k) (sym what_other) (at-own (Unsettled leaf) same_other).2.1.1)
