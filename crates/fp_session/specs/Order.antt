-- In which order a step of a search does what it may: its least leaf first, and a round before a split.
use Rattle.std.specs.Prelude.{ℕ, ◌≤◌, ◌≡◌, List, [], ◌∷◌, ◌++◌, length, true, false, All, Option, None, Some, IsSomeAnd}
use Rattle.fp_base_lists.specs.Distinct.{AreDistinct}
use Rattle.fp_model.specs.declared.parts.Leg.{Leg}
use Rattle.fp_model.specs.Costs.{cost}
use Rattle.fp_relaxmodel.specs.Terminals.{terminals_on}
use Rattle.fp_tree.specs.declared.sides.Side.{Side}
use Rattle.fp_tree.specs.Nodes.{IsBestOpen, Node, close_leaf, closed_of, divide_leaf, fork_of, leaf_at, open_leaf, put_leaf, value_of}
use Rattle.fp_tree.specs.Sides.{Fork}
use Rattle.fp_tree.specs.Trees.{Leaf, tree_leaves, with_leaf}
use Rattle.fp_session_history.specs.declared.endings.Ending.TheVariants.{Optimal, Unfinished}
use Rattle.fp_session_history.specs.declared.endings.Left.{Left}
use Rattle.fp_session_history.specs.declared.endings.Left.TheVariants.{Nothing, Several, Timing, Unsettled}
use Rattle.fp_session_history.specs.Notes.{Refinement, points_of}
use Rattle.fp_session_history.specs.Solutions.{AreWalksUnder}
use Rattle.fp_session.specs.declared.kept.Kept.{Kept}
use Rattle.fp_session.specs.declared.payloads.Payload.{Payload}
use Rattle.fp_session.specs.declared.steps.Step.{Step}
use Rattle.fp_session.specs.declared.steps.Step.TheVariants as step
use Rattle.fp_session.specs.Nodes.{HasNoMore, IsNoLess, IsRaisedTo}
use Rattle.fp_session.specs.Searches.{InHand}

-- the points of each terminal as of the last round
abbrev pub points_had : InHand → ℕ → List ℕ
points_had h = points_of (record { problem = h.instance; windows = h.windows; trace = h.trace; tables = []; spans = []; gifts = []; unit = None }) (length h.trace)

-- a walk of each shipment under the sides of a leaf, over these points
abbrev pub AreWalksHad : InHand → List Side → List (List Leg) → Type 0
AreWalksHad h sides walks = AreWalksUnder h.instance h.windows (points_had h) sides walks

-- such walks of which no cheaper plan can come: a terminal stands twice on one of them, or they cost at least what the incumbent does
pub record HasDearWalks (h : InHand) (sides : List Side) : Type 0 where
  pub walks : List (List Leg)
  pub under : AreWalksHad h sides walks
  pub dear : All (λ walk. AreDistinct (terminals_on h.instance walk)) walks → h.cost ≤ cost h.instance walks

-- of the leaf with a number: P of its sides
abbrev pub AtLeafSides : List (Node Payload) → ℕ → (List Side → Type 0) → Type 0
AtLeafSides nodes leaf P = IsSomeAnd (leaf_at nodes leaf) (λ (l : Leaf (Node Payload)). P l.sides)

-- the tree where this is kept of the leaf with a number, and all else as it was
abbrev pub with_kept : ℕ → Kept → List (Node Payload) → List (Node Payload)
with_kept leaf kept nodes = with_leaf fork_of (put_leaf kept.payload kept.value) leaf nodes

-- the tree where that leaf is closed
abbrev pub with_closed : ℕ → List (Node Payload) → List (Node Payload)
with_closed leaf nodes = with_leaf fork_of close_leaf leaf nodes

-- the tree where it is divided, and this is kept of the two leaves below it
abbrev pub with_divided : ℕ → Fork → Kept → Kept → List (Node Payload) → List (Node Payload)
with_divided leaf fork first second nodes = with_leaf fork_of (divide_leaf fork (open_leaf first.payload first.value) (open_leaf second.payload second.value)) leaf nodes

-- what is kept of a leaf that becomes a split: also what the incumbent costs then
abbrev pub with_cost : ℕ → Kept → Kept
with_cost cost kept = record { payload = record kept.payload { incumbent = cost }; value = kept.value }

-- a round was called for by walks under the sides of the leaf
pub record HasRoundAt (s t : InHand) (leaf : ℕ) (kept : Kept) : Type 0 where
  pub tree : t.tree ≡ with_kept leaf kept s.tree
  pub note : Refinement
  pub trace : t.trace ≡ s.trace ++ (note ∷ [])
  pub under : AtLeafSides s.tree leaf (λ sides. AreWalksHad s sides note.relaxed)

-- the leaf was divided, of whose walks no cheaper plan can come: such walks would have called for a round; where spans are sought, which
-- a unit tells, or its price is steady, each of the two leaves below is empty or worth no less than it was
pub record HasSplitAt (unit : Option ℕ) (s t : InHand) (leaf : ℕ) (kept : Kept) : Type 0 where
  pub fork : Fork
  pub first : Kept
  pub second : Kept
  pub some : kept.payload.empty ≡ false
  pub tree : t.tree ≡ with_divided leaf fork first second (with_kept leaf (with_cost s.cost kept) s.tree)
  pub dear : AtLeafSides s.tree leaf (HasDearWalks s)
  pub no_less : IsRaisedTo unit kept first × IsRaisedTo unit kept second

-- what was left was left at the leaf
abbrev pub LeavesAt : ℕ → Option Left → Type 0
LeavesAt leaf None = ⊥
LeavesAt leaf (Some Nothing) = ⊥
LeavesAt leaf (Some (Timing at relaxed)) = at ≡ leaf
LeavesAt leaf (Some (Several at shipment)) = at ≡ leaf
LeavesAt leaf (Some (Unsettled at)) = at ≡ leaf

-- what a step makes of the leaf at which it works, of which this is kept
abbrev pub IsWorkAt : Option ℕ → InHand → InHand → ℕ → Kept → Step → Type 0
IsWorkAt unit s t leaf kept step.Closed = t.tree ≡ with_closed leaf (with_kept leaf kept s.tree)
IsWorkAt unit s t leaf kept step.Better = t.tree ≡ with_kept leaf kept s.tree
IsWorkAt unit s t leaf kept step.Round = HasRoundAt s t leaf kept
IsWorkAt unit s t leaf kept step.Branch = HasSplitAt unit s t leaf kept
IsWorkAt unit s t leaf kept (step.Done ending) = (t.tree ≡ with_kept leaf kept s.tree) × LeavesAt leaf t.left

-- a step works at the leaf of least value among those that aren't closed, the first at a tie; all other leaves stay as they are, and its
-- own value doesn't fall, unless it is found empty
pub record WorksAtLeast (unit : Option ℕ) (s t : InHand) (did : Step) : Type 0 where
  pub leaf : ℕ
  pub least : IsBestOpen s.tree leaf
  pub kept : Kept
  pub no_less : kept.payload.empty ≡ false → IsSomeAnd (leaf_at s.tree leaf) (λ (l : Leaf (Node Payload)). HasNoMore l kept)
  pub work : IsWorkAt unit s t leaf kept did

-- all leaves are closed, and the tree stays
pub record HasNoneOpen (s t : InHand) : Type 0 where
  pub tree : t.tree ≡ s.tree
  pub closed : All (λ (l : Leaf (Node Payload)). closed_of l.node ≡ true) (tree_leaves fork_of s.tree)

-- a step does so, unless it ends the search since no leaf is open
abbrev pub IsInOrder : Option ℕ → InHand → InHand → Step → Type 0
IsInOrder unit s t step.Closed = WorksAtLeast unit s t step.Closed
IsInOrder unit s t step.Better = WorksAtLeast unit s t step.Better
IsInOrder unit s t step.Round = WorksAtLeast unit s t step.Round
IsInOrder unit s t step.Branch = WorksAtLeast unit s t step.Branch
IsInOrder unit s t (step.Done Optimal) = HasNoneOpen s t
IsInOrder unit s t (step.Done (Unfinished spent)) = WorksAtLeast unit s t (step.Done (Unfinished spent))

-- each leaf of a tree is empty, or worth no less than so much
abbrev pub AreWorthLeast : ℕ → List (Node Payload) → Type 0
AreWorthLeast least nodes = All (λ (l : Leaf (Node Payload)). IsNoLess least (record { payload = l.node.payload; value = value_of l.node })) (tree_leaves fork_of nodes)

-- what the leaves of a tree are worth that aren't empty, the least of it, doesn't fall
abbrev pub KeepLeast : (old new : List (Node Payload)) → Type 0
KeepLeast old new = (least : ℕ) → AreWorthLeast least old → AreWorthLeast least new
