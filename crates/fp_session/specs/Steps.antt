-- What a step of a search did, and how far a search is from its end.
use Rattle.std.specs.Prelude.{ℕ, ◌+◌, ◌*◌, ◌-◌, ◌<◌, ◌≤◌, ◌≡◌, List, [], ◌∷◌, ◌++◌, length, Option, Some, None, IfSome, IsSomeAnd}
use Rattle.std.specs.List.{insert}
use Rattle.fp_tree.specs.Nodes.{Node, fork_of, split_count}
use Rattle.fp_tree.specs.Trees.{Branch, tree_branches}
use Rattle.fp_session_history.specs.declared.endings.Ending.{Ending}
use Rattle.fp_session_history.specs.declared.endings.Left.{Left}
use Rattle.fp_session_history.specs.Notes.{Refinement}
use Rattle.fp_session.specs.declared.payloads.Payload.{Payload}
use Rattle.fp_session.specs.declared.steps.Step.{Step}
use Rattle.fp_session.specs.declared.steps.Step.TheVariants as step
use Rattle.fp_session.specs.Searches.{InHand}
use Rattle.fp_session.specs.StepCauses.{ending_of, open_count}

-- what a search is for, what it may spend, and what the plan cost that it started with, stay
pub record StayFixed (s t : InHand) : Type 0 where
  pub instance : t.instance ≡ s.instance
  pub windows : t.windows ≡ s.windows
  pub budget : t.budget ≡ s.budget
  pub started : t.started ≡ s.started

-- one leaf more is closed
pub record HasClosed (s t : InHand) : Type 0 where
  pub going : t.left ≡ None
  pub leaves : open_count s.tree ≡ open_count t.tree + 1
  pub splits : split_count t.tree ≡ split_count s.tree
  pub branches : tree_branches fork_of t.tree ≡ tree_branches fork_of s.tree
  pub cost : t.cost ≡ s.cost
  pub trace : t.trace ≡ s.trace

-- the incumbent is cheaper
pub record IsCheaperNow (s t : InHand) : Type 0 where
  pub going : t.left ≡ None
  pub leaves : open_count t.tree ≡ open_count s.tree
  pub splits : split_count t.tree ≡ split_count s.tree
  pub branches : tree_branches fork_of t.tree ≡ tree_branches fork_of s.tree
  pub cost : t.cost < s.cost
  pub trace : t.trace ≡ s.trace

-- there is one note more, with what the incumbent cost as the step began
pub record HasRefined (s t : InHand) : Type 0 where
  pub going : t.left ≡ None
  pub leaves : open_count t.tree ≡ open_count s.tree
  pub splits : split_count t.tree ≡ split_count s.tree
  pub branches : tree_branches fork_of t.tree ≡ tree_branches fork_of s.tree
  pub cost : t.cost ≡ s.cost
  pub note : Refinement
  pub trace : t.trace ≡ s.trace ++ (note ∷ [])
  pub incumbent : note.incumbent ≡ s.cost

-- there is one split more among those that there were, with what the incumbent cost as the step began
pub record HasBranched (s t : InHand) : Type 0 where
  pub going : t.left ≡ None
  pub leaves : open_count t.tree ≡ open_count s.tree + 1
  pub splits : split_count t.tree ≡ split_count s.tree + 1
  pub cost : t.cost ≡ s.cost
  pub trace : t.trace ≡ s.trace
  pub place : ℕ
  pub branch : Branch (Node Payload)
  pub branches : tree_branches fork_of t.tree ≡ insert (tree_branches fork_of s.tree) place branch
  pub incumbent : branch.node.payload.incumbent ≡ s.cost

-- the search has ended so
pub record HasEnded (s t : InHand) (ending : Ending) : Type 0 where
  pub left : IsSomeAnd t.left (λ left. ending ≡ ending_of left)
  pub leaves : open_count t.tree ≡ open_count s.tree
  pub splits : split_count t.tree ≡ split_count s.tree
  pub branches : tree_branches fork_of t.tree ≡ tree_branches fork_of s.tree
  pub cost : t.cost ≡ s.cost
  pub trace : t.trace ≡ s.trace

-- what a step did, with what the search had in hand before it and after it
abbrev pub IsStep : InHand → InHand → Step → Type 0
IsStep s t step.Closed = HasClosed s t
IsStep s t step.Better = IsCheaperNow s t
IsStep s t step.Round = HasRefined s t
IsStep s t step.Branch = HasBranched s t
IsStep s t (step.Done ending) = HasEnded s t ending

-- a search after some steps: its plan costs no more, its notes on rounds begin with those that there
-- were, and where it had ended it is the same
pub record HasGoneOn (s t : InHand) : Type 0 where
  pub cost : t.cost ≤ s.cost
  pub more : List Refinement
  pub trace : t.trace ≡ s.trace ++ more
  pub ended : IfSome s.left (λ left. t ≡ s)

-- one step more, where the search hasn't ended
abbrev pub last_step : Option Left → ℕ
last_step None = 1
last_step (Some left) = 0

-- at most so many steps are left of a search: each makes the incumbent cheaper, spends a round,
-- spends a branch and opens one leaf more, closes a leaf, or ends it
abbrev pub steps_left : InHand → ℕ
steps_left s = s.cost + (s.budget.rounds - length s.trace) + 2 * (s.budget.branches - split_count s.tree) + open_count s.tree + last_step s.left
