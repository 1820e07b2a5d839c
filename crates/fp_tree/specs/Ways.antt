-- The way from the root to a node, and the trees that are still to come after it.
use Rattle.std.specs.Prelude.{ℕ, ◌≡◌, ◌+◌, ◌<◌, true, false, List, [], ◌∷◌, ◌++◌, length, map, drop, HoldsAt, Option, if◌then◌else◌}
use Rattle.std.specs.List.{AllByRecursion}
use Rattle.fp_tree.specs.declared.sides.Side.{Side}
use Rattle.fp_tree.specs.declared.ways.Step.{Step}
use Rattle.fp_tree.specs.Sides.{Fork, first, second}
use Rattle.fp_tree.specs.Trees.{Leaf, leaves_of}

-- The fork at which a step is taken.
abbrev pub fork_at : Step → Fork
fork_at step = record { split = step.split; tail = step.tail }

-- The side by which a step goes.
abbrev pub side_of : Step → Side
side_of step = if step.later then second (fork_at step) else first (fork_at step)

-- The sides on the way.
abbrev pub way_sides : List Step → List Side
way_sides way = map side_of way

-- The sides of the trees to come after a way, nearest first, where `before` has the sides on the
-- way to its first step.
abbrev pub pending_after : List Side → List Step → List (List Side)
pending_after before [] = []
pending_after before (step ∷ way) =
    pending_after (before ++ (side_of step ∷ [])) way ++ (if step.later then [] else (before ++ (second (fork_at step) ∷ [])) ∷ [])

-- The sides of the trees to come: the second side of each step that goes by its first.
abbrev pub pending_on : List Step → List (List Side)
pending_on way = pending_after [] way

-- The leaves among the nodes that are left, where the way leads to the first of them.
abbrev pub leaves_on : {X : Type 0} → (X → Option Fork) → List Step → List X → List (Leaf X)
leaves_on fork_of way nodes = leaves_of fork_of (way_sides way ∷ pending_on way) nodes

-- All steps go by their second sides.
abbrev pub AreBySecond : List Step → Type 0
AreBySecond way = AllByRecursion (λ step. step.later ≡ true) way

-- The step at that place goes by its first side, and all after it by their second.
pub record IsLastByFirst (way : List Step) (place : ℕ) : Type 0 where
  pub there : place < length way
  pub by_first : HoldsAt (λ step. step.later ≡ false) way place
  pub rest : AreBySecond (drop (place + 1) way)

-- The new way is the old one up to its last step by a first side, which now goes by its second.
pub record IsTurned (old new : List Step) : Type 0 where
  pub kept : List Step
  pub step : Step
  pub passed : List Step
  pub old_is : old ≡ kept ++ step ∷ passed
  pub by_first : step.later ≡ false
  pub by_second : AreBySecond passed
  pub new_is : new ≡ kept ++ (record step { later = true }) ∷ []
