-- Walks that have an edge with each of some tags, and the least cost of one.
use Rattle.std.specs.Prelude.{ℕ, ◌≡◌, ◌≤◌, List, Option, None, Some, slice_index_or}
use Rattle.std.specs.List.{AllByRecursion}
use Rattle.fp_base_lists.specs.Elements.{AnyByRecursion}
use Rattle.fp_labels.specs.declared.graphs.Edge.{Edge}
use Rattle.fp_labels.specs.Walks.{IsOpen, IsWalk, Leads, walk_cost}

-- the tag of an edge, if it has one, where `tags` has those of all edges
abbrev pub tag_of : List (Option ℕ) → ℕ → Option ℕ
tag_of tags e = slice_index_or tags e None

-- an edge has a tag
abbrev pub HasTag : List (Option ℕ) → ℕ → ℕ → Type 0
HasTag tags tag e = tag_of tags e ≡ Some tag

-- a walk has an edge with each of the tags that are wanted
abbrev pub HasTags : List (Option ℕ) → List ℕ → List ℕ → Type 0
HasTags tags wanted walk = AllByRecursion (λ tag. AnyByRecursion (HasTag tags tag) walk) wanted

-- the least cost of a walk from one node to another that has these tags: some such walk over open edges
-- costs it, and none costs less
pub record IsLeastTagged (edges : List Edge) (costs : List (Option ℕ)) (tags : List (Option ℕ)) (wanted : List ℕ) (here there cost : ℕ) : Type 0 where
  pub walk : List ℕ
  pub goes : IsWalk edges costs here there walk cost
  pub tagged : HasTags tags wanted walk
  pub least : (other : List ℕ) → Leads edges here other there → IsOpen costs other → HasTags tags wanted other → cost ≤ walk_cost costs other

-- that least cost, or nothing where no walk over open edges has these tags
abbrev pub IsTaggedDistance : List Edge → List (Option ℕ) → List (Option ℕ) → List ℕ → ℕ → ℕ → Option ℕ → Type 0
IsTaggedDistance edges costs tags wanted here there None =
    (walk : List ℕ) → Leads edges here walk there → IsOpen costs walk → HasTags tags wanted walk → ⊥
IsTaggedDistance edges costs tags wanted here there (Some cost) = IsLeastTagged edges costs tags wanted here there cost
