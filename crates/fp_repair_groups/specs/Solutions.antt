-- What a solution holds.
use Rattle.std.specs.Prelude.{ℕ, List}
use Rattle.fp_base_lists.specs.Vectors.{lists_of}
use Rattle.fp_repair_groups.specs.declared.groups.Group.{Group}
use Rattle.fp_repair_groups.specs.declared.groups.GroupedLeg.{GroupedLeg}
use Rattle.fp_repair_groups.specs.declared.solutions.Place.{Place}
use Rattle.fp_repair_groups.specs.declared.solutions.Solution.{Solution}

-- the legs of the routes, the groups, what they cost, the places of each group's legs, and the numbers of the free groups: all that a
-- solution holds but the room of its lists
pub record Content : Type 0 where
  pub routes : List (List GroupedLeg)
  pub groups : List Group
  pub cost : ℕ
  pub members : List (List Place)
  pub free : List ℕ

-- what a solution holds
abbrev pub content : Solution → Content
content s = record {
  routes = lists_of s.routes.items;
  groups = s.groups.items;
  cost = s.cost;
  members = lists_of s.members.items;
  free = s.free.items;
}
