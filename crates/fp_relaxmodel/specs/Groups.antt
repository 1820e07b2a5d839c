-- Groups of legs of one class.
use Rattle.std.specs.Prelude.{◌≡◌, List, ◌∷◌, true, All, AllPairs, Contains}
use Rattle.fp_model.specs.declared.parts.Leg.{Leg}
use Rattle.fp_model.specs.declared.parts.Member.{Member}
use Rattle.fp_model.specs.Costs.{all_legs, has_leg}
use Rattle.fp_model.specs.Members.{MemberComesBefore, members_in}

-- the first member of a group comes before that of another
abbrev pub StartsBefore : List Member → List Member → Type 0
StartsBefore (m ∷ group) (n ∷ other) = MemberComesBefore m n
StartsBefore group other = ⊥

-- a class that occurs on the walks, and all members that have it
pub record IsGroup (walks : List (List Leg)) (group : List Member) : Type 0 where
  pub class : Leg
  pub occurs : has_leg class (all_legs walks) ≡ true
  pub exact : group ≡ members_in walks class

-- the groups of the classes on walks: each is a group of one class, their first members ascend, and
-- each class that occurs has one
pub record AreGroups (walks : List (List Leg)) (groups : List (List Member)) : Type 0 where
  pub each : All (IsGroup walks) groups
  pub ascending : AllPairs StartsBefore groups
  pub every : (c : Leg) → has_leg c (all_legs walks) ≡ true → Contains groups (members_in walks c)
