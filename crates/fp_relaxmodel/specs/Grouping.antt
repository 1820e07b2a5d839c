-- What a grouping of legs has so far.
use Rattle.std.specs.Prelude.{List, [], ◌∷◌, ◌++◌, if◌then◌else◌}
use Rattle.std.specs.declared.alloc.Global.{Global}
use Rattle.std.specs.declared.vec.Vec.{Vec}
use Rattle.fp_model.specs.declared.parts.Leg.{Leg}
use Rattle.fp_model.specs.declared.parts.Member.{Member}
use Rattle.fp_model.specs.Costs.{same_leg}
use Rattle.fp_longestarcs.specs.declared.stops.Stop.{Stop}
use Rattle.fp_model.specs.Members.{NamedLeg}
use Rattle.fp_longestarcs.specs.Stops.{leg_of}

-- a class and those of its members that were met
pub record Met : Type 0 where
  pub class : Leg
  pub members : List Member

-- the classes that were met, each with its members
abbrev pub groups_so_far : List Stop → List (Vec Member Global) → List Met
groups_so_far (stop ∷ stops) (group ∷ groups) =
    record { class = leg_of stop; members = group.items } ∷ groups_so_far stops groups
groups_so_far stops groups = []

-- one more member of a class, whose group is the last one where the class is new
abbrev pub with_member : Leg → Member → List Met → List Met
with_member c m [] = record { class = c; members = m ∷ [] } ∷ []
with_member c m (g ∷ groups) =
    if same_leg g.class c then record g { members = g.members ++ (m ∷ []) } ∷ groups else g ∷ with_member c m groups

-- the groups after each of the legs in turn
abbrev pub after : List NamedLeg → List Met → List Met
after [] groups = groups
after (x ∷ legs) groups = after legs (with_member x.leg x.member groups)
