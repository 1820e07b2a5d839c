-- Walks over allowed classes by their heads, of which timed walks are a case.
use Rattle.std.specs.Prelude.{ℕ, ◌≤◌, ◌≡◌, List, [], ◌∷◌, Bool, true}
use Rattle.std.specs.List.{AllByRecursion}
use Rattle.fp_model.specs.declared.parts.Leg.{Leg}
use Rattle.fp_model.specs.declared.parts.Shipment.{Shipment}
use Rattle.fp_model.specs.Problem.{Problem}
use Rattle.fp_model.specs.Routes.{Leads, arcs_of}
use Rattle.fp_longestarcs.specs.Classes.{head_of}

-- the first class stands at `ready` or later, and each next one at or after the head of the class
-- before it
abbrev pub FollowsHeads : (Leg → ℕ) → ℕ → List Leg → Type 0
FollowsHeads heads ready [] = Unit {0}
FollowsHeads heads ready (c ∷ walk) = (ready ≤ c.depart) × FollowsHeads heads (heads c) walk

-- an allowed walk of a shipment by heads: allowed classes whose arcs lead from its origin to its
-- destination, each at or after the head of the one before it
pub record IsWalkBy (p : Problem) (heads : Leg → ℕ) (allowed : Leg → Bool) (s : Shipment) (walk : List Leg) : Type 0 where
  pub leads : Leads p s.from (arcs_of walk) s.to
  pub allowed_all : AllByRecursion (λ c. allowed c ≡ true) walk
  pub follows : FollowsHeads heads 0 walk

-- an allowed timed walk: one by the heads of the classes
abbrev pub IsTimedWalk : Problem → (ℕ → List ℕ) → (Leg → Bool) → Shipment → List Leg → Type 0
IsTimedWalk p points allowed s walk = IsWalkBy p (head_of p points) allowed s walk
