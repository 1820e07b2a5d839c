-- The plan that a search begins with that keeps legs: each shipment goes by its kept legs, and then
-- on by a walk of least time that avoids the terminals where it was, as early as it can.
use Rattle.std.specs.Prelude.{ℕ, ◌+◌, ◌≤◌, ◌<◌, ◌≡◌, ◌≢◌, false, List, [], ◌∷◌, ◌++◌, length, map, Option, None, Some, if◌then◌else◌}
use Rattle.std.specs.List.{AllByRecursion}
use Rattle.fp_base_lists.specs.Membership.{list_has}
use Rattle.fp_base_lists.specs.Numbered.{AllFrom}
use Rattle.fp_model.specs.declared.parts.Arc.{Arc}
use Rattle.fp_model.specs.declared.parts.Leg.{Leg}
use Rattle.fp_model.specs.declared.parts.Shipment.{Shipment}
use Rattle.fp_model.specs.Numbered.{shipment_at}
use Rattle.fp_model.specs.Plans.{IsPlan}
use Rattle.fp_model.specs.Problem.{Problem, arc_at}
use Rattle.fp_model.specs.Routes.{Carries, Leads, arcs_of, ends_of, step, walk_time}
use Rattle.fp_flatnet.specs.ArcGraphs.{arc_step}
use Rattle.fp_replan.specs.declared.kept.Kept.{Kept}
use Rattle.fp_replan.specs.declared.starts.Started.{Started}
use Rattle.fp_replan.specs.declared.starts.Started.TheVariants as started
use Rattle.fp_replan.specs.KeptLegs.{BeginWith, Keeps, kept_of, place_after, places_seen}
use Rattle.fp_replan.specs.KeptWindows.{CanBeKept}

-- a walk enters none of the terminals
abbrev pub Avoids : Problem → (gone : List ℕ) → List ℕ → Type 0
Avoids p gone arcs = AllByRecursion (λ t. list_has gone t ≡ false) (ends_of p arcs)

-- some walk of least time from here to there begins with the arc, among those that avoid the
-- terminals
pub record BeginsPast (p : Problem) (gone : List ℕ) (here there a : ℕ) : Type 0 where
  pub rest : List ℕ
  pub leads : Leads p here (a ∷ rest) there
  pub avoids : Avoids p gone (a ∷ rest)
  pub least : (others : List ℕ) → Leads p here others there → Avoids p gone others → walk_time p (a ∷ rest) ≤ walk_time p others

-- the arc begins such a walk, and no arc of a lower number does
pub record BeginsPastFirst (p : Problem) (gone : List ℕ) (here there a : ℕ) : Type 0 where
  pub begins : BeginsPast p gone here there a
  pub first : (b : ℕ) → b < a → BeginsPast p gone here there b → ⊥

-- legs from here to there, each by the first arc that begins a walk of least time among those that
-- avoid the terminals: the first leaves when ready, each next one a step after the one before
abbrev pub IsOnward : Problem → (gone : List ℕ) → (there here ready : ℕ) → List Leg → Type 0
IsOnward p gone there here ready [] = here ≡ there
IsOnward p gone there here ready (l ∷ legs) =
    (here ≢ there) × BeginsPastFirst p gone here there l.arc × (l.depart ≡ ready) × IsOnward p gone there (arc_at p l.arc).to (ready + step p l.arc) legs

-- when a shipment that is ready at a time can leave after legs
abbrev pub ready_after : Problem → (ready : ℕ) → List Leg → ℕ
ready_after p ready [] = ready
ready_after p ready (l ∷ legs) = ready_after p (l.depart + step p l.arc) legs

-- a route of a shipment that begins with legs, and goes on past terminals
abbrev pub GoesOnPast : Problem → (gone : List ℕ) → Shipment → (front legs : List Leg) → Type 0
GoesOnPast p gone s front legs = (rest : List Leg) × (legs ≡ front ++ rest)
    × IsOnward p gone s.to (place_after p s.from front) (ready_after p s.release front) rest

-- a route of a shipment that begins with legs, and goes on past the terminals where it was
abbrev pub GoesOnFrom : Problem → Shipment → (front legs : List Leg) → Type 0
GoesOnFrom p s front legs = GoesOnPast p (places_seen p s.from front) s front legs

-- each shipment has such a route
abbrev pub GoOn : Problem → List Kept → List (List Leg) → Type 0
GoOn p kept routes = AllFrom (λ k legs. GoesOnFrom p (shipment_at p k) (kept_of kept k) legs) 0 routes

-- over some denominator, a shipment has legs that carry it and begin with others
abbrev pub HasLegsFrom : Problem → Shipment → List Leg → Type 0
HasLegsFrom p s front = (d : ℕ) × (legs : List Leg) × (1 ≤ d) × Carries p d s legs × BeginWith d front legs

-- over some denominator, a shipment has legs that carry it, begin with others and enter none of the
-- terminals
abbrev pub HasLegsPast : Problem → (gone : List ℕ) → Shipment → List Leg → Type 0
HasLegsPast p gone s front = (d : ℕ) × (legs : List Leg) × (1 ≤ d) × Carries p d s legs × BeginWith d front legs × Avoids p gone (arcs_of legs)

-- the first shipment that has no legs, over any denominator, that begin with its kept legs
pub record IsStuck (p : Problem) (kept : List Kept) (k : ℕ) : Type 0 where
  pub exists : k < length p.shipments
  pub earlier : (i : ℕ) → i < k → HasLegsFrom p (shipment_at p i) (kept_of kept i)
  pub none : HasLegsFrom p (shipment_at p k) (kept_of kept k) → ⊥

-- what a start is: a plan that keeps the legs and goes on from them, or which is the first shipment
-- that is stuck, and that no plan keeps them
abbrev pub IsStarted : Problem → List Kept → Started → Type 0
IsStarted p kept (started.Plan routes) = IsPlan p 1 routes × Keeps kept 1 routes × GoOn p kept routes
IsStarted p kept (started.Stuck k) = IsStuck p kept k × (CanBeKept p kept → ⊥)

-- the step of an arc as the cost of its edge, and nothing where it enters one of the terminals
abbrev pub open_cost : Problem → (gone : List ℕ) → Arc → Option ℕ
open_cost p gone a = if list_has gone a.to then None else Some (arc_step p a)

-- so of each arc
abbrev pub open_costs : Problem → (gone : List ℕ) → List (Option ℕ)
open_costs p gone = map (open_cost p gone) p.arcs

-- two costs are there, and are so much together
abbrev pub AddsTo : ℕ → Option ℕ → Option ℕ → Type 0
AddsTo left (Some cost) (Some onward) = cost + onward ≡ left
AddsTo left (Some cost) None = ⊥
AddsTo left None onward = ⊥
