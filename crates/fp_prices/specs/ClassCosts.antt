-- Costs of the classes of a network for one shipment, in parts of a unit of money, of which the scale makes one.
use Rattle.std.specs.Prelude.{ℕ, ◌+◌, ◌*◌, ◌<◌, ◌≤◌, ◌≡◌, List, length, Bool, true, Option, Some, None, MatchOption, if◌then◌else◌}
use Rattle.fp_labels.specs.Walks.{cost_of}
use Rattle.fp_model.specs.declared.parts.Leg.{Leg}
use Rattle.fp_model.specs.declared.parts.Shipment.{Shipment}
use Rattle.fp_model.specs.Problem.{Problem, arc_at}
use Rattle.fp_longestarcs.specs.Classes.{head_of}
use Rattle.fp_longestarcs.specs.Networks.{TimedNetwork, IsClass, class_number}
use Rattle.fp_prices.specs.Leaves.{HasNoWalkBy, IsLeastCostBy}

-- each class of the network has at its number its price and the shipment's flow, or nothing where it isn't allowed
abbrev pub HoldsClassCosts : Problem → TimedNetwork → (Leg → Bool) → (Leg → ℕ) → (size : ℕ) → List (Option ℕ) → Type 0
HoldsClassCosts p net allowed price size costs =
    (c : Leg) → IsClass net c →
    cost_of costs (class_number net c) ≡ (if allowed c then Some (price c + p.scale * (arc_at p c.arc).freight * size) else None)

-- what is allowed are classes of the network
abbrev pub AllowsClasses : TimedNetwork → (Leg → Bool) → Type 0
AllowsClasses net allowed = (c : Leg) → allowed c ≡ true → IsClass net c

-- from a number on, each edge is free
abbrev pub IsFree : ℕ → List (Option ℕ) → Type 0
IsFree first costs = (e : ℕ) → first ≤ e → e < length costs → cost_of costs e ≡ Some 0

-- the least cost over the allowed walks of a shipment by heads, or that it has none
abbrev pub IsLeastBy : Problem → (Leg → ℕ) → (Leg → Bool) → Shipment → (Leg → ℕ) → Option ℕ → Type 0
IsLeastBy p heads allowed s price o =
    MatchOption o (HasNoWalkBy p heads allowed s) (IsLeastCostBy p heads allowed s price)

-- the least cost over its allowed timed walks, or that it has none
abbrev pub IsLeastOver : Problem → (ℕ → List ℕ) → (Leg → Bool) → Shipment → (Leg → ℕ) → Option ℕ → Type 0
IsLeastOver p points allowed s price o = IsLeastBy p (head_of p points) allowed s price o
