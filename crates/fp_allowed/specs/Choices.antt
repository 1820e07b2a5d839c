-- What a split at a terminal is chosen by.
use Rattle.std.specs.Prelude.{ℕ, ◌+◌, ◌/◌, ◌≡◌, ◌≢◌, ◌<◌, ◌≤◌, ◌⊎◌, Bool, true, false, length, Option, Some, None, MatchBool, MatchOption}
use Rattle.fp_model.specs.declared.parts.Leg.{Leg}
use Rattle.fp_model.specs.Problem.{Problem}
use Rattle.fp_flatnet.specs.Belonging.{FitsInstance}
use Rattle.fp_flatnet.specs.declared.window_tables.Window.{Window}
use Rattle.fp_longestarcs.specs.Networks.{TimedNetwork, class_count, class_number}
use Rattle.fp_longestarcs.specs.Whole.{IsWholeNetwork}
use Rattle.fp_tree.specs.declared.sides.Split.{Split}
use Rattle.fp_tree.specs.declared.sides.Split.TheVariants.{ByArc, ByTime, ByTrucks, ByWay}
use Rattle.fp_allowed.specs.declared.choices.Leaving.{Leaving}
use Rattle.fp_allowed.specs.declared.choices.Pick.{Pick}
use Rattle.fp_allowed.specs.Allowed.{tails_of}
use Rattle.fp_allowed.specs.Leaving.{OneLeaves}

-- the shipment exists, the windows fit the instance, the network is whole for it, and the row has one bit per class
pub record IsLeaving (l : Leaving) : Type 0 where
  pub shipment : l.shipment < length l.instance.now.shipments
  pub fits : FitsInstance l.instance.now l.windows.now
  pub whole : IsWholeNetwork l.instance.now l.network.now
  pub long : length l.row.now ≡ class_count l.network.now

-- the last moment of a window, 0 where there is none
abbrev pub end_of : Option Window → ℕ
end_of None = 0
end_of (Some w) = w.hi

-- the last moment of the shipment's window for an arc, 0 where there is none
abbrev pub last_moment : (ℕ → ℕ → Option Window) → ℕ → ℕ → ℕ
last_moment windows k arc = end_of (windows k arc)

-- an arc is preferred to another: its window ends later, or both end together and its number is
-- less
abbrev pub IsPreferred : (ℕ → ℕ) → ℕ → ℕ → Type 0
IsPreferred ends arc other = (ends other < ends arc) ⊎ ((ends other ≡ ends arc) × (arc < other))

-- an arc is preferred to each other one by which an allowed class leaves so
abbrev pub IsPreferredToAll : (ℕ → ℕ) → (Leg → Bool) → (Leg → Type 0) → ℕ → Type 0
IsPreferredToAll ends allowed Leaves arc = (other : Leg) → OneLeaves allowed Leaves other → other.arc ≢ arc → IsPreferred ends arc other.arc

-- an allowed class leaves so by the arc, which is preferred to all others, and it is told whether
-- all that leave so are by this arc
pub record IsPicked (ends : ℕ → ℕ) (allowed : Leg → Bool) (Leaves : Leg → Type 0) (pick : Pick) : Type 0 where
  pub one : Leg
  pub leaves : OneLeaves allowed Leaves one
  pub by : one.arc ≡ pick.arc
  pub preferred : IsPreferredToAll ends allowed Leaves pick.arc
  pub others : MatchBool pick.alone ((other : Leg) → OneLeaves allowed Leaves other → other.arc ≡ pick.arc)
      ((other : Leg) × OneLeaves allowed Leaves other × (other.arc ≢ pick.arc))

-- an arc is picked so, or no allowed class leaves so
abbrev pub Picks : (ℕ → ℕ) → (Leg → Bool) → (Leg → Type 0) → Option Pick → Type 0
Picks ends allowed Leaves o = MatchOption o ((c : Leg) → OneLeaves allowed Leaves c → ⊥) (IsPicked ends allowed Leaves)

-- a pick is by one more arc, and by no arc before it, or it is by the one of two arcs that ends
-- later, the old one at a tie
abbrev pub IsBetter : (ℕ → ℕ) → Option Pick → ℕ → Pick → Type 0
IsBetter ends None arc pick = (pick.arc ≡ arc) × (pick.alone ≡ true)
IsBetter ends (Some old) arc pick =
    (((pick.arc ≡ arc) × (ends old.arc < ends arc)) ⊎ ((pick.arc ≡ old.arc) × (ends arc ≤ ends old.arc))) × (pick.alone ≡ false)

-- of two allowed classes that leave so one is before a point, and the other is that point's
pub record IsParted (allowed : Leg → Bool) (Leaves : Leg → Type 0) (at : ℕ) : Type 0 where
  pub one : Leg
  pub two : Leg
  pub one_leaves : OneLeaves allowed Leaves one
  pub two_leaves : OneLeaves allowed Leaves two
  pub before : one.depart < at
  pub from : two.depart ≡ at

-- a point is that of the middle one of an arc's allowed classes: the first one whose number is not
-- below the half of the first and the last one's, rounded up
pub record IsMiddle (net : TimedNetwork) (allowed : Leg → Bool) (arc at : ℕ) : Type 0 where
  pub first : Leg
  pub last : Leg
  pub middle : Leg
  pub first_by : OneLeaves allowed (λ c. c.arc ≡ arc) first
  pub last_by : OneLeaves allowed (λ c. c.arc ≡ arc) last
  pub middle_by : OneLeaves allowed (λ c. c.arc ≡ arc) middle
  pub between : (other : Leg) → OneLeaves allowed (λ c. c.arc ≡ arc) other → (class_number net first ≤ class_number net other) × (class_number net other ≤ class_number net last)
  pub half : (class_number net first + class_number net last + 1) / 2 ≤ class_number net middle
  pub least : (other : Leg) → OneLeaves allowed (λ c. c.arc ≡ arc) other → (class_number net first + class_number net last + 1) / 2 ≤ class_number net other →
      class_number net middle ≤ class_number net other
  pub point : middle.depart ≡ at

-- no two allowed classes leave so
abbrev pub OneAtMost : (Leg → Bool) → (Leg → Type 0) → Type 0
OneAtMost allowed Leaves = (c e : Leg) → OneLeaves allowed Leaves c → OneLeaves allowed Leaves e → c ≡ e

-- of two allowed classes that leave so one is by an arc, and the other is not
pub record AreByTwo (allowed : Leg → Bool) (Leaves : Leg → Type 0) (arc : ℕ) : Type 0 where
  pub one : Leg
  pub two : Leg
  pub one_leaves : OneLeaves allowed Leaves one
  pub two_leaves : OneLeaves allowed Leaves two
  pub by : one.arc ≡ arc
  pub not_by : two.arc ≢ arc

-- a split of the shipment with the number k parts allowed classes that leave a terminal
abbrev pub PartsClasses : Problem → (Leg → Bool) → ℕ → ℕ → Split → Type 0
PartsClasses p allowed k terminal (ByArc shipment arc) = (shipment ≡ k) × AreByTwo allowed (λ c. tails_of p c.arc ≡ terminal) arc
PartsClasses p allowed k terminal (ByTime shipment place at) =
    (shipment ≡ k) × (place ≡ terminal) × IsParted allowed (λ c. tails_of p c.arc ≡ terminal) at
PartsClasses p allowed k terminal (ByTrucks arc point until most) = ⊥
PartsClasses p allowed k terminal (ByWay shipment arc) = (shipment ≡ k) × AreByTwo allowed (λ c. tails_of p c.arc ≡ terminal) arc

-- which split is taken at a terminal: by the arc that is preferred to all others, or, where all
-- allowed classes leave it by one arc, by the point of the middle one; none is by trucks or by a way
abbrev pub IsTaken : Problem → (ℕ → ℕ → Option Window) → TimedNetwork → (Leg → Bool) → ℕ → ℕ → Split → Type 0
IsTaken p windows net allowed k terminal (ByArc shipment arc) =
    AreByTwo allowed (λ c. tails_of p c.arc ≡ terminal) arc × IsPreferredToAll (last_moment windows k) allowed (λ c. tails_of p c.arc ≡ terminal) arc
IsTaken p windows net allowed k terminal (ByTime shipment place at) =
    (arc : ℕ) × ((other : Leg) → OneLeaves allowed (λ c. tails_of p c.arc ≡ terminal) other → other.arc ≡ arc) × IsMiddle net allowed arc at
IsTaken p windows net allowed k terminal (ByTrucks arc point until most) = ⊥
IsTaken p windows net allowed k terminal (ByWay shipment arc) = ⊥
