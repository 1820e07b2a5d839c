-- A plan that obeys sides obeys fewer of them, and one that obeys two lists of sides obeys both together.
use Rattle.std.proofs.Common.{ℕ, zero, suc, ◌+◌, List, [], ◌∷◌, ◌++◌, map, take}
use Rattle.std.specs.Prelude.{Option, Some, None}
use Rattle.std.specs.List.{AllByRecursion}
use Rattle.fp_base_lists.specs.Numbered.{AllFrom}
use Rattle.fp_base_lists.proofs.Elements.{AllByRecursion-append, AllByRecursion-both, AllByRecursion-weaker}
use Rattle.fp_model.specs.declared.parts.Leg.{Leg}
use Rattle.fp_model.specs.Problem.{Problem}
use Rattle.fp_model.specs.TruckCounts.{trucks_between}
use Rattle.fp_tree.specs.declared.sides.Side.{Side}
use Rattle.fp_tree.specs.Sides.{HasCount, HasWay, Meets, MeetsAll}
use Rattle.fp_allowed.specs.Allowed.{PlanObeys, exit_of}
use Rattle.fp_certificate_lines.specs.Valuations.{first_sides}

-- what holds of all elements of a list holds of the first ones
all-first : {X : Type 0} (P : X → Type 0) (count : ℕ) (xs : List X) → AllByRecursion P xs → AllByRecursion P (take count xs)
all-first P zero xs all = tt
all-first P (suc count) [] all = tt
all-first P (suc count) (x ∷ xs) all = (all.0, all-first P count xs all.1)

-- and of those before others
all-front : {X : Type 0} (P : X → Type 0) (xs ys : List X) → AllByRecursion P (xs ++ ys) → AllByRecursion P xs
all-front P [] ys all = tt
all-front P (x ∷ xs) ys all = (all.0, all-front P xs ys all.1)

-- of the sides under which a leaf is valued
all-valued : (P : Side → Type 0) (count : Option ℕ) (sides : List Side) → AllByRecursion P sides → AllByRecursion P (first_sides count sides)
all-valued P None sides all = all
all-valued P (Some count) sides all = all-first P count sides all

module _ (p : Problem) (d : ℕ) where
  -- each leg of each shipment meets sides
  abbrev LegsMeet : List Side → ℕ → List (List Leg) → Type 0
  LegsMeet sides k routes = AllFrom (λ j r. AllByRecursion (λ (l : Leg). MeetsAll d j sides (exit_of p l)) r) k routes

  legs-fewer : (sides fewer : List Side) → ((P : Side → Type 0) → AllByRecursion P sides → AllByRecursion P fewer) → (k : ℕ) (routes : List (List Leg)) → LegsMeet sides k routes → LegsMeet fewer k routes
  legs-fewer sides fewer each k [] meet = tt
  legs-fewer sides fewer each k (r ∷ routes) meet = (
    AllByRecursion-weaker (λ (l : Leg). MeetsAll d k sides (exit_of p l)) (λ (l : Leg). MeetsAll d k fewer (exit_of p l)) (λ l. each (Meets d k (exit_of p l))) r meet.0,
    legs-fewer sides fewer each (k + 1) routes meet.1,
  )

  legs-append : (sides more : List Side) (k : ℕ) (routes : List (List Leg)) → LegsMeet sides k routes → LegsMeet more k routes → LegsMeet (sides ++ more) k routes
  legs-append sides more k [] meet others = tt
  legs-append sides more k (r ∷ routes) meet others = (
    AllByRecursion-weaker (λ (l : Leg). MeetsAll d k sides (exit_of p l) × MeetsAll d k more (exit_of p l)) (λ (l : Leg). MeetsAll d k (sides ++ more) (exit_of p l))
        (λ l both. AllByRecursion-append (Meets d k (exit_of p l)) sides more both.0 both.1) r
        (AllByRecursion-both (λ (l : Leg). MeetsAll d k sides (exit_of p l)) (λ (l : Leg). MeetsAll d k more (exit_of p l)) r meet.0 others.0),
    legs-append sides more (k + 1) routes meet.1 others.1,
  )

  -- a plan obeys sides of which holds what holds of all that it obeys
  obeys-fewer : (sides fewer : List Side) (plan : List (List Leg)) → ((P : Side → Type 0) → AllByRecursion P sides → AllByRecursion P fewer) → PlanObeys p d sides plan → PlanObeys p d fewer plan
  obeys-fewer sides fewer plan each obeys = record {
    legs = legs-fewer sides fewer each 0 plan obeys.legs;
    trucks = each (HasCount (trucks_between p d plan)) obeys.trucks;
    ways = each (HasWay (map (map (exit_of p)) plan)) obeys.ways;
  }

  -- the sides before others
  pub obeys-front : (sides more : List Side) (plan : List (List Leg)) → PlanObeys p d (sides ++ more) plan → PlanObeys p d sides plan
  obeys-front sides more plan obeys = obeys-fewer (sides ++ more) sides plan (λ P. all-front P sides more) obeys

  -- the sides under which a leaf is valued
  pub obeys-valued : (count : Option ℕ) (sides : List Side) (plan : List (List Leg)) → PlanObeys p d sides plan → PlanObeys p d (first_sides count sides) plan
  obeys-valued count sides plan obeys = obeys-fewer sides (first_sides count sides) plan (λ P. all-valued P count sides) obeys

  -- the sides of two lists
  pub obeys-append : (sides more : List Side) (plan : List (List Leg)) → PlanObeys p d sides plan → PlanObeys p d more plan → PlanObeys p d (sides ++ more) plan
  obeys-append sides more plan obeys others = record {
    legs = legs-append sides more 0 plan obeys.legs others.legs;
    trucks = AllByRecursion-append (HasCount (trucks_between p d plan)) sides more obeys.trucks others.trucks;
    ways = AllByRecursion-append (HasWay (map (map (exit_of p)) plan)) sides more obeys.ways others.ways;
  }
