-- An instance with one of its shipments as the last one.
use Rattle.std.specs.Prelude.{ℕ, suc, ◌+◌, ◌-◌, ◌<◌, ◌≤◌, ◌≡◌, List, ◌++◌, length, take, drop, slice_index_or}
use Rattle.fp_model.specs.declared.parts.Leg.{Leg}
use Rattle.fp_model.specs.Costs.{cost}
use Rattle.fp_model.specs.Plans.{IsPlan}
use Rattle.fp_model.specs.Problem.{Problem}

-- a list without its element at a place
abbrev pub removed : {X : Type 0} → ℕ → List X → List X
removed k xs = take k xs ++ drop (suc k) xs

-- a list with its element at a place as the last one, and the others in their order
abbrev pub to_last : {X : Type 0} → ℕ → List X → List X
to_last k xs = removed k xs ++ take 1 (drop k xs)

-- the same instance but for the order of its shipments: the one with the number is the last, and the
-- others are in their order
abbrev pub with_last : Problem → ℕ → Problem
with_last p k = record p { shipments = to_last k p.shipments }

-- which element stands at which place
pub record StandsLast {X : Type 0} (k : ℕ) (xs ys : List X) : Type 0 where
  pub long : length ys ≡ length xs
  pub last : (none : X) → slice_index_or ys (length xs - 1) none ≡ slice_index_or xs k none
  pub before : (i : ℕ) (none : X) → i < k → slice_index_or ys i none ≡ slice_index_or xs i none
  pub after : (i : ℕ) (none : X) → k ≤ i → i + 1 < length xs → slice_index_or ys i none ≡ slice_index_or xs (i + 1) none

-- Over each denominator the plans of two instances correspond, of which the second is the first with the
-- shipment of a number as the last one: with its routes in that order a plan of the first is one of
-- the second at the same cost, and each plan of the second comes from one of the first.
pub record PlansCorrespond (p : Problem) (k : ℕ) (q : Problem) : Type 0 where
  pub there : (d : ℕ) (routes : List (List Leg)) → IsPlan p d routes → IsPlan q d (to_last k routes)
  pub back : (d : ℕ) (routes : List (List Leg)) → IsPlan q d routes → (others : List (List Leg)) × IsPlan p d others × (routes ≡ to_last k others)
  pub cost : (d : ℕ) (routes : List (List Leg)) → IsPlan p d routes → cost q (to_last k routes) ≡ cost p routes
