-- The points of all terminals, and which of them stand as of a round.
use Rattle.std.specs.Prelude.{ℕ, ◌≡◌, ◌≢◌, ◌<◌, ◌≤◌, List, [], ◌∷◌, ◌++◌, map, filter, max, nat_le, ◌==◌, ◌&&◌, All, AllPairs}
use Rattle.std.specs.List.Sorted.{IsNonDecreasingBy}
use Rattle.fp_timenodes.specs.declared.places.Place.{Place}
use Rattle.fp_timenodes.specs.declared.places.AddedPoint.{AddedPoint}
use Rattle.fp_timenodes.specs.declared.places.TheConstants.{LATEST}

-- the number of terminals, the places that have a point from the start, and the points added since
-- in their order
pub record TimePoints : Type 0 where
  pub terminals : ℕ
  pub first : List Place
  pub added : List AddedPoint

-- the times of a terminal's places
abbrev pub times_at : List Place → ℕ → List ℕ
times_at places terminal = map (λ p. p.at) (filter (λ p. p.terminal == terminal) places)

-- the times of a terminal's points that were added up to and with a round
abbrev pub added_at : List AddedPoint → ℕ → ℕ → List ℕ
added_at added terminal round =
    map (λ p. p.at) (filter (λ p. p.terminal == terminal && nat_le p.round round) added)

-- the points of a terminal as of a round: the places of the start, what was added up to and with
-- that round, and 0
abbrev pub points_at : TimePoints → ℕ → ℕ → List ℕ
points_at v terminal round = times_at v.first terminal ++ (added_at v.added terminal round ++ 0 ∷ [])

-- the points with more that are added after all of them
abbrev pub with_added : TimePoints → List AddedPoint → TimePoints
with_added v more = record v { added = v.added ++ more }

-- the greatest round that added a point, and 0 where none did
abbrev pub greatest_round : List AddedPoint → ℕ
greatest_round [] = 0
greatest_round (p ∷ added) = max p.round (greatest_round added)

-- all of them are of rounds after this one
abbrev pub AreAfter : ℕ → List AddedPoint → Type 0
AreAfter round added = All (λ (p : AddedPoint). round < p.round) added

-- no two of them are at one terminal and at one time
abbrev pub HaveDistinctPlaces : List AddedPoint → Type 0
HaveDistinctPlaces added = AllPairs (λ (p q : AddedPoint). p.terminal ≡ q.terminal → p.at ≢ q.at) added

-- a place is at one of the terminals, and in time
abbrev pub IsPlace : ℕ → Place → Type 0
IsPlace terminals p = (p.terminal < terminals) × (p.at ≤ LATEST)

-- an added point is at one of the terminals, in time, and of a round after the start
abbrev pub IsAddedPoint : ℕ → AddedPoint → Type 0
IsAddedPoint terminals p = (p.terminal < terminals) × (p.at ≤ LATEST) × (1 ≤ p.round)

-- what is true of all points that there are
pub record HasValidPoints (v : TimePoints) : Type 0 where
  pub first : All (IsPlace v.terminals) v.first
  pub added : All (IsAddedPoint v.terminals) v.added
  pub rounds : IsNonDecreasingBy (λ (p : AddedPoint). p.round) v.added
