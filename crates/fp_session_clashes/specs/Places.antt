-- Places at which a round adds points.
-- The source of refinement: Boland, Hewitt, Marshall and Savelsbergh, "The Continuous-Time Service
-- Network Design Problem", Operations Research 65, 2017.
use Rattle.std.specs.Prelude.{◌≤◌, ◌≡◌, ◌⊎◌, Bool, true, false, List, length, All, Contains}
use Rattle.fp_base_lists.specs.Distinct.{AreDistinct}
use Rattle.fp_base_lists.specs.Membership.{list_has}
use Rattle.fp_model.specs.Problem.{Problem}
use Rattle.fp_timenodes.specs.declared.places.Place.{Place}
use Rattle.fp_longestarcs.specs.Networks.{TimedNetwork, points_in}
use Rattle.fp_certificate_rules.specs.declared.limits.TheConstants.{MOST_IN_ROUND}
use Rattle.fp_shortarcs.specs.declared.shorts.Short.{Short}
use Rattle.fp_session_history.specs.Traces.{IsPlaceInTime}

-- the place of a too short leg
abbrev pub place_of : Short → Place
place_of s = record { terminal = s.terminal; at = s.at }

-- a place is that of one of the legs
pub record IsPlaceAmong (shorts : List Short) (place : Place) : Type 0 where
  pub short : Short
  pub among : Contains shorts short
  pub is : place ≡ place_of short

-- distinct places of legs, at most as many as a round may add
pub record ArePlacesOf (shorts : List Short) (places : List Place) : Type 0 where
  pub each : All (IsPlaceAmong shorts) places
  pub distinct : AreDistinct places
  pub few : length places ≤ MOST_IN_ROUND

-- a place is free: it is at a terminal and in time, and no point of the network is there
pub record IsFreePlace (p : Problem) (net : TimedNetwork) (place : Place) : Type 0 where
  pub in_time : IsPlaceInTime p place
  pub new : list_has (points_in net place.terminal) place.at ≡ false

-- distinct free places, at most as many as a round may add
pub record AreFreePlaces (p : Problem) (net : TimedNetwork) (places : List Place) : Type 0 where
  pub each : All (IsFreePlace p net) places
  pub distinct : AreDistinct places
  pub few : length places ≤ MOST_IN_ROUND

-- places for a round: of too short legs; or, where any are sought, free ones
abbrev pub ArePlacesFound : Problem → TimedNetwork → (any : Bool) → List Short → List Place → Type 0
ArePlacesFound p net false shorts places = ArePlacesOf shorts places
ArePlacesFound p net true shorts places = ArePlacesOf shorts places ⊎ AreFreePlaces p net places
