-- How the timelines of all terminals stand for the points.
use Rattle.std.specs.Prelude.{ℕ, ◌≡◌, ◌<◌, List, [], ◌++◌, ◌∷◌, length, slice_index_or, All}
use Rattle.fp_timenodes.specs.declared.places.Place.{Place}
use Rattle.fp_timenodes.specs.declared.timelines.Stamp.{Stamp}
use Rattle.fp_timenodes.specs.Floor.{HaveSamePoints}
use Rattle.fp_timenodes.specs.Points.{TimePoints, points_at, times_at, greatest_round, HasValidPoints}
use Rattle.fp_timenodes.specs.Stamps.{AreUpTo, points_of}

-- the timeline of a terminal with the point 0 alone
abbrev pub bare_timeline : List Stamp
bare_timeline = record { at = 0; round = 0 } ∷ []

-- so many timelines have the point 0 and these places, all from the start
pub record StartAt (terminals : ℕ) (places : List Place) (timelines : List (List Stamp)) : Type 0 where
  pub count : length timelines ≡ terminals
  pub points : (terminal round : ℕ) → terminal < terminals →
      HaveSamePoints (points_of (slice_index_or timelines terminal []) round) (times_at places terminal ++ 0 ∷ [])
  pub rounds : All (AreUpTo 0) timelines

-- each terminal has its timeline, with its points as of every round
pub record Show (v : TimePoints) (timelines : List (List Stamp)) : Type 0 where
  pub valid : HasValidPoints v
  pub points : (terminal round : ℕ) → terminal < length timelines →
      HaveSamePoints (points_of (slice_index_or timelines terminal []) round) (points_at v terminal round)
  pub rounds : All (AreUpTo (greatest_round v.added)) timelines
