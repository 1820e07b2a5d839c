-- Where numbers stand among others in ascending order.
use Rattle.std.specs.Prelude.{ℕ, suc, ◌<◌, ◌≤◌, List, [], ◌∷◌, length, nat_lt, if◌then◌else◌, slice_index_or}

-- how many of the numbers are below this one: where they ascend, its place among them
abbrev pub place_in : List ℕ → ℕ → ℕ
place_in [] number = 0
place_in (n ∷ numbers) number = if nat_lt n number then suc (place_in numbers number) else place_in numbers number

-- so many of the numbers, the first ones, are below this one, and the others are not
pub record IsPlaceIn (numbers : List ℕ) (number place : ℕ) : Type 0 where
  pub within : place ≤ length numbers
  pub below : (k d : ℕ) → k < place → slice_index_or numbers k d < number
  pub above : (k d : ℕ) → place ≤ k → k < length numbers → number ≤ slice_index_or numbers k d

-- so many of the numbers, the first ones, are at most this one, and the others are greater
pub record IsCut (numbers : List ℕ) (most cut : ℕ) : Type 0 where
  pub within : cut ≤ length numbers
  pub until : (k d : ℕ) → k < cut → slice_index_or numbers k d ≤ most
  pub after : (k d : ℕ) → cut ≤ k → k < length numbers → most < slice_index_or numbers k d
