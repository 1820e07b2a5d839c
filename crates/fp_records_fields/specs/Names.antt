-- Names numbered by their places.
use Rattle.std.specs.Prelude.{ℕ, Bool, List, Option, position}
use Rattle.std.specs.List.{list_any}
use Rattle.std.specs.Str.{bytes_eq}

-- the number of a name: its place among the names
abbrev pub number_of : List (List ℕ) → List ℕ → Option ℕ
number_of names name = position (bytes_eq name) names

-- whether a name is among the names
abbrev pub is_taken : List (List ℕ) → List ℕ → Bool
is_taken names name = list_any (bytes_eq name) names
