-- Which allowed classes leave by an arc, or from a terminal.
use Rattle.std.specs.Prelude.{ℕ, ◌+◌, ◌≡◌, ◌≢◌, ◌<◌, ◌≤◌, List, length, Bool, true, false, Option, MatchOption}
use Rattle.fp_model.specs.declared.parts.Leg.{Leg}
use Rattle.fp_longestarcs.specs.Networks.{TimedNetwork, class_count, class_number, first_class, points_in, tail_in}
use Rattle.fp_allowed.specs.declared.exits.Leaving.{Leaving}
use Rattle.fp_allowed.specs.declared.exits.Leaving.TheVariants.{Nothing, One, Several}
use Rattle.fp_allowed.specs.Bits.{bit_of}

-- the numbers of an arc's classes are those from start up to and without end
pub record IsRange (net : TimedNetwork) (arc start end : ℕ) : Type 0 where
  pub begins : start ≡ first_class net arc
  pub ends : end ≡ first_class net arc + length (points_in net (tail_in net arc))
  pub within : end ≤ class_count net

-- an allowed class that leaves so
pub record OneLeaves (allowed : Leg → Bool) (Leaves : Leg → Type 0) (c : Leg) : Type 0 where
  pub allowed_it : allowed c ≡ true
  pub leaves : Leaves c

-- no allowed class leaves so, or exactly one does, whose number and arc are given, or two or more
-- do
abbrev pub Tells : TimedNetwork → (Leg → Bool) → (Leg → Type 0) → Leaving → Type 0
Tells net allowed Leaves Nothing = (c : Leg) → OneLeaves allowed Leaves c → ⊥
Tells net allowed Leaves (One class arc) =
    (c : Leg) × OneLeaves allowed Leaves c × (class_number net c ≡ class) × (c.arc ≡ arc) × ((other : Leg) → OneLeaves allowed Leaves other → other ≡ c)
Tells net allowed Leaves Several = (one : Leg) × (two : Leg) × OneLeaves allowed Leaves one × OneLeaves allowed Leaves two × (one ≢ two)

-- the first bit that is set in a range, if there is one
abbrev pub IsFirstSet : List Bool → ℕ → ℕ → Option ℕ → Type 0
IsFirstSet row from to o =
    MatchOption o ((n : ℕ) → from ≤ n → n < to → bit_of row n ≡ false)
    (λ first. (from ≤ first) × (first < to) × (bit_of row first ≡ true) × ((n : ℕ) → from ≤ n → n < first → bit_of row n ≡ false))

-- those that leave in one way or in another
abbrev pub joined_of : Leaving → Leaving → Leaving
joined_of Nothing other = other
joined_of (One class arc) Nothing = One class arc
joined_of (One class arc) (One class_two arc_two) = Several
joined_of (One class arc) Several = Several
joined_of Several other = Several
