-- Under which of its sides a leaf is valued.
use Rattle.std.specs.Prelude.{ℕ, List, Option, None, Some, take}
use Rattle.fp_tree.specs.declared.sides.Side.{Side}
use Rattle.fp_certificate_lines.specs.declared.certificates.Valuation.{Valuation}

-- the first so many of the sides on the way from the root, and all of them where no number is told
abbrev pub first_sides : Option ℕ → List Side → List Side
first_sides None sides = sides
first_sides (Some count) sides = take count sides

-- the sides under which a leaf is valued, of those on its way
abbrev pub sides_valued : Valuation → List Side → List Side
sides_valued v sides = first_sides v.sides sides
