-- What a unit of size pays for an arc.
use Rattle.std.specs.Prelude.{ℕ, ◌*◌, ◌/◌}
use Rattle.fp_model.specs.declared.parts.Arc.{Arc}

-- the linear rate of an arc: the truck's cost at a scale divided by the truck's capacity
abbrev pub rate_of : ℕ → Arc → ℕ
rate_of scale arc = scale * arc.truck / arc.capacity
