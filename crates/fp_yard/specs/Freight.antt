-- The legs that go by each line, as they are listed.
use Rattle.std.specs.Prelude.{ℕ, ◌+◌, List, [], ◌∷◌, ◌++◌, slice_index_or, if◌then◌else◌, nat_eq}
use Rattle.fp_model.specs.declared.parts.Member.{Member}

-- the freight of the line with a number
abbrev pub freight_at : List (List Member) → ℕ → List Member
freight_at freight line = slice_index_or freight line []

-- the legs that go by a line among those of the shipment with the number k, of which the first has
-- the number i
abbrev pub legs_by : (line k i : ℕ) → List ℕ → List Member
legs_by line k i [] = []
legs_by line k i (l ∷ lines) = (if nat_eq l line then record { shipment = k; leg = i } ∷ [] else []) ++ legs_by line k (i + 1) lines

-- the legs that go by a line, by shipment, where the first journey is that of the shipment with the
-- number k
abbrev pub members_by : (line k : ℕ) → List (List ℕ) → List Member
members_by line k [] = []
members_by line k (journey ∷ journeys) = legs_by line k 0 journey ++ members_by line (k + 1) journeys
