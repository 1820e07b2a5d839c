-- Legs among the departures of lines.
use Rattle.std.specs.Prelude.{◌≡◌, true, List, map, All, AllPairs}
use Rattle.fp_base_lists.specs.Order.{Precedes}
use Rattle.fp_model.specs.declared.parts.Leg.{Leg}
use Rattle.fp_model.specs.Costs.{has_leg}
use Rattle.fp_timetable.specs.declared.lines.TruckLine.{TruckLine}
use Rattle.fp_timetable.specs.Lines.{departure}

-- lines stand by departure and then by arc, each departure once
abbrev pub AreInOrder : List TruckLine → Type 0
AreInOrder lines = AllPairs (λ (t u : TruckLine). Precedes t.depart t.arc u.depart u.arc) lines

-- the legs are all departures of lines
abbrev pub AreAmong : List TruckLine → List Leg → Type 0
AreAmong lines legs = All (λ (leg : Leg). has_leg leg (map departure lines) ≡ true) legs
