-- Classes as a walk keeps them, and as contracts write them.
use Rattle.std.specs.Prelude.{List, map}
use Rattle.fp_model.specs.declared.parts.Leg.{Leg}
use Rattle.fp_longestarcs.specs.declared.stops.Stop.{Stop}

-- a class, written as a leg that leaves at its point
abbrev pub leg_of : Stop → Leg
leg_of stop = record { arc = stop.arc; depart = stop.point }

-- classes, written as legs that leave at their points
abbrev pub legs_of : List Stop → List Leg
legs_of stops = map leg_of stops
