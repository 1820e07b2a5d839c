use Rattle.std.proofs.Common.{◌≡◌, drop}
use Rattle.fp_yard.specs.Places.{place_along, place_of}
use Rattle.fp_yard.proofs.yards.Yard.place.Given as goal

-- the shipment goes by the lines that are left, from the terminal at hand
abbrev pub invariant-loop-line : goal.invariant-loop-line
invariant-loop-line l =
    place_of l.self-inside.sheets l.self-inside.history.items l.shipment
    ≡ place_along l.self-inside.sheets l.self-inside.history.items l.terminal (drop l.line-index l.journey)
