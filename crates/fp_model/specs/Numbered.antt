-- Lists whose elements are numbered from 0 on.
use Rattle.std.specs.Prelude.{ℕ, List, [], slice_index_or}
use Rattle.fp_model.specs.declared.parts.Leg.{Leg}
use Rattle.fp_model.specs.declared.parts.Shipment.{Shipment}
use Rattle.fp_model.specs.Problem.{Problem}

-- stands for the shipment of a number that no shipment has
abbrev pub no_shipment : Shipment
no_shipment = record { name = []; from = 0; to = 0; size = 0; release = 0; due = 0 }

-- the shipment with a number
abbrev pub shipment_at : Problem → ℕ → Shipment
shipment_at p k = slice_index_or p.shipments k no_shipment

-- stands for the leg of a number that no leg of a route has
abbrev pub no_leg : Leg
no_leg = record { arc = 0; depart = 0 }

-- the leg of a route with a number
abbrev pub leg_at : List Leg → ℕ → Leg
leg_at legs i = slice_index_or legs i no_leg

-- the route of the shipment with a number, and no legs where there is none
abbrev pub route_at : List (List Leg) → ℕ → List Leg
route_at routes k = slice_index_or routes k []
