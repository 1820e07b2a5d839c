-- The lines of a small plan: two shipments that leave together.
use Rattle.std.proofs.Common.{◌≡◌, ℕ, zero, suc, ◌<◌, Bool, true, false, ◌||◌, List, [], ◌∷◌, length, inr, refl, arith, lit<}
use Rattle.std.specs.Prelude.{AllPairs, Contains}
use Rattle.std.proofs.lemmas.List.Elements.{All-cons, All-nil, Contains-get_or}
use Rattle.fp_model.specs.declared.parts.Leg.{Leg}
use Rattle.fp_model.specs.Costs.{load, same_leg, trucks}
use Rattle.fp_model.specs.Numbered.{leg_at, route_at}
use Rattle.fp_model.proofs.Examples.{over, two}
use Rattle.fp_timetable.specs.declared.lines.LegLine.{LegLine}
use Rattle.fp_timetable.specs.declared.lines.TruckLine.{TruckLine}
use Rattle.fp_timetable.specs.Lines.{AreLegLines, AreTruckLines, IsLegLine, departure, leg_line}
use Rattle.fp_base_lists.specs.Order.{Precedes}

-- both leave at 3
abbrev pub together : List (List Leg)
together = over 3 ∷ over 3 ∷ []

abbrev first_leg : LegLine
first_leg = record { shipment = 0; arc = 0; depart = 3; arrive = 8 }

abbrev second_leg : LegLine
second_leg = record { shipment = 1; arc = 0; depart = 3; arrive = 8 }

abbrev only_departure : TruckLine
only_departure = record { arc = 0; depart = 3; trucks = 1; load = 9 }

pub leg_lines : AreLegLines two together (first_leg ∷ second_leg ∷ [])
leg_lines = record {
  ascending = λ i j d less lt. apart i j d less lt;
  legs = All-cons (IsLegLine two together) first_leg (second_leg ∷ []) (record { shipment = lit< tt; leg = refl; arrive = refl })
      (All-cons (IsLegLine two together) second_leg [] (record { shipment = lit< tt; leg = refl; arrive = refl }) (All-nil (IsLegLine two together)));
  every = λ k i lt below. there k i lt below;
}
  where
    apart : AllPairs (λ (k l : LegLine). Precedes k.depart k.shipment l.depart l.shipment) (first_leg ∷ second_leg ∷ [])
    apart zero zero d less lt = absurd (omega (arith, less))
    apart zero (suc zero) d less lt = inr (refl, lit< tt)
    apart zero (suc (suc j)) d less lt = absurd (omega (arith, lt))
    apart (suc i) zero d less lt = absurd (omega (arith, less))
    apart (suc i) (suc j) d less lt = absurd (omega (arith, less, lt))

    there : (k i : ℕ) → k < 2 → i < length (route_at together k) → Contains (first_leg ∷ second_leg ∷ []) (leg_line two k (leg_at (route_at together k) i))
    there zero zero lt below = Contains-get_or (first_leg ∷ second_leg ∷ []) 0 first_leg (lit< tt)
    there zero (suc i) lt below = absurd (omega (arith, below))
    there (suc zero) zero lt below = Contains-get_or (first_leg ∷ second_leg ∷ []) 1 first_leg (lit< tt)
    there (suc zero) (suc i) lt below = absurd (omega (arith, below))
    there (suc (suc k)) i lt below = absurd (omega (arith, lt))

-- a departure occurs once more or not
twice : (b : Bool) → b || false ≡ b || (b || false)
twice true = refl
twice false = refl

pub truck_lines : AreTruckLines two together (only_departure ∷ [])
truck_lines = record {
  ascending = λ i j d less lt. absurd (omega (arith, less, lt));
  departures = λ k. twice (same_leg k (departure only_departure));
  trucks = All-cons (λ (t : TruckLine). t.trucks ≡ trucks two together (departure t)) only_departure [] refl (All-nil _);
  loads = All-cons (λ (t : TruckLine). t.load ≡ load two.shipments together (departure t)) only_departure [] refl (All-nil _);
}
