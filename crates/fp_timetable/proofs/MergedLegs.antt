-- Adding legs one after the other gives their departures.
use Rattle.std.proofs.Common.{◌≡◌, ℕ, ◌+◌, ◌^◌, ◌<◌, Bool, ◌||◌, List, [], ◌∷◌, ◌++◌, length, map, take, get_or, sym, ap, ◌∙◌, subst, arith}
use Rattle.std.specs.Prelude.{All, if◌then◌else◌}
use Rattle.std.proofs.lemmas.List.{map_push, take_more}
use Rattle.std.proofs.lemmas.List.Folds.{list_any-append}
use Rattle.std.proofs.lemmas.List.Sums.{sum_by_push}
use Rattle.fp_model.specs.declared.parts.Leg.{Leg}
use Rattle.fp_model.specs.Costs.{has_leg, same_leg}
use Rattle.fp_model.specs.Numbered.{shipment_at}
use Rattle.fp_model.specs.Problem.{Problem}
use Rattle.fp_timetable.specs.declared.lines.LegLine.{LegLine}
use Rattle.fp_timetable.specs.declared.lines.TruckLine.{TruckLine}
use Rattle.fp_timetable.specs.Lines.{line_leg}
use Rattle.fp_timetable.specs.Order.{Adds, AreMerged, IsNotAfter}
use Rattle.fp_timetable.proofs.AddedLegs.{or-false}

-- stands for a leg line that there is not
abbrev pub no_leg_line : LegLine
no_leg_line = record { shipment = 0; arc = 0; depart = 0; arrive = 0 }

-- one more leg
merged-push : (p : Problem) (legs : List LegLine) (l : LegLine) (old new : List TruckLine) → AreMerged p legs old → l.arc < 2 ^ 32 → All (IsNotAfter l) old →
    Adds l (shipment_at p l.shipment).size old new → AreMerged p (legs ++ l ∷ []) new
merged-push p legs l old new merged narrow before adds = record {
  ascending = adds.ascending narrow before merged.ascending;
  departures = λ k.
      let one : has_leg k (line_leg l ∷ []) ≡ same_leg k (line_leg l) = or-false (same_leg k (line_leg l)) in
      let more : has_leg k (map line_leg (legs ++ l ∷ [])) ≡ has_leg k (map line_leg legs) || has_leg k (line_leg l ∷ []) =
      ap (λ (xs : List Leg). has_leg k xs) (map_push line_leg legs l) ∙ list_any-append (same_leg k) (map line_leg legs) (line_leg l ∷ []) in
      adds.departures k
      ∙ ap (λ (b : Bool). b || same_leg k (line_leg l)) (merged.departures k)
      ∙ sym (more ∙ ap (λ (b : Bool). has_leg k (map line_leg legs) || b) one);
  loads = λ k.
      omega (arith, adds.loads k, merged.loads k, sum_by_push (λ (m : LegLine). if same_leg k (line_leg m) then (shipment_at p m.shipment).size else 0) legs l);
}

-- the leg with a number is the next one
pub merged_more : (p : Problem) (legs : List LegLine) (i : ℕ) (old new : List TruckLine) → i < length legs → AreMerged p (take i legs) old →
    (get_or legs i no_leg_line).arc < 2 ^ 32 → All (IsNotAfter (get_or legs i no_leg_line)) old → Adds (get_or legs i no_leg_line) (shipment_at p (get_or legs i no_leg_line).shipment).size old new → AreMerged p (take (i + 1) legs) new
merged_more p legs i old new lt merged narrow before adds =
    subst (λ (xs : List LegLine). AreMerged p xs new) (sym (take_more legs i no_leg_line lt)) (merged-push p (take i legs) (get_or legs i no_leg_line) old new merged narrow before adds)
