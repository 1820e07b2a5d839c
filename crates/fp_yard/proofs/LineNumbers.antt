-- The line of a leg, found by its place in the order.
use Rattle.std.proofs.Common.{◌≡◌, ◌∙◌, ℕ, ◌^◌, ◌<◌, ◌≤◌, true, false, List, length, map, get_or, ltb, ⊎_elim, sym, ap, arith}
use Rattle.std.specs.Prelude.{All}
use Rattle.std.specs.List.Sorted.{IsNonDecreasingBy, IsPartitionPoint}
use Rattle.std.proofs.Math.ListN.{length-map}
use Rattle.std.proofs.Math.Nat.{eq-or-lt_of_le}
use Rattle.std.proofs.lemmas.Bool.{cases_lt, ltb-true, ltb-false}
use Rattle.fp_base_lists.specs.Order.{Precedes}
use Rattle.fp_base_lists.proofs.Maps.{get_or-map_default}
use Rattle.fp_model.specs.declared.parts.Leg.{Leg}
use Rattle.fp_model.specs.Costs.{has_leg, same_leg}
use Rattle.fp_model.proofs.Distinct.{same_leg-true}
use Rattle.fp_timetable.specs.declared.lines.TruckLine.{TruckLine}
use Rattle.fp_timetable.specs.Lines.{departure}
use Rattle.fp_timetable.specs.Order.{no_line, rank_of, truck_rank}
use Rattle.fp_yard.specs.Journeys.{AreInOrder}
use Rattle.fp_yard.specs.Schedules.{leg_of}
use Rattle.fp_yard.proofs.Witnesses.{witness}

-- the arcs of lines are numbers of 32 bits
abbrev pub HaveArcs : List TruckLine → Type 0
HaveArcs lines = All (λ (t : TruckLine). t.arc < 2 ^ 32) lines

rank-lt : (a b c d : ℕ) → b < 2 ^ 32 → Precedes a b c d → rank_of a b < rank_of c d
rank-lt a b c d small precedes = ⊎_elim (λ before. omega (arith, before, small)) (λ same. omega (arith, same.0, same.1)) precedes

ranks-rise : (lines : List TruckLine) (i j : ℕ) (d : TruckLine) → AreInOrder lines → HaveArcs lines → i < j → j < length lines →
    truck_rank (get_or lines i d) < truck_rank (get_or lines j d)
ranks-rise lines i j d order arcs less lt =
    rank-lt (get_or lines i d).depart (get_or lines i d).arc (get_or lines j d).depart (get_or lines j d).arc (arcs i d (omega (arith, less, lt))) (order i j d less lt)

-- lines in order don't fall
pub ranks-order : (lines : List TruckLine) → AreInOrder lines → HaveArcs lines → IsNonDecreasingBy truck_rank lines
ranks-order lines order arcs i j d le lt =
    ⊎_elim
    (λ (same : i ≡ j). omega (arith, ap (λ (n : ℕ). truck_rank (get_or lines n d)) same))
    (λ (less : i < j). omega (arith, ranks-rise lines i j d order arcs less lt))
    (eq-or-lt_of_le le)

-- so many lines stand before the line of a leg
pub found-line : (lines : List TruckLine) (leg : Leg) (n : ℕ) → AreInOrder lines → HaveArcs lines → has_leg leg (map departure lines) ≡ true →
    IsPartitionPoint (λ (t : TruckLine). ltb (truck_rank t) (rank_of leg.depart leg.arc) ≡ true) (λ (t : TruckLine). ltb (truck_rank t) (rank_of leg.depart leg.arc) ≡ false) lines n →
    (n < length lines) × (leg_of lines n ≡ leg)
found-line lines leg n order arcs has point =
    let at = witness (same_leg leg) (map departure lines) (departure no_line) has in
    let i : ℕ = at.0 in
    let within : i < length lines = omega (arith, at.1, length-map lines departure) in
    let line : TruckLine = get_or lines i no_line in
    let is : leg ≡ departure line = same_leg-true leg (get_or (map departure lines) i (departure no_line)) at.2 ∙ get_or-map_default departure lines i no_line in
    let rank : truck_rank line ≡ rank_of leg.depart leg.arc = sym (ap (λ (l : Leg). rank_of l.depart l.arc) is) in
    let after : n ≤ i = ⊎_elim
    (λ (early : i < n). absurd (omega (arith, ltb-true (truck_rank line) (rank_of leg.depart leg.arc) (point.0 i no_line (omega arith) early), rank)))
    (λ (late : n ≤ i). late) (cases_lt i n) in
    ⊎_elim
    (λ (same : n ≡ i). (omega (arith, same, within), ap (leg_of lines) same ∙ sym is))
    (λ (less : n < i).
    absurd (omega (arith, ranks-rise lines n i no_line order arcs less within, rank, ltb-false (truck_rank (get_or lines n no_line)) (rank_of leg.depart leg.arc) (point.1 n no_line (omega arith) (omega (arith, less, within))))))
    (eq-or-lt_of_le after)
