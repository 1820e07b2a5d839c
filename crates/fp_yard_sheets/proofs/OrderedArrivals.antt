-- Arrivals that were put in order are those of the lines.
use Rattle.std.proofs.Common.{ℕ, ◌+◌, ◌<◌, ◌≤◌, List, [], ◌∷◌, length, arith}
use Rattle.std.specs.List.{AllByRecursion}
use Rattle.std.specs.List.Sorted.{IsNonDecreasingBy, IsPermutation}
use Rattle.std.proofs.lemmas.List.Sorted.{All-permutation}
use Rattle.fp_base_lists.proofs.Elements.{AllByRecursion-get_or}
use Rattle.fp_model.specs.Problem.{Problem}
use Rattle.fp_timetable.specs.declared.lines.TruckLine.{TruckLine}
use Rattle.fp_yard_sheets.specs.declared.arrivals.Arrival.{Arrival}
use Rattle.fp_yard_sheets.specs.Arrivals.{AreByMoment, arrival_rank, arrivals_from}

-- the lines of arrivals exist
lines-below : (p : Problem) (l bound : ℕ) (lines : List TruckLine) → l + length lines ≤ bound → AllByRecursion (λ (a : Arrival). a.line < bound) (arrivals_from p l lines)
lines-below p l bound [] few = tt
lines-below p l bound (t ∷ lines) few = (omega (arith, few), lines-below p (l + 1) bound lines (omega (arith, few)))

pub AreByMoment-sorted : (p : Problem) (lines : List TruckLine) (arrivals : List Arrival) → IsPermutation (arrivals_from p 0 lines) arrivals → IsNonDecreasingBy arrival_rank arrivals → AreByMoment p lines arrivals
AreByMoment-sorted p lines arrivals moved sorted =
    let all : List Arrival = arrivals_from p 0 lines in
    record {
      all = moved;
      order = sorted;
      exist = All-permutation (λ (a : Arrival). a.line < length lines) all arrivals moved
          (λ i d lt. AllByRecursion-get_or (λ (a : Arrival). a.line < length lines) all i d (lines-below p 0 (length lines) lines (omega arith)) lt);
    }
