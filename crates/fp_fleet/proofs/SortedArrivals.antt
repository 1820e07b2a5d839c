-- Arrivals that were put in order are those of the lines.
use Rattle.std.proofs.Common.{◌≡◌, ℕ, zero, suc, ◌+◌, ◌<◌, List, [], ◌∷◌, length, refl, sym, ap, ◌∙◌, subst, arith}
use Rattle.std.specs.Prelude.{Contains}
use Rattle.std.specs.List.Sorted.{IsNonDecreasingBy, IsPermutation}
use Rattle.std.proofs.lemmas.List.{get_or_default}
use Rattle.std.proofs.lemmas.List.Elements.{All-from_get_or, Contains-get_or}
use Rattle.std.proofs.lemmas.List.Sorted.{All-permutation, Contains-permutation}
use Rattle.fp_model.specs.Problem.{Problem}
use Rattle.fp_timetable.specs.declared.lines.TruckLine.{TruckLine}
use Rattle.fp_fleet.specs.declared.arrivals.Arrival.{Arrival}
use Rattle.fp_fleet.specs.Arrivals.{AreArrivals, IsRanked, arrival_at, no_arrival, ranked, ranked_from}
use Rattle.fp_fleet.specs.Rosters.{line_at}

length-ranked_from : (p : Problem) (l : ℕ) (lines : List TruckLine) → length (ranked_from p l lines) ≡ length lines
length-ranked_from p l [] = refl
length-ranked_from p l (t ∷ lines) = omega (arith, length-ranked_from p (l + 1) lines)

ranked_from-at : (p : Problem) (l : ℕ) (lines : List TruckLine) (k : ℕ) → k < length lines → arrival_at (ranked_from p l lines) k ≡ ranked p (l + k) (line_at lines k)
ranked_from-at p l [] k lt = absurd (omega (arith, lt))
ranked_from-at p l (t ∷ lines) zero lt = ap (λ (n : ℕ). ranked p n t) (let e : l ≡ l + 0 = omega arith in e)
ranked_from-at p l (t ∷ lines) (suc k) lt =
    ranked_from-at p (l + 1) lines k (omega (arith, lt)) ∙ ap (λ (n : ℕ). ranked p n (line_at lines k)) (let e : l + 1 + k ≡ l + suc k = omega arith in e)

pub AreArrivals-sorted : (p : Problem) (lines : List TruckLine) (arrivals : List Arrival) → IsPermutation (ranked_from p 0 lines) arrivals →
    IsNonDecreasingBy (λ (a : Arrival). a.rank) arrivals → AreArrivals p lines arrivals
AreArrivals-sorted p lines arrivals moved sorted =
    let all : List Arrival = ranked_from p 0 lines in
    let long : length all ≡ length lines = length-ranked_from p 0 lines in
    let at : (k : ℕ) → k < length lines → arrival_at all k ≡ ranked p k (line_at lines k) =
    λ k lt. ranked_from-at p 0 lines k lt ∙ ap (λ (n : ℕ). ranked p n (line_at lines k)) (let e : 0 + k ≡ k = omega arith in e) in
    record {
      sorted = sorted;
      ranks = All-permutation (IsRanked p lines) all arrivals moved
          (All-from_get_or (IsRanked p lines) all no_arrival (λ k lt.
          let inside : k < length lines = omega (arith, lt, long) in
          subst (IsRanked p lines) (sym (at k inside)) (inside, refl)));
      every = λ l lt.
          let there : Contains all (ranked p l (line_at lines l)) =
          subst (Contains all) (at l lt) (Contains-get_or all l no_arrival (omega (arith, lt, long))) in
          let now : Contains arrivals (ranked p l (line_at lines l)) = Contains-permutation all arrivals (ranked p l (line_at lines l)) moved there in
          (now.0, now.1, ap (λ (a : Arrival). a.line) (get_or_default arrivals now.0 no_arrival (ranked p l (line_at lines l)) now.1 ∙ now.2));
    }
