-- Turns in another order: they count the same, and in the order of their lines they ascend.
use Rattle.std.proofs.Common.{◌≡◌, ◌≢◌, ℕ, ◌<◌, ◌≤◌, List, length, get_or, map, inl, inr, ⊎_elim, refl, sym, ◌∙◌, arith}
use Rattle.std.specs.Prelude.{◌==◌, nat_eq, nat_le, All, AllPairs, if◌then◌else◌}
use Rattle.std.specs.List.{IsDistinct}
use Rattle.std.specs.List.Sorted.{IsNonDecreasingBy, IsPermutation}
use Rattle.std.proofs.Math.ListN.{length-map}
use Rattle.std.proofs.Math.Nat.{eq-or-lt_of_le}
use Rattle.std.proofs.lemmas.Bool.Decides.{Decides-eqb}
use Rattle.std.proofs.lemmas.List.{get_or-map as get_or_map}
use Rattle.std.proofs.lemmas.List.Elements.{All-weaker}
use Rattle.std.proofs.lemmas.List.Sorted.{All-permutation, IsPermutation-map, sum_by-IsPermutation}
use Rattle.std.proofs.lemmas.Map.Keys.{IsDistinct-IsPermutation}
use Rattle.std.proofs.lemmas.Map.Made.{AllPairs-from_IsDistinct, IsDistinct-from_AllPairs}
use Rattle.std.proofs.lemmas.Bool.{cases_eq, eq-eqb, ne_eqb}
use Rattle.fp_model.specs.Problem.{Problem}
use Rattle.fp_timetable.specs.declared.lines.TruckLine.{TruckLine}
use Rattle.fp_fleet.specs.declared.fleets.Begin.{Begin}
use Rattle.fp_fleet.specs.declared.fleets.Turn.{Turn}
use Rattle.fp_fleet.specs.Fleets.{TurnsAscend}
use Rattle.fp_fleet.specs.Sweeps.{IsAssigned, IsThrifty, IsTurnTo, turn_rank}

flips : (x y : ℕ) → (x == y) ≡ (y == x)
flips x y =
    ⊎_elim
    (λ (same : x ≡ y). eq-eqb x y same ∙ sym (eq-eqb y x (sym same)))
    (λ (other : x ≡ y → ⊥). ne_eqb x y other ∙ sym (ne_eqb y x (λ e. other (sym e))))
    (cases_eq x y)

-- ranks that differ do so in any order
once-moved : (turns new : List Turn) → IsPermutation turns new → AllPairs (λ (s t : Turn). turn_rank s ≢ turn_rank t) turns →
    AllPairs (λ (s t : Turn). turn_rank s ≢ turn_rank t) new
once-moved turns new moved once =
    let none : Turn = record { before = 0; after = 0; count = 0 } in
    let ranks : List ℕ = map turn_rank turns in
    let ranks_new : List ℕ = map turn_rank new in
    let apart : AllPairs (λ (m n : ℕ). m ≢ n) ranks =
    λ i j d less lt same.
    let short : j < length turns = rw length-map at lt in
    once i j none less short (sym (get_or_map turn_rank turns i none d (omega (arith, less, short))) ∙ same ∙ get_or_map turn_rank turns j none d short) in
    let distinct : IsDistinct nat_eq ranks_new =
    IsDistinct-IsPermutation nat_eq flips ranks ranks_new (IsPermutation-map turn_rank turns new moved) (IsDistinct-from_AllPairs {eq = nat_eq} Decides-eqb ranks apart) in
    let apart_new : AllPairs (λ (m n : ℕ). m ≢ n) ranks_new = AllPairs-from_IsDistinct {eq = nat_eq} Decides-eqb ranks_new distinct in
    λ i j d less lt same.
    let long : length ranks_new ≡ length new = rw length-map refl in
    apart_new i j 0 less (omega (arith, lt, long)) (get_or_map turn_rank new i d 0 (omega (arith, less, lt)) ∙ same ∙ sym (get_or_map turn_rank new j d 0 lt))

-- lines stay served where turns change places
pub IsAssigned-moved : (p : Problem) (lines : List TruckLine) (begins : List Begin) (turns new : List Turn) → IsPermutation turns new → IsAssigned p lines begins turns →
    IsAssigned p lines begins new
IsAssigned-moved p lines begins turns new moved is = record {
  turn = All-permutation (IsTurnTo p lines (length lines)) turns new moved is.turn;
  once = once-moved turns new moved is.once;
  out = λ l lt. omega (arith, is.out l lt, sum_by-IsPermutation (λ (t : Turn). if t.before == l then t.count else 0) turns new moved);
  into = λ k lt. omega (arith, is.into k lt, sum_by-IsPermutation (λ (t : Turn). if t.after == k then t.count else 0) turns new moved);
  begin = is.begin;
  ascend = is.ascend;
  thrifty = All-weaker (IsThrifty p lines turns) (IsThrifty p lines new)
      (λ b thrifty l lt can.
      sum_by-IsPermutation (λ (t : Turn). if t.before == l then (if nat_le t.after b.line then t.count else 0) else 0) turns new moved ∙ thrifty l lt can)
      begins is.thrifty;
}

-- turns in the order of their ranks ascend
pub TurnsAscend-sorted : (p : Problem) (lines : List TruckLine) (turns : List Turn) → length lines ≤ 100001000 → All (IsTurnTo p lines (length lines)) turns →
    AllPairs (λ (s t : Turn). turn_rank s ≢ turn_rank t) turns → IsNonDecreasingBy turn_rank turns → TurnsAscend turns
TurnsAscend-sorted p lines turns few all once sorted = λ i j d less lt.
    let s : Turn = get_or turns i d in
    let t : Turn = get_or turns j d in
    let first : IsTurnTo p lines (length lines) s = all i d (omega (arith, less, lt)) in
    let second : IsTurnTo p lines (length lines) t = all j d lt in
    let le : turn_rank s ≤ turn_rank t = sorted i j d (omega (arith, less)) lt in
    let apart : turn_rank s ≢ turn_rank t = once i j d less lt in
    let below : turn_rank s < turn_rank t = ⊎_elim (λ (same : turn_rank s ≡ turn_rank t). absurd (apart same)) (λ (h : turn_rank s < turn_rank t). h) (eq-or-lt_of_le le) in
    ⊎_elim
    (λ (same : s.before ≡ t.before). inr (same, omega (arith, below, same)))
    (λ (before : s.before < t.before). inl before)
    (eq-or-lt_of_le (omega (arith, below, first.after, second.after, few)))
