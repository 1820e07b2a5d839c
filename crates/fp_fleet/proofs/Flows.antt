-- Trucks that leave or arrive at terminals, each up to a moment of its own, counted line by line.
use Rattle.std.proofs.Common.{◌≡◌, ℕ, suc, ◌+◌, ◌-◌, ◌<◌, ◌≤◌, Bool, true, false, ◌&&◌, List, length, get_or, set, sym, ap, ◌∙◌, arith, get_or-set_other, get_or-set_same, ⊎_elim}
use Rattle.std.specs.Prelude.{◌==◌, nat_le, if◌then◌else◌}
use Rattle.std.proofs.lemmas.Bool.{and_from, and_left, and_right, cases_eq, cond-false, cond-true, eq-eqb, le-leb, lt-leb, ne_eqb}
use Rattle.fp_base_lists.specs.Below.{sum_below}
use Rattle.fp_base_lists.proofs.SumsBelow.{sum_below-has, sum_below-le}
use Rattle.fp_model.specs.Problem.{Problem}
use Rattle.fp_timetable.specs.declared.lines.TruckLine.{TruckLine}
use Rattle.fp_fleet.specs.Rosters.{arrival_of, head_of, line_at, tail_of, truck_total}

-- the terminals and the moments of lines by their numbers
abbrev pub tail_at : Problem → List TruckLine → ℕ → ℕ
tail_at p lines m = tail_of p (line_at lines m)

abbrev pub head_at : Problem → List TruckLine → ℕ → ℕ
head_at p lines m = head_of p (line_at lines m)

abbrev pub depart_at : List TruckLine → ℕ → ℕ
depart_at lines m = (line_at lines m).depart

abbrev pub arrive_at : Problem → List TruckLine → ℕ → ℕ
arrive_at p lines m = arrival_of p (line_at lines m)

abbrev pub trucks_at : List TruckLine → ℕ → ℕ
trucks_at lines m = (line_at lines m).trucks

-- whether the line with a number is counted at a terminal up to a moment
abbrev pub is_counted : (terminals moments : ℕ → ℕ) → (terminal moment m : ℕ) → Bool
is_counted terminals moments terminal moment m = (terminals m == terminal) && nat_le (moments m) moment

-- the trucks of the first lines that are counted
abbrev pub flow : (terminals moments trucks : ℕ → ℕ) → (lines terminal moment : ℕ) → ℕ
flow terminals moments trucks lines terminal moment = sum_below lines (λ m. if is_counted terminals moments terminal moment m then trucks m else 0)

-- counts are those of the first lines at each terminal, up to its moment
abbrev pub AreFlows : (terminals moments trucks : ℕ → ℕ) → (until : List ℕ) → (lines : ℕ) → (counts : List ℕ) → Type 0
AreFlows terminals moments trucks until lines counts = (v : ℕ) → v < length until →
    get_or counts v 0 ≡ flow terminals moments trucks lines v (get_or until v 0)

-- one more line that is counted
pub AreFlows-added : (terminals moments trucks : ℕ → ℕ) (until : List ℕ) (i : ℕ) (old new : List ℕ) → length old ≡ length until → terminals i < length old →
    moments i ≤ get_or until (terminals i) 0 → new ≡ set old (terminals i) (get_or old (terminals i) 0 + trucks i) →
    AreFlows terminals moments trucks until i old → AreFlows terminals moments trucks until (i + 1) new
AreFlows-added terminals moments trucks until i old new long inside by is flows = λ v lt.
    let k : ℕ = terminals i in
    let more : i + 1 ≡ suc i = omega arith in
    let whole : flow terminals moments trucks (i + 1) v (get_or until v 0)
    ≡ (if is_counted terminals moments v (get_or until v 0) i then trucks i else 0) + flow terminals moments trucks i v (get_or until v 0) =
    ap (λ (n : ℕ). flow terminals moments trucks n v (get_or until v 0)) more in
    let there : get_or new v 0 ≡ get_or (set old k (get_or old k 0 + trucks i)) v 0 = ap (λ (l : List ℕ). get_or l v 0) is in
    ⊎_elim
    (λ (same : v ≡ k).
    let counted : is_counted terminals moments v (get_or until v 0) i ≡ true =
    and_from (k == v) (nat_le (moments i) (get_or until v 0)) (eq-eqb k v (sym same))
    (le-leb (moments i) (get_or until v 0) (omega (arith, by, ap (λ (j : ℕ). get_or until j 0) same))) in
    let now : get_or (set old k (get_or old k 0 + trucks i)) v 0 ≡ get_or old k 0 + trucks i =
    ap (λ (j : ℕ). get_or (set old k (get_or old k 0 + trucks i)) j 0) same ∙ get_or-set_same old k (get_or old k 0 + trucks i) 0 inside in
    omega (arith, whole, there, now, ap (λ (j : ℕ). get_or old j 0) same, flows v lt, cond-true (is_counted terminals moments v (get_or until v 0) i) (trucks i) 0 counted))
    (λ (other : v ≡ k → ⊥).
    let passed : is_counted terminals moments v (get_or until v 0) i ≡ false =
    and_left (k == v) (nat_le (moments i) (get_or until v 0)) (ne_eqb k v (λ e. other (sym e))) in
    omega (
      arith,
      whole,
      there,
      get_or-set_other old k v (get_or old k 0 + trucks i) 0 other,
      flows v lt,
      cond-false (is_counted terminals moments v (get_or until v 0) i) (trucks i) 0 passed,
    ))
    (cases_eq v k)

-- one more line that is too late
pub AreFlows-passed : (terminals moments trucks : ℕ → ℕ) (until : List ℕ) (i : ℕ) (counts : List ℕ) → get_or until (terminals i) 0 < moments i →
    AreFlows terminals moments trucks until i counts → AreFlows terminals moments trucks until (i + 1) counts
AreFlows-passed terminals moments trucks until i counts late flows = λ v lt.
    let k : ℕ = terminals i in
    let more : i + 1 ≡ suc i = omega arith in
    let whole : flow terminals moments trucks (i + 1) v (get_or until v 0)
    ≡ (if is_counted terminals moments v (get_or until v 0) i then trucks i else 0) + flow terminals moments trucks i v (get_or until v 0) =
    ap (λ (n : ℕ). flow terminals moments trucks n v (get_or until v 0)) more in
    let passed : is_counted terminals moments v (get_or until v 0) i ≡ false =
    ⊎_elim
    (λ (same : v ≡ k).
    and_right (k == v) (nat_le (moments i) (get_or until v 0))
    (lt-leb (moments i) (get_or until v 0) (omega (arith, late, ap (λ (j : ℕ). get_or until j 0) same))))
    (λ (other : v ≡ k → ⊥). and_left (k == v) (nat_le (moments i) (get_or until v 0)) (ne_eqb k v (λ e. other (sym e))))
    (cases_eq v k) in
    omega (arith, whole, flows v lt, cond-false (is_counted terminals moments v (get_or until v 0) i) (trucks i) 0 passed)

-- the trucks that are counted and those of the next line are no more than all
pub flow-le : (terminals moments : ℕ → ℕ) (lines : List TruckLine) (i terminal moment : ℕ) → i < length lines →
    flow terminals moments (trucks_at lines) i terminal moment + trucks_at lines i ≤ truck_total lines
flow-le terminals moments lines i terminal moment lt =
    let n : ℕ = length lines - suc i in
    let all : suc i + n ≡ length lines = omega arith in
    omega (
      arith,
      sum_below-le i (λ m. if is_counted terminals moments terminal moment m then trucks_at lines m else 0) (trucks_at lines)
          (λ m h. kept (is_counted terminals moments terminal moment m) (trucks_at lines m)),
      sum_below-has (trucks_at lines) i n,
      ap (λ (k : ℕ). sum_below k (trucks_at lines)) all,
    )
  where
    kept : (b : Bool) (m : ℕ) → (if b then m else 0) ≤ m
    kept true m = omega arith
    kept false m = omega arith
