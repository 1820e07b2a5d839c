-- No roster is smaller than deficits of distinct terminals sum to: trucks that leave a terminal up to
-- a moment began there or had arrived there by then.
use Rattle.std.proofs.Common.{◌≡◌, ℕ, ◌+◌, ◌<◌, ◌≤◌, Bool, true, false, List, length, sym, ◌∙◌, arith, ⊎_elim}
use Rattle.std.specs.Prelude.{◌==◌, nat_le, if◌then◌else◌}
use Rattle.std.proofs.lemmas.Bool.{and_from, and_parts, cases_Bool, cases_lt, cond-false, cond-true, eq-eqb, eqb-true, le-leb, leb-true, true≢false}
use Rattle.fp_base_lists.specs.Below.{sum_below}
use Rattle.fp_base_lists.proofs.SumsBelow.{sum_below-same, sum_below-zero, sum_below-le}
use Rattle.fp_model.specs.Problem.{Problem}
use Rattle.fp_timetable.specs.declared.lines.TruckLine.{TruckLine}
use Rattle.fp_fleet.specs.Deficits.{arrives_by, arriving, leaves_by, leaving}
use Rattle.fp_fleet.specs.Rosters.{CanTurn, IsRoster, arrival_of, head_of, line_at, tail_of}
use Rattle.fp_fleet.proofs.NumberSums.{sum_below-both, sum_below-none, sum_below-swap}

-- the trucks that begin with lines that leave the terminal up to and with the moment
abbrev pub begun_by : Problem → List TruckLine → (ℕ → ℕ) → (terminal moment : ℕ) → ℕ
begun_by p lines begins terminal moment =
    sum_below (length lines) (λ m. if leaves_by p terminal moment (line_at lines m) then begins m else 0)

-- the trucks that turn from a line to lines that leave the terminal up to and with the moment
abbrev pub turned_from : Problem → List TruckLine → (ℕ → ℕ → ℕ) → (terminal moment : ℕ) → ℕ → ℕ
turned_from p lines turns terminal moment l =
    sum_below (length lines) (λ m. if leaves_by p terminal moment (line_at lines m) then turns l m else 0)

-- the trucks that turn to them
abbrev pub turned_by : Problem → List TruckLine → (ℕ → ℕ → ℕ) → (terminal moment : ℕ) → ℕ
turned_by p lines turns terminal moment = sum_below (length lines) (turned_from p lines turns terminal moment)

-- what a line has, begun and turned to it, where a test keeps it
kept-parts : (b : Bool) (n begin trucks : ℕ) (turns : ℕ → ℕ) → begin + sum_below n turns ≡ trucks →
    (if b then trucks else 0) ≡ (if b then begin else 0) + sum_below n (λ l. if b then turns l else 0)
kept-parts true n begin trucks turns whole = sym whole
kept-parts false n begin trucks turns whole = omega (arith, sum_below-zero n)

-- trucks that leave began or turned
pub leaving-parts : (p : Problem) (lines : List TruckLine) (begins : ℕ → ℕ) (turns : ℕ → ℕ → ℕ) (terminal moment : ℕ) → IsRoster p lines begins turns →
    leaving p lines terminal moment ≡ begun_by p lines begins terminal moment + turned_by p lines turns terminal moment
leaving-parts p lines begins turns terminal moment roster =
    let n : ℕ = length lines in
    let by : ℕ → Bool = λ m. leaves_by p terminal moment (line_at lines m) in
    let begun : ℕ → ℕ = λ m. if by m then begins m else 0 in
    let turned : ℕ → ℕ = λ m. sum_below n (λ l. if by m then turns l m else 0) in
    let each : leaving p lines terminal moment ≡ sum_below n (λ m. begun m + turned m) =
    sum_below-same n (λ m. if by m then (line_at lines m).trucks else 0) (λ m. begun m + turned m)
    (λ m h. kept-parts (by m) n (begins m) (line_at lines m).trucks (λ l. turns l m) (roster.into m h)) in
    omega (arith, each, sum_below-both n begun turned, sum_below-swap n n (λ m l. if by m then turns l m else 0))

-- a line from which trucks turn to one that leaves the terminal by the moment has arrived there by then
arrives-from_turn : (p : Problem) (t u : TruckLine) (terminal moment : ℕ) → CanTurn p t u → leaves_by p terminal moment u ≡ true →
    arrives_by p terminal moment t ≡ true
arrives-from_turn p t u terminal moment can leaves =
    let parts = and_parts (tail_of p u == terminal) (nat_le u.depart moment) leaves in
    let here : tail_of p u ≡ terminal = eqb-true (tail_of p u) terminal parts.0 in
    let soon : u.depart ≤ moment = leb-true u.depart moment parts.1 in
    and_from (head_of p t == terminal) (nat_le (arrival_of p t) moment)
    (eq-eqb (head_of p t) terminal (can.0 ∙ here))
    (le-leb (arrival_of p t) moment (omega (arith, can.1, soon)))

-- so many trucks as a line has at most turn from it, and none where it hasn't arrived there by then
turned-le : (p : Problem) (lines : List TruckLine) (begins : ℕ → ℕ) (turns : ℕ → ℕ → ℕ) (terminal moment l : ℕ) → IsRoster p lines begins turns → l < length lines →
    turned_from p lines turns terminal moment l ≤ (if arrives_by p terminal moment (line_at lines l) then (line_at lines l).trucks else 0)
turned-le p lines begins turns terminal moment l roster lt =
    let n : ℕ = length lines in
    let t : TruckLine = line_at lines l in
    let by : ℕ → Bool = λ m. leaves_by p terminal moment (line_at lines m) in
    ⊎_elim
    (λ (here : arrives_by p terminal moment t ≡ true).
    omega (
      arith,
      cond-true (arrives_by p terminal moment t) t.trucks 0 here,
      roster.out l lt,
      sum_below-le n (λ m. if by m then turns l m else 0) (λ m. turns l m) (λ m h. kept-le (by m) (turns l m)),
    ))
    (λ (away : arrives_by p terminal moment t ≡ false).
    let none : (m : ℕ) → m < n → (if by m then turns l m else 0) ≡ 0 =
    λ m h.
    ⊎_elim
    (λ (leaves : by m ≡ true).
    ⊎_elim
    (λ (some : 0 < turns l m).
    absurd (true≢false (sym (arrives-from_turn p t (line_at lines m) terminal moment (roster.meet l m lt h some) leaves) ∙ away)))
    (λ (zero : turns l m ≤ 0). omega (arith, cond-true (by m) (turns l m) 0 leaves, zero))
    (cases_lt 0 (turns l m)))
    (λ (other : by m ≡ false). cond-false (by m) (turns l m) 0 other)
    (cases_Bool (by m)) in
    omega (arith, cond-false (arrives_by p terminal moment t) t.trucks 0 away, sum_below-none n (λ m. if by m then turns l m else 0) none))
    (cases_Bool (arrives_by p terminal moment t))
  where
    kept-le : (b : Bool) (m : ℕ) → (if b then m else 0) ≤ m
    kept-le true m = omega arith
    kept-le false m = omega arith

pub turned-le-arriving : (p : Problem) (lines : List TruckLine) (begins : ℕ → ℕ) (turns : ℕ → ℕ → ℕ) (terminal moment : ℕ) → IsRoster p lines begins turns →
    turned_by p lines turns terminal moment ≤ arriving p lines terminal moment
turned-le-arriving p lines begins turns terminal moment roster =
    sum_below-le (length lines) (turned_from p lines turns terminal moment)
    (λ l. if arrives_by p terminal moment (line_at lines l) then (line_at lines l).trucks else 0)
    (λ l h. turned-le p lines begins turns terminal moment l roster h)

-- trucks that leave a terminal up to a moment began there up to then or had arrived there by then
pub leaving-le : (p : Problem) (lines : List TruckLine) (begins : ℕ → ℕ) (turns : ℕ → ℕ → ℕ) (terminal moment : ℕ) → IsRoster p lines begins turns →
    leaving p lines terminal moment ≤ arriving p lines terminal moment + begun_by p lines begins terminal moment
leaving-le p lines begins turns terminal moment roster =
    omega (arith, leaving-parts p lines begins turns terminal moment roster, turned-le-arriving p lines begins turns terminal moment roster)
