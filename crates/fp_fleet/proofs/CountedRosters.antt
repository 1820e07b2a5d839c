-- Lists of begins and of turns are a roster exactly where their counts are those of one.
use Rattle.std.proofs.Common.{◌≡◌, ℕ, ◌+◌, ◌<◌, ◌≤◌, Bool, true, false, List, [], ◌∷◌, length, get_or, refl, ◌∙◌, subst, arith, ⊎_elim}
use Rattle.std.specs.Prelude.{◌==◌, All, sum_by, if◌then◌else◌}
use Rattle.std.specs.List.{AllByRecursion}
use Rattle.std.proofs.lemmas.Bool.{cases_Bool, cases_lt, cond-false, cond-true, eq-eqb, eqb-true}
use Rattle.std.proofs.lemmas.List.Elements.{All-weaker, recursion_from_All}
use Rattle.std.proofs.lemmas.List.Sums.{sum_by-cons, sum_by_more_le}
use Rattle.fp_base_lists.specs.Below.{sum_below}
use Rattle.fp_base_lists.proofs.Sums.{sum_by-same}
use Rattle.fp_base_lists.proofs.SumsBelow.{sum_below-same, sum_below-le}
use Rattle.fp_model.specs.Problem.{Problem}
use Rattle.fp_timetable.specs.declared.lines.TruckLine.{TruckLine}
use Rattle.fp_fleet.specs.declared.fleets.Begin.{Begin}
use Rattle.fp_fleet.specs.declared.fleets.Turn.{Turn}
use Rattle.fp_fleet.specs.Counts.{begin_count, into_count, out_count, turn_count}
use Rattle.fp_fleet.specs.Fits.{TurnMeets}
use Rattle.fp_fleet.specs.Fleets.{AreRoster, BeginExists, TurnExists}
use Rattle.fp_fleet.specs.Rosters.{CanTurn, IsRoster, line_at, roster_size, truck_total}
use Rattle.fp_fleet.proofs.NumberSums.{sum_below-gathered_all}

-- the trucks that begin, line by line
pub roster_size-begins : (lines : ℕ) (begins : List Begin) → All (BeginExists lines) begins →
    roster_size lines (begin_count begins) ≡ sum_by (λ (b : Begin). b.count) begins
roster_size-begins lines begins exist = sum_below-gathered_all (λ (b : Begin). b.line) (λ (b : Begin). b.count) lines begins exist

-- the trucks that turn to a line, line by line
turn_count-into : (lines : ℕ) (turns : List Turn) (m : ℕ) → All (TurnExists lines) turns →
    sum_below lines (λ l. turn_count turns l m) ≡ into_count turns m
turn_count-into lines turns m exist =
    sum_below-gathered_all (λ (t : Turn). t.before) (λ (t : Turn). if t.after == m then t.count else 0) lines turns
    (All-weaker (TurnExists lines) (λ (t : Turn). t.before < lines) (λ t h. h.0) turns exist)

kept-both : (a b : Bool) (n : ℕ) → (if a then (if b then n else 0) else 0) ≡ (if b then (if a then n else 0) else 0)
kept-both true b n = refl
kept-both false true n = refl
kept-both false false n = refl

-- the trucks that turn from one line to another, by the line after
pub turn_count-after : (turns : List Turn) (l m : ℕ) → turn_count turns l m ≡ sum_by (λ (t : Turn). if t.after == m then (if t.before == l then t.count else 0) else 0) turns
turn_count-after turns l m =
    sum_by-same (λ (t : Turn). if t.before == l then (if t.after == m then t.count else 0) else 0)
    (λ (t : Turn). if t.after == m then (if t.before == l then t.count else 0) else 0) (λ t. kept-both (t.before == l) (t.after == m) t.count) turns

-- the trucks that turn from a line, line by line
turn_count-out : (lines : ℕ) (turns : List Turn) (l : ℕ) → All (TurnExists lines) turns →
    sum_below lines (λ m. turn_count turns l m) ≡ out_count turns l
turn_count-out lines turns l exist =
    sum_below-same lines (λ m. turn_count turns l m) (λ m. sum_by (λ (t : Turn). if t.after == m then (if t.before == l then t.count else 0) else 0) turns)
    (λ m h. turn_count-after turns l m)
    ∙ sum_below-gathered_all (λ (t : Turn). t.after) (λ (t : Turn). if t.before == l then t.count else 0) lines turns
    (All-weaker (TurnExists lines) (λ (t : Turn). t.after < lines) (λ t h. h.1) turns exist)

-- what holds of each turn of some trucks holds of each two lines with turns
turn_count-each : (P : ℕ → ℕ → Type 0) (turns : List Turn) (l m : ℕ) → AllByRecursion (λ (t : Turn). 0 < t.count → P t.before t.after) turns →
    0 < turn_count turns l m → P l m
turn_count-each P [] l m all some = absurd (omega (arith, some))
turn_count-each P (t ∷ turns) l m all some =
    let whole : turn_count (t ∷ turns) l m ≡ (if t.before == l then (if t.after == m then t.count else 0) else 0) + turn_count turns l m =
    sum_by-cons (λ (s : Turn). if s.before == l then (if s.after == m then s.count else 0) else 0) t turns in
    ⊎_elim
    (λ (later : 0 < turn_count turns l m). turn_count-each P turns l m all.1 later)
    (λ (none : turn_count turns l m ≤ 0).
    ⊎_elim
    (λ (before : (t.before == l) ≡ true).
    ⊎_elim
    (λ (after : (t.after == m) ≡ true).
    let one : 0 < t.count = omega (arith, whole, some, none, cond-true (t.before == l) (if t.after == m then t.count else 0) 0 before, cond-true (t.after == m) t.count 0 after) in
    let from : P t.before m = subst (λ (k : ℕ). P t.before k) (eqb-true t.after m after) (all.0 one) in
    subst (λ (k : ℕ). P k m) (eqb-true t.before l before) from)
    (λ (other : (t.after == m) ≡ false).
    absurd (omega (arith, whole, some, none, cond-true (t.before == l) (if t.after == m then t.count else 0) 0 before, cond-false (t.after == m) t.count 0 other)))
    (cases_Bool (t.after == m)))
    (λ (other : (t.before == l) ≡ false). absurd (omega (arith, whole, some, none, cond-false (t.before == l) (if t.after == m then t.count else 0) 0 other)))
    (cases_Bool (t.before == l)))
    (cases_lt 0 (turn_count turns l m))

-- a turn of some trucks counts between its lines
turn_count-some : (turns : List Turn) (k : ℕ) (d : Turn) → k < length turns →
    (get_or turns k d).count ≤ turn_count turns (get_or turns k d).before (get_or turns k d).after
turn_count-some turns k d lt =
    let t : Turn = get_or turns k d in
    omega (
      arith,
      sum_by_more_le (λ (s : Turn). if s.before == t.before then (if s.after == t.after then s.count else 0) else 0) turns k d lt,
      cond-true (t.before == t.before) (if t.after == t.after then t.count else 0) 0 (eq-eqb t.before t.before refl),
      cond-true (t.after == t.after) t.count 0 (eq-eqb t.after t.after refl),
    )

-- lists of begins and of turns count as a roster does
pub record CountAsRoster (p : Problem) (lines : List TruckLine) (begins : List Begin) (turns : List Turn) : Type 0 where
  pub exist : All (BeginExists (length lines)) begins
  pub meet : All (TurnMeets p lines) turns
  pub into : (m : ℕ) → m < length lines → begin_count begins m + into_count turns m ≡ (line_at lines m).trucks
  pub out : (l : ℕ) → l < length lines → out_count turns l ≤ (line_at lines l).trucks

pub AreRoster-counted : (p : Problem) (lines : List TruckLine) (begins : List Begin) (turns : List Turn) → CountAsRoster p lines begins turns → AreRoster p lines begins turns
AreRoster-counted p lines begins turns counts =
    let exist : All (TurnExists (length lines)) turns = All-weaker (TurnMeets p lines) (TurnExists (length lines)) (λ t h. h.exists) turns counts.meet in
    record {
      begins_exist = counts.exist;
      turns_exist = exist;
      roster = record {
        meet = λ l m lt less some.
            turn_count-each (λ a b. CanTurn p (line_at lines a) (line_at lines b)) turns l m
            (recursion_from_All (λ (t : Turn). 0 < t.count → CanTurn p (line_at lines t.before) (line_at lines t.after)) turns
            (All-weaker (TurnMeets p lines) (λ (t : Turn). 0 < t.count → CanTurn p (line_at lines t.before) (line_at lines t.after)) (λ t h. h.meet) turns counts.meet))
            some;
        into = λ m lt. omega (arith, turn_count-into (length lines) turns m exist, counts.into m lt);
        out = λ l lt. omega (arith, turn_count-out (length lines) turns l exist, counts.out l lt);
      };
    }

pub CountAsRoster-roster : (p : Problem) (lines : List TruckLine) (begins : List Begin) (turns : List Turn) → AreRoster p lines begins turns → CountAsRoster p lines begins turns
CountAsRoster-roster p lines begins turns are = record {
  exist = are.begins_exist;
  meet = λ k d lt.
      let t : Turn = get_or turns k d in
      let there : TurnExists (length lines) t = are.turns_exist k d lt in
      record { exists = there; meet = λ some. are.roster.meet t.before t.after there.0 there.1 (omega (arith, some, turn_count-some turns k d lt)) };
  into = λ m lt. omega (arith, turn_count-into (length lines) turns m are.turns_exist, are.roster.into m lt);
  out = λ l lt. omega (arith, turn_count-out (length lines) turns l are.turns_exist, are.roster.out l lt);
}

-- a roster takes no more trucks than all lines have
pub size-le-total : (p : Problem) (lines : List TruckLine) (begins : ℕ → ℕ) (turns : ℕ → ℕ → ℕ) → IsRoster p lines begins turns →
    roster_size (length lines) begins ≤ truck_total lines
size-le-total p lines begins turns roster =
    sum_below-le (length lines) begins (λ m. (line_at lines m).trucks) (λ m lt. omega (arith, roster.into m lt))
