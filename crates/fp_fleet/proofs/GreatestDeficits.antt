-- Where trucks turn whenever they can, the trucks that begin at a terminal are its greatest deficit,
-- and the last moment when some begin is the least that has it.
use Rattle.std.proofs.Common.{◌≡◌, ℕ, ◌<◌, ◌≤◌, Bool, true, false, ◌&&◌, List, length, get_or, refl, sym, ap, ◌∙◌, arith, ⊎_elim}
use Rattle.std.specs.Prelude.{◌==◌, nat_le, sum_by, All, if◌then◌else◌}
use Rattle.std.proofs.lemmas.Bool.{and_from, and_left, and_parts, and_right, cases_Bool, cond-false, cond-true, eq-eqb, eqb-true, le-leb, leb-true, leb-false, lt-leb, ne_eqb}
use Rattle.std.proofs.lemmas.List.Elements.{All-weaker}
use Rattle.std.proofs.lemmas.List.Sums.{sum_by_more_le}
use Rattle.fp_base_lists.proofs.SumsBelow.{sum_below-same, sum_below-le}
use Rattle.fp_model.specs.Problem.{Problem}
use Rattle.fp_timetable.specs.declared.lines.TruckLine.{TruckLine}
use Rattle.fp_fleet.specs.declared.fleets.Begin.{Begin}
use Rattle.fp_fleet.specs.declared.fleets.Need.{Need}
use Rattle.fp_fleet.specs.declared.fleets.Turn.{Turn}
use Rattle.fp_fleet.specs.Counts.{begin_count, turn_count}
use Rattle.fp_fleet.specs.Deficits.{IsGreatestDeficit, arrives_by, arriving, leaves_by}
use Rattle.fp_fleet.specs.Fits.{TurnMeets}
use Rattle.fp_fleet.specs.Fleets.{AreRoster, BeginExists}
use Rattle.fp_fleet.specs.NeedTables.{BeginsThen, IsNeedOf, begin_depart, begin_tail, begun_in, no_begin}
use Rattle.fp_fleet.specs.Rosters.{CanTurn, IsRoster, arrival_of, head_of, line_at, tail_of}
use Rattle.fp_fleet.specs.Sweeps.{IsAssigned, IsBeginBelow, IsTimetable, IsTurnTo, until_count}
use Rattle.fp_fleet.proofs.AddedTurns.{kept-zero, sum-none}
use Rattle.fp_fleet.proofs.CountedRosters.{AreRoster-counted, CountAsRoster, turn_count-after}
use Rattle.fp_fleet.proofs.RosterBounds.{begun_by, leaving-le, leaving-parts, turned-le-arriving, turned_by, turned_from}
use Rattle.fp_fleet.proofs.SmallestRosters.{begun_at, begun_by-le}
use Rattle.fp_fleet.proofs.StrictSums.{sum_below-lt, sum_below-where, sum_by-le_each}

-- lines that are served have a roster
pub CountAsRoster-assigned : (p : Problem) (lines : List TruckLine) (begins : List Begin) (turns : List Turn) → IsAssigned p lines begins turns → CountAsRoster p lines begins turns
CountAsRoster-assigned p lines begins turns is = record {
  exist = All-weaker (IsBeginBelow (length lines)) (BeginExists (length lines)) (λ b h. h.0) begins is.begin;
  meet = All-weaker (IsTurnTo p lines (length lines)) (TurnMeets p lines) (λ t h. record { exists = (h.before, h.after); meet = λ some. h.can }) turns is.turn;
  into = is.into;
  out = is.out;
}

pub roster-assigned : (p : Problem) (lines : List TruckLine) (begins : List Begin) (turns : List Turn) → IsAssigned p lines begins turns →
    IsRoster p lines (begin_count begins) (turn_count turns)
roster-assigned p lines begins turns is =
    let are : AreRoster p lines begins turns = AreRoster-counted p lines begins turns (CountAsRoster-assigned p lines begins turns is) in
    are.roster

-- the trucks that begin at a terminal, line by line
pub begun_at-begins : (p : Problem) (lines : List TruckLine) (begins : List Begin) (v : ℕ) → All (IsBeginBelow (length lines)) begins →
    begun_at p lines (begin_count begins) v ≡ begun_in p lines begins v
begun_at-begins p lines begins v below =
    sum_below-where (λ (b : Begin). b.line) (λ (b : Begin). b.count) (λ m. tail_of p (line_at lines m) == v) (length lines) begins
    (All-weaker (IsBeginBelow (length lines)) (λ (b : Begin). b.line < length lines) (λ b h. h.0) begins below)

-- no trucks begin at a terminal after the last moment
begun_by-last : (p : Problem) (lines : List TruckLine) (begins : List Begin) (v moment : ℕ) →
    All (λ (b : Begin). begin_tail p lines b ≡ v → begin_depart lines b ≤ moment) begins →
    begun_by p lines (begin_count begins) v moment ≡ begun_at p lines (begin_count begins) v
begun_by-last p lines begins v moment last =
    sum_below-same (length lines) (λ m. if leaves_by p v moment (line_at lines m) then begin_count begins m else 0)
    (λ m. if tail_of p (line_at lines m) == v then begin_count begins m else 0)
    (λ m lt.
    let n : ℕ = begin_count begins m in
    let here : Bool = tail_of p (line_at lines m) == v in
    let soon : Bool = nat_le (line_at lines m).depart moment in
    ⊎_elim
    (λ (at : here ≡ true).
    ⊎_elim
    (λ (by : soon ≡ true). cond-true (here && soon) n 0 (and_from here soon at by) ∙ sym (cond-true here n 0 at))
    (λ (late : soon ≡ false).
    let tail : tail_of p (line_at lines m) ≡ v = eqb-true (tail_of p (line_at lines m)) v at in
    let none : n ≡ 0 =
    sum-none (λ (b : Begin). if b.line == m then b.count else 0) begins
    (All-weaker (λ (b : Begin). begin_tail p lines b ≡ v → begin_depart lines b ≤ moment) (λ (b : Begin). (if b.line == m then b.count else 0) ≡ 0)
    (λ b h. cond-false (b.line == m) b.count 0 (ne_eqb b.line m (λ e.
    omega (
      arith,
      h (ap (λ (k : ℕ). tail_of p (line_at lines k)) e ∙ tail),
      ap (λ (k : ℕ). (line_at lines k).depart) e,
      leb-false (line_at lines m).depart moment late,
    )))) begins last) in
    kept-zero (here && soon) n none ∙ sym (kept-zero here n none))
    (cases_Bool soon))
    (λ (other : here ≡ false). cond-false (here && soon) n 0 (and_left here soon other) ∙ sym (cond-false here n 0 other))
    (cases_Bool here))

turned_from-turns : (p : Problem) (lines : List TruckLine) (turns : List Turn) (v moment l : ℕ) → All (IsTurnTo p lines (length lines)) turns →
    turned_from p lines (turn_count turns) v moment l ≡ sum_by (λ (t : Turn). if leaves_by p v moment (line_at lines t.after) then (if t.before == l then t.count else 0) else 0) turns
turned_from-turns p lines turns v moment l all =
    sum_below-same (length lines) (λ m. if leaves_by p v moment (line_at lines m) then turn_count turns l m else 0)
    (λ m. if leaves_by p v moment (line_at lines m) then sum_by (λ (t : Turn). if t.after == m then (if t.before == l then t.count else 0) else 0) turns else 0)
    (λ m lt. ap (λ (n : ℕ). if leaves_by p v moment (line_at lines m) then n else 0) (turn_count-after turns l m))
    ∙ sum_below-where (λ (t : Turn). t.after) (λ (t : Turn). if t.before == l then t.count else 0) (λ m. leaves_by p v moment (line_at lines m)) (length lines) turns
    (All-weaker (IsTurnTo p lines (length lines)) (λ (t : Turn). t.after < length lines) (λ t h. h.after) turns all)

-- trucks that turn from a line up to another turn to lines that leave by then
until-le : (p : Problem) (lines : List TruckLine) (turns : List Turn) (v moment l m : ℕ) → IsTimetable p lines → All (IsTurnTo p lines (length lines)) turns → m < length lines →
    head_of p (line_at lines l) ≡ v → (line_at lines m).depart ≡ moment → until_count turns l m ≤ turned_from p lines (turn_count turns) v moment l
until-le p lines turns v moment l m timetable all lt head depart =
    omega (
      arith,
      turned_from-turns p lines turns v moment l all,
      sum_by-le_each (λ (t : Turn). if t.before == l then (if nat_le t.after m then t.count else 0) else 0)
          (λ (t : Turn). if leaves_by p v moment (line_at lines t.after) then (if t.before == l then t.count else 0) else 0) turns
          (All-weaker (IsTurnTo p lines (length lines))
          (λ (t : Turn). (if t.before == l then (if nat_le t.after m then t.count else 0) else 0) ≤ (if leaves_by p v moment (line_at lines t.after) then (if t.before == l then t.count else 0) else 0))
          each turns all),
    )
  where
    each : (t : Turn) → IsTurnTo p lines (length lines) t →
        (if t.before == l then (if nat_le t.after m then t.count else 0) else 0) ≤ (if leaves_by p v moment (line_at lines t.after) then (if t.before == l then t.count else 0) else 0)
    each t is =
        ⊎_elim
        (λ (before : (t.before == l) ≡ true).
        ⊎_elim
        (λ (after : nat_le t.after m ≡ true).
        let same : t.before ≡ l = eqb-true t.before l before in
        let tail : tail_of p (line_at lines t.after) ≡ v = sym is.can.0 ∙ ap (λ (k : ℕ). head_of p (line_at lines k)) same ∙ head in
        let soon : (line_at lines t.after).depart ≤ moment = omega (arith, timetable.rise t.after m (leb-true t.after m after) lt, depart) in
        let leaves : leaves_by p v moment (line_at lines t.after) ≡ true =
        and_from (tail_of p (line_at lines t.after) == v) (nat_le (line_at lines t.after).depart moment) (eq-eqb (tail_of p (line_at lines t.after)) v tail)
        (le-leb (line_at lines t.after).depart moment soon) in
        omega (
          arith,
          cond-true (t.before == l) (if nat_le t.after m then t.count else 0) 0 before,
          cond-true (nat_le t.after m) t.count 0 after,
          cond-true (leaves_by p v moment (line_at lines t.after)) (if t.before == l then t.count else 0) 0 leaves,
          cond-true (t.before == l) t.count 0 before,
        ))
        (λ (later : nat_le t.after m ≡ false).
        omega (arith, cond-true (t.before == l) (if nat_le t.after m then t.count else 0) 0 before, cond-false (nat_le t.after m) t.count 0 later))
        (cases_Bool (nat_le t.after m)))
        (λ (other : (t.before == l) ≡ false). omega (arith, cond-false (t.before == l) (if nat_le t.after m then t.count else 0) 0 other))
        (cases_Bool (t.before == l))

-- where trucks begin, all that have arrived by then turn to lines that leave by then
arriving-le-turned : (p : Problem) (lines : List TruckLine) (begins : List Begin) (turns : List Turn) (v moment k : ℕ) → IsTimetable p lines → IsAssigned p lines begins turns →
    k < length begins → begin_tail p lines (get_or begins k no_begin) ≡ v → begin_depart lines (get_or begins k no_begin) ≡ moment →
    arriving p lines v moment ≤ turned_by p lines (turn_count turns) v moment
arriving-le-turned p lines begins turns v moment k timetable is inside tail depart =
    sum_below-le (length lines) (λ l. if arrives_by p v moment (line_at lines l) then (line_at lines l).trucks else 0) (turned_from p lines (turn_count turns) v moment)
    (λ l lt.
    let b : Begin = get_or begins k no_begin in
    let t : TruckLine = line_at lines l in
    ⊎_elim
    (λ (here : arrives_by p v moment t ≡ true).
    let parts = and_parts (head_of p t == v) (nat_le (arrival_of p t) moment) here in
    let head : head_of p t ≡ v = eqb-true (head_of p t) v parts.0 in
    let soon : arrival_of p t ≤ moment = leb-true (arrival_of p t) moment parts.1 in
    let can : CanTurn p t (line_at lines b.line) = (head ∙ sym tail, omega (arith, soon, depart)) in
    omega (
      arith,
      cond-true (arrives_by p v moment t) t.trucks 0 here,
      is.thrifty k no_begin inside l lt can,
      until-le p lines turns v moment l b.line timetable is.turn (is.begin k no_begin inside).0 head depart,
    ))
    (λ (away : arrives_by p v moment t ≡ false). omega (arith, cond-false (arrives_by p v moment t) t.trucks 0 away))
    (cases_Bool (arrives_by p v moment t)))

-- fewer trucks begin before the last moment
begun_by-before : (p : Problem) (lines : List TruckLine) (begins : List Begin) (v moment before k : ℕ) → All (IsBeginBelow (length lines)) begins →
    k < length begins → begin_tail p lines (get_or begins k no_begin) ≡ v → begin_depart lines (get_or begins k no_begin) ≡ moment → before < moment →
    begun_by p lines (begin_count begins) v before < begun_at p lines (begin_count begins) v
begun_by-before p lines begins v moment before k below inside tail depart less =
    let b : Begin = get_or begins k no_begin in
    let is : IsBeginBelow (length lines) b = below k no_begin inside in
    let n : ℕ = begin_count begins b.line in
    let some : b.count ≤ n =
    omega (
      arith,
      sum_by_more_le (λ (c : Begin). if c.line == b.line then c.count else 0) begins k no_begin inside,
      cond-true (b.line == b.line) b.count 0 (eq-eqb b.line b.line refl),
    ) in
    let late : leaves_by p v before (line_at lines b.line) ≡ false =
    and_right (tail_of p (line_at lines b.line) == v) (nat_le (line_at lines b.line).depart before) (lt-leb (line_at lines b.line).depart before (omega (arith, depart, less))) in
    sum_below-lt (length lines) (λ m. if leaves_by p v before (line_at lines m) then begin_count begins m else 0)
    (λ m. if tail_of p (line_at lines m) == v then begin_count begins m else 0) b.line is.0
    (λ m lt. kept-le (tail_of p (line_at lines m) == v) (nat_le (line_at lines m).depart before) (begin_count begins m))
    (omega (
      arith,
      cond-false (leaves_by p v before (line_at lines b.line)) n 0 late,
      cond-true (tail_of p (line_at lines b.line) == v) n 0 (eq-eqb (tail_of p (line_at lines b.line)) v tail),
      some,
      is.1,
    ))
  where
    kept-le : (a c : Bool) (n : ℕ) → (if a && c then n else 0) ≤ (if a then n else 0)
    kept-le true true n = omega arith
    kept-le true false n = omega arith
    kept-le false c n = omega arith

-- so the need of a terminal is its greatest deficit
pub IsGreatestDeficit-need : (p : Problem) (lines : List TruckLine) (begins : List Begin) (turns : List Turn) (need : Need) → IsTimetable p lines → IsAssigned p lines begins turns →
    IsNeedOf p lines begins need.terminal need → 0 < need.trucks → IsGreatestDeficit p lines need
IsGreatestDeficit-need p lines begins turns need timetable is of some =
    let v : ℕ = need.terminal in
    let roster : IsRoster p lines (begin_count begins) (turn_count turns) = roster-assigned p lines begins turns is in
    let all : begun_at p lines (begin_count begins) v ≡ need.trucks = begun_at-begins p lines begins v is.begin ∙ sym of.trucks in
    let there : BeginsThen p lines begins v need.at = of.some some in
    record {
      is = record {
        above = some;
        deficit = omega (
          arith,
          leaving-parts p lines (begin_count begins) (turn_count turns) v need.at roster,
          begun_by-last p lines begins v need.at of.last,
          all,
          turned-le-arriving p lines (begin_count begins) (turn_count turns) v need.at roster,
          arriving-le-turned p lines begins turns v need.at there.0 timetable is there.1 there.2 there.3,
        );
      };
      greatest = λ moment.
          omega (
            arith,
            leaving-le p lines (begin_count begins) (turn_count turns) v moment roster,
            begun_by-le p lines (begin_count begins) v moment,
            all,
          );
      least = λ moment less.
          omega (
            arith,
            leaving-le p lines (begin_count begins) (turn_count turns) v moment roster,
            begun_by-before p lines begins v need.at moment there.0 is.begin there.1 there.2 there.3 less,
            all,
          );
    }
