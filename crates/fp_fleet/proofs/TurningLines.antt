-- Trucks turn to a line: what holds before the first arrival, from one arrival to the next, and when
-- no arrival is left.
use Rattle.std.proofs.Common.{◌≡◌, ◌≢◌, ℕ, ◌+◌, ◌-◌, ◌<◌, ◌≤◌, List, length, get_or, inl, inr, ⊎_elim, refl, ap, ◌∙◌, arith, length-set}
use Rattle.std.specs.Prelude.{◌==◌, nat_le, All, if◌then◌else◌}
use Rattle.std.proofs.lemmas.Bool.{cases_lt, cond-false, cond-true, eq-eqb, lt-leb, ne_eqb}
use Rattle.std.proofs.lemmas.List.Elements.{All-weaker}
use Rattle.fp_model.specs.declared.limits.TheConstants.{LATEST}
use Rattle.fp_model.specs.Problem.{IsArc, Problem, arc_at, no_arc}
use Rattle.fp_timetable.specs.declared.lines.TruckLine.{TruckLine}
use Rattle.fp_timetable.specs.Order.{no_line}
use Rattle.fp_fleet.specs.declared.arrivals.Arrival.{Arrival}
use Rattle.fp_fleet.specs.declared.fleets.Turn.{Turn}
use Rattle.fp_fleet.specs.Arrivals.{AreArrivals, IsRanked, arrival_at, moment_rank, no_arrival}
use Rattle.fp_fleet.specs.Counts.{into_count}
use Rattle.fp_fleet.specs.Rosters.{CanTurn, arrival_of, head_of, line_at, tail_of}
use Rattle.fp_fleet.specs.Sweeps.{AddsTurn, AreSwept, AreTurning, HasHead, IsTimetable, IsTurnTo, turn_rank}
use Rattle.fp_fleet.proofs.AddedTurns.{All-added, AllPairs-added, idle-added, idle-less, kept-zero, sum-added, sum-none}

-- after the turns to a line no truck is idle
abbrev pub AreDone : ℕ → List Turn → List ℕ → Type 0
AreDone m turns idle = All (λ (t : Turn). t.after ≡ m → get_or idle t.before 0 ≡ 0) turns

-- a line arrives within two latest times
arrival-small : (p : Problem) (lines : List TruckLine) (l : ℕ) → IsTimetable p lines → l < length lines → arrival_of p (line_at lines l) ≤ 200000
arrival-small p lines l timetable lt =
    let arc : IsArc (length p.terminals) (arc_at p (line_at lines l).arc) =
    timetable.valid.parts.arcs (line_at lines l).arc no_arc (timetable.exist l no_line lt) in
    omega (arith, timetable.early l no_line lt, arc.within.time.1)

-- an arrival at a line's terminal by its departure can turn to it
CanTurn-rank : (p : Problem) (lines : List TruckLine) (a : Arrival) (m : ℕ) → IsTimetable p lines → IsRanked p lines a → m < length lines →
    moment_rank (tail_of p (line_at lines m)) 0 ≤ a.rank → a.rank ≤ moment_rank (tail_of p (line_at lines m)) (line_at lines m).depart →
    CanTurn p (line_at lines a.line) (line_at lines m)
CanTurn-rank p lines a m timetable ranked lt from by =
    let small : arrival_of p (line_at lines a.line) ≤ 200000 = arrival-small p lines a.line timetable ranked.0 in
    let early : (line_at lines m).depart ≤ LATEST = timetable.early m no_line lt in
    let same : head_of p (line_at lines a.line) ≡ tail_of p (line_at lines m) = omega (arith, small, early, ranked.1, from, by) in
    (same, omega (arith, small, early, ranked.1, from, by, same))

-- nothing has turned to a line yet
into-none : (p : Problem) (lines : List TruckLine) (m : ℕ) (turns : List Turn) → All (IsTurnTo p lines m) turns → into_count turns m ≡ 0
into-none p lines m turns all =
    sum-none (λ (t : Turn). if t.after == m then t.count else 0) turns
    (All-weaker (IsTurnTo p lines m) (λ (t : Turn). (if t.after == m then t.count else 0) ≡ 0)
    (λ t is. cond-false (t.after == m) t.count 0 (ne_eqb t.after m (λ e. omega (arith, e, is.after)))) turns all)

IsTurnTo-more : (p : Problem) (lines : List TruckLine) (m : ℕ) (t : Turn) → IsTurnTo p lines m t → IsTurnTo p lines (m + 1) t
IsTurnTo-more p lines m t is = record { before = is.before; after = omega (arith, is.after); some = is.some; can = is.can }

pub AreTurning-start : (p : Problem) (lines : List TruckLine) (arrivals : List Arrival) (m : ℕ) (turns : List Turn) (idle : List ℕ) (head : ℕ) →
    AreSwept p lines m turns idle → HasHead p lines arrivals idle (tail_of p (line_at lines m)) head →
    AreTurning p lines arrivals m turns idle turns idle (line_at lines m).trucks head
AreTurning-start p lines arrivals m turns idle head swept queue = record {
  swept = record {
    long = swept.long;
    turn = All-weaker (IsTurnTo p lines m) (IsTurnTo p lines (m + 1)) (IsTurnTo-more p lines m) turns swept.turn;
    out = swept.out;
    once = swept.once;
  };
  whole = omega (arith, into-none p lines m turns swept.turn);
  into = λ k lt. refl;
  until = λ l k lt. refl;
  less = λ l. omega arith;
  queue = queue;
}

pub AreDone-start : (p : Problem) (lines : List TruckLine) (m : ℕ) (turns : List Turn) (idle : List ℕ) → AreSwept p lines m turns idle → AreDone m turns idle
AreDone-start p lines m turns idle swept =
    All-weaker (IsTurnTo p lines m) (λ (t : Turn). t.after ≡ m → get_or idle t.before 0 ≡ 0) (λ t is e. absurd (omega (arith, e, is.after))) turns swept.turn

-- trucks of an arrival turn to the line
pub AreTurning-turn : (p : Problem) (lines : List TruckLine) (arrivals : List Arrival) (m : ℕ) (old : List Turn) (idle_old : List ℕ) (turns new : List Turn) (idle idle_new : List ℕ)
    (lacking at n : ℕ) → IsTimetable p lines → AreArrivals p lines arrivals → m < length lines → at < length arrivals →
    AreTurning p lines arrivals m old idle_old turns idle lacking at → AreDone m turns idle →
    (arrival_at arrivals at).rank ≤ moment_rank (tail_of p (line_at lines m)) (line_at lines m).depart →
    AddsTurn (record { before = (arrival_at arrivals at).line; after = m; count = n }) turns new idle idle_new → n ≤ lacking →
    AreTurning p lines arrivals m old idle_old new idle_new (lacking - n) at
AreTurning-turn p lines arrivals m old idle_old turns new idle idle_new lacking at n timetable are lt within turning done by adds few =
    let a : Arrival = arrival_at arrivals at in
    let t : Turn = record { before = a.line; after = m; count = n } in
    let ranked : IsRanked p lines a = are.ranks at no_arrival within in
    let inside : a.line < length idle = omega (arith, ranked.0, turning.swept.long) in
    let can : CanTurn p (line_at lines a.line) (line_at lines m) =
    CanTurn-rank p lines a m timetable ranked lt (turning.queue.after at (omega arith) within) by in
    let less : (l : ℕ) → get_or idle_new l 0 ≤ get_or idle l 0 = λ l. idle-less t turns new idle idle_new l adds inside in
    let into : (k : ℕ) → into_count new k ≡ into_count turns k + (if m == k then n else 0) =
    λ k. sum-added n (λ (s : Turn). if s.after == k then s.count else 0) t turns new adds.turns (kept-zero (m == k) n) in
    record {
      swept = record {
        long = omega (arith, ap length adds.idle, length-set idle a.line (get_or idle a.line 0 - n), turning.swept.long);
        turn = All-added n (IsTurnTo p lines (m + 1)) t turns new adds.turns turning.swept.turn
            (λ some. record { before = ranked.0; after = omega arith; some = some; can = can });
        out = λ l h.
            omega (
              arith,
              idle-added t turns new idle idle_new l adds inside,
              sum-added n (λ (s : Turn). if s.before == l then s.count else 0) t turns new adds.turns (kept-zero (a.line == l) n),
              turning.swept.out l h,
            );
        once = AllPairs-added n (λ (r s : Turn). turn_rank r ≢ turn_rank s) t turns new adds.turns turning.swept.once
            (λ some k d h same.
            let s : Turn = get_or turns k d in
            let is : IsTurnTo p lines (m + 1) s = turning.swept.turn k d h in
            let after : s.after ≡ m = omega (arith, same, is.after, lt, timetable.few) in
            let before : s.before ≡ a.line = omega (arith, same, after) in
            omega (arith, some, adds.enough, done k d h after, ap (λ (j : ℕ). get_or idle j 0) before));
      };
      whole = omega (arith, turning.whole, into m, cond-true (m == m) n 0 (eq-eqb m m refl), few);
      into = λ k h. omega (arith, turning.into k h, into k, cond-false (m == k) n 0 (ne_eqb m k (λ e. omega (arith, e, h))));
      until = λ l k h.
          let none : (if a.line == l then (if nat_le m k then n else 0) else 0) ≡ 0 =
          kept-zero (a.line == l) (if nat_le m k then n else 0) (cond-false (nat_le m k) n 0 (lt-leb m k h)) in
          omega (
            arith,
            sum-added n (λ (s : Turn). if s.before == l then (if nat_le s.after k then s.count else 0) else 0) t turns new adds.turns (λ zero. none),
            none,
            turning.until l k h,
          );
      less = λ l. omega (arith, less l, turning.less l);
      queue = record {
        within = turning.queue.within;
        spent = λ k h.
            ⊎_elim
            (λ (zero : get_or idle (arrival_at arrivals k).line 0 ≡ 0). inl (omega (arith, zero, less (arrival_at arrivals k).line)))
            (λ (other : head_of p (line_at lines (arrival_at arrivals k).line) ≢ tail_of p (line_at lines m)). inr other)
            (turning.queue.spent k h);
        after = turning.queue.after;
      };
    }

-- and where none is idle after it, the next arrival has its turn
pub AreTurning-next : (p : Problem) (lines : List TruckLine) (arrivals : List Arrival) (m : ℕ) (old : List Turn) (idle_old : List ℕ) (turns : List Turn) (idle : List ℕ) (lacking at : ℕ) →
    at < length arrivals → AreTurning p lines arrivals m old idle_old turns idle lacking at → get_or idle (arrival_at arrivals at).line 0 ≡ 0 →
    AreTurning p lines arrivals m old idle_old turns idle lacking (at + 1)
AreTurning-next p lines arrivals m old idle_old turns idle lacking at within turning zero = record {
  swept = turning.swept;
  whole = turning.whole;
  into = turning.into;
  until = turning.until;
  less = turning.less;
  queue = record {
    within = omega (arith, within);
    spent = λ k h.
        ⊎_elim
        (λ (before : k < at). turning.queue.spent k before)
        (λ (here : at ≤ k).
        let same : k ≡ at = omega (arith, here, h) in
        inl (ap (λ (j : ℕ). get_or idle (arrival_at arrivals j).line 0) same ∙ zero))
        (cases_lt k at);
    after = λ k from h. turning.queue.after k (omega (arith, from)) h;
  };
}

pub AreDone-next : (m : ℕ) (t : Turn) (turns new : List Turn) (idle idle_new : List ℕ) → AddsTurn t turns new idle idle_new → t.before < length idle →
    get_or idle_new t.before 0 ≡ 0 → AreDone m turns idle → AreDone m new idle_new
AreDone-next m t turns new idle idle_new adds inside zero done =
    All-added t.count (λ (s : Turn). s.after ≡ m → get_or idle_new s.before 0 ≡ 0) t turns new adds.turns
    (All-weaker (λ (s : Turn). s.after ≡ m → get_or idle s.before 0 ≡ 0) (λ (s : Turn). s.after ≡ m → get_or idle_new s.before 0 ≡ 0)
    (λ s was e. omega (arith, was e, idle-less t turns new idle idle_new s.before adds inside)) turns done)
    (λ some e. zero)
