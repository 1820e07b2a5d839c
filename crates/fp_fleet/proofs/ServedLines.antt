-- One more line is served: trucks have turned to it, and those that it lacked begin with it.
use Rattle.std.proofs.Common.{◌≡◌, ◌≢◌, ℕ, ◌+◌, ◌<◌, ◌≤◌, List, length, get_or, set, inl, inr, ⊎_elim, sym, ap, ◌∙◌, subst, arith, length-set, get_or-set_other, get_or-set_same}
use Rattle.std.specs.Prelude.{◌==◌, nat_le, All, if◌then◌else◌}
use Rattle.std.proofs.lemmas.Bool.{cases_eq, cases_lt, cond-false, cond-true, eq-eqb, le-leb, ne_eqb}
use Rattle.std.proofs.lemmas.List.Elements.{All-weaker, recursion_from_All}
use Rattle.fp_base_lists.proofs.Sums.{sum_by-same_each}
use Rattle.fp_model.specs.Problem.{Problem}
use Rattle.fp_timetable.specs.declared.lines.TruckLine.{TruckLine}
use Rattle.fp_fleet.specs.declared.arrivals.Arrival.{Arrival}
use Rattle.fp_fleet.specs.declared.fleets.Begin.{Begin}
use Rattle.fp_fleet.specs.declared.fleets.Turn.{Turn}
use Rattle.fp_fleet.specs.Arrivals.{AreArrivals, IsRanked, arrival_at, no_arrival}
use Rattle.fp_fleet.specs.Counts.{begin_count, into_count, out_count}
use Rattle.fp_fleet.specs.Rosters.{arrival_of, head_of, line_at, tail_of}
use Rattle.fp_fleet.specs.Sweeps.{AreServed, AreTurned, HasHead, IsBeginBelow, IsThrifty, IsTurnTo, until_count}
use Rattle.fp_fleet.proofs.AddedTurns.{All-added, AllPairs-added, kept-zero, sum-added, sum-none, with_counted}

-- all turns are to lines up to the last
until-all : (p : Problem) (lines : List TruckLine) (m l : ℕ) (turns : List Turn) → All (IsTurnTo p lines (m + 1)) turns → until_count turns l m ≡ out_count turns l
until-all p lines m l turns all =
    sum_by-same_each (λ (t : Turn). if t.before == l then (if nat_le t.after m then t.count else 0) else 0) (λ (t : Turn). if t.before == l then t.count else 0) turns
    (recursion_from_All (λ (t : Turn). (if t.before == l then (if nat_le t.after m then t.count else 0) else 0) ≡ (if t.before == l then t.count else 0)) turns
    (All-weaker (IsTurnTo p lines (m + 1)) (λ (t : Turn). (if t.before == l then (if nat_le t.after m then t.count else 0) else 0) ≡ (if t.before == l then t.count else 0))
    (λ t is. ap (λ (n : ℕ). if t.before == l then n else 0) (cond-true (nat_le t.after m) t.count 0 (le-leb t.after m (omega (arith, is.after))))) turns all))

-- where a line lacks trucks no truck that can turn to it is idle
thrifty-new : (p : Problem) (lines : List TruckLine) (arrivals : List Arrival) (m : ℕ) (old turns : List Turn) (idle_old idle : List ℕ) (lacking head : ℕ) →
    AreArrivals p lines arrivals → AreTurned p lines arrivals m old idle_old turns idle lacking head → 0 < lacking →
    IsThrifty p lines turns (record { line = m; count = lacking })
thrifty-new p lines arrivals m old turns idle_old idle lacking head are turned some = λ l lt can.
    let there = are.every l lt in
    let k : ℕ = there.0 in
    let a : Arrival = arrival_at arrivals k in
    let ranked : IsRanked p lines a = are.ranks k no_arrival there.1 in
    let heads : head_of p (line_at lines a.line) ≡ head_of p (line_at lines l) = ap (λ (n : ℕ). head_of p (line_at lines n)) there.2 in
    let arrive : arrival_of p (line_at lines a.line) ≡ arrival_of p (line_at lines l) = ap (λ (n : ℕ). arrival_of p (line_at lines n)) there.2 in
    let before : k < head =
    ⊎_elim
    (λ (h : k < head). h)
    (λ (h : head ≤ k). absurd (omega (arith, turned.late some k h there.1, ranked.1, heads, arrive, can.0, can.1)))
    (cases_lt k head) in
    let zero : get_or idle l 0 ≡ 0 =
    ⊎_elim
    (λ (none : get_or idle a.line 0 ≡ 0). sym (ap (λ (n : ℕ). get_or idle n 0) there.2) ∙ none)
    (λ (other : head_of p (line_at lines a.line) ≢ tail_of p (line_at lines m)). absurd (other (heads ∙ can.0)))
    (turned.turning.queue.spent k before) in
    omega (arith, until-all p lines m l turns turned.turning.swept.turn, turned.turning.swept.out l lt, zero)

pub AreServed-more : (p : Problem) (lines : List TruckLine) (arrivals : List Arrival) (m : ℕ) (begins begins_new : List Begin) (turns turns_new : List Turn) (idle idle_new heads heads_new : List ℕ)
    (lacking head : ℕ) → AreArrivals p lines arrivals → m < length lines → tail_of p (line_at lines m) < length p.terminals →
    AreServed p lines arrivals m begins turns idle heads → AreTurned p lines arrivals m turns idle turns_new idle_new lacking head →
    begins_new ≡ with_counted lacking begins (record { line = m; count = lacking }) → heads_new ≡ set heads (tail_of p (line_at lines m)) head →
    AreServed p lines arrivals (m + 1) begins_new turns_new idle_new heads_new
AreServed-more p lines arrivals m begins begins_new turns turns_new idle idle_new heads heads_new lacking head are lt inside served turned begun moved =
    let b : Begin = record { line = m; count = lacking } in
    let tail : ℕ = tail_of p (line_at lines m) in
    let counted : (k : ℕ) → begin_count begins_new k ≡ begin_count begins k + (if m == k then lacking else 0) =
    λ k. sum-added lacking (λ (c : Begin). if c.line == k then c.count else 0) b begins begins_new begun (kept-zero (m == k) lacking) in
    let none : begin_count begins m ≡ 0 =
    sum-none (λ (c : Begin). if c.line == m then c.count else 0) begins
    (All-weaker (IsBeginBelow m) (λ (c : Begin). (if c.line == m then c.count else 0) ≡ 0)
    (λ c is. cond-false (c.line == m) c.count 0 (ne_eqb c.line m (λ e. omega (arith, e, is.0)))) begins served.begin) in
    record {
      swept = turned.turning.swept;
      into = λ k h.
          ⊎_elim
          (λ (same : k ≡ m).
          let one : begin_count begins_new k ≡ lacking =
          omega (arith, counted k, ap (begin_count begins) same, none, cond-true (m == k) lacking 0 (eq-eqb m k (sym same))) in
          omega (arith, one, ap (into_count turns_new) same, ap (λ (n : ℕ). (line_at lines n).trucks) same, turned.turning.whole))
          (λ (other : k ≡ m → ⊥).
          let before : k < m = omega (arith, h, other) in
          omega (arith, counted k, cond-false (m == k) lacking 0 (ne_eqb m k (λ e. other (sym e))), served.into k before, turned.turning.into k before))
          (cases_eq k m);
      begin = All-added lacking (IsBeginBelow (m + 1)) b begins begins_new begun
          (All-weaker (IsBeginBelow m) (IsBeginBelow (m + 1)) (λ c is. (omega (arith, is.0), is.1)) begins served.begin) (λ some. (omega arith, some));
      ascend = AllPairs-added lacking (λ (c d : Begin). c.line < d.line) b begins begins_new begun served.ascend (λ some k d h. (served.begin k d h).0);
      thrifty = All-added lacking (IsThrifty p lines turns_new) b begins begins_new begun
          (λ k d h l below can. turned.turning.until l (get_or begins k d).line (served.begin k d h).0 ∙ served.thrifty k d h l below can)
          (thrifty-new p lines arrivals m turns turns_new idle idle_new lacking head are turned);
      long = ap length moved ∙ length-set heads tail head ∙ served.long;
      queue = λ v h.
          ⊎_elim
          (λ (same : v ≡ tail).
          let now : get_or heads_new v 0 ≡ head =
          ap (λ (xs : List ℕ). get_or xs v 0) moved ∙ ap (λ (j : ℕ). get_or (set heads tail head) j 0) same ∙ get_or-set_same heads tail head 0 (omega (arith, inside, served.long)) in
          subst (λ (k : ℕ). HasHead p lines arrivals idle_new v k) (sym now) (subst (λ (w : ℕ). HasHead p lines arrivals idle_new w head) (sym same) turned.turning.queue))
          (λ (other : v ≡ tail → ⊥).
          let now : get_or heads_new v 0 ≡ get_or heads v 0 = ap (λ (xs : List ℕ). get_or xs v 0) moved ∙ get_or-set_other heads tail v head 0 other in
          let was : HasHead p lines arrivals idle v (get_or heads v 0) = served.queue v h in
          subst (λ (k : ℕ). HasHead p lines arrivals idle_new v k) (sym now)
          (record {
            within = was.within;
            spent = λ k before.
                ⊎_elim
                (λ (zero : get_or idle (arrival_at arrivals k).line 0 ≡ 0). inl (omega (arith, zero, turned.turning.less (arrival_at arrivals k).line)))
                (λ (apart : head_of p (line_at lines (arrival_at arrivals k).line) ≢ v). inr apart)
                (was.spent k before);
            after = was.after;
          }))
          (cases_eq v tail);
    }
