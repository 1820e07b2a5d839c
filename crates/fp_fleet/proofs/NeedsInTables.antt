-- One more begin in a table of needs, and what the needs of some trucks in it are.
use Rattle.std.proofs.Common.{◌≡◌, ℕ, zero, suc, ◌+◌, ◌<◌, ◌≤◌, Bool, true, false, List, [], ◌∷◌, length, get_or, map, set, take, ⊎_elim, sym, ap, ◌∙◌, subst, arith, length-set, get_or-set_other, get_or-set_same}
use Rattle.std.specs.Prelude.{◌==◌, nat_lt, All, Contains, if◌then◌else◌}
use Rattle.std.specs.List.{filter}
use Rattle.std.proofs.lemmas.Bool.{cases_Bool, cases_eq, cases_lt, cond-false, cond-true, eq-eqb, lt-ltb, ltb-true, ne_eqb}
use Rattle.std.proofs.lemmas.List.{get_or-take, get_or_default, length-take-le}
use Rattle.std.proofs.lemmas.List.Elements.{All-filter, All-more, Contains-append_right, filter_passes}
use Rattle.std.proofs.lemmas.List.Kept.{AllPairs-filter}
use Rattle.std.proofs.lemmas.List.Sums.{sum_by-set, sum_by_more}
use Rattle.fp_base_lists.proofs.Membership.{Contains-first}
use Rattle.fp_model.specs.Problem.{Problem}
use Rattle.fp_timetable.specs.declared.lines.TruckLine.{TruckLine}
use Rattle.fp_fleet.specs.declared.fleets.Begin.{Begin}
use Rattle.fp_fleet.specs.declared.fleets.Need.{Need}
use Rattle.fp_fleet.specs.declared.fleets.Turn.{Turn}
use Rattle.fp_fleet.specs.Counts.{begin_count, turn_count}
use Rattle.fp_fleet.specs.Deficits.{IsGreatestDeficit}
use Rattle.fp_fleet.specs.Fleets.{AreNeeds, BeginsAscend}
use Rattle.fp_fleet.specs.NeedTables.{AreNoNeeds, BeginsThen, IsNeedOf, IsNeedTable, begin_depart, begin_tail, begun_in, need_at, no_begin, no_need}
use Rattle.fp_fleet.specs.Sweeps.{IsAssigned, IsBeginBelow, IsTimetable}
use Rattle.fp_fleet.proofs.AddedTurns.{sum-none}
use Rattle.fp_fleet.proofs.GreatestDeficits.{IsGreatestDeficit-need, begun_at-begins, roster-assigned}
use Rattle.fp_fleet.proofs.MetDeficits.{leaving-outside}
use Rattle.fp_fleet.proofs.RosterBounds.{leaving-le}
use Rattle.fp_fleet.proofs.SmallestRosters.{begun_by-le}

-- a table of no trucks is that of no begins
pub IsNeedTable-none : (p : Problem) (lines : List TruckLine) (table : List Need) → AreNoNeeds (length p.terminals) table → IsNeedTable p lines [] table
IsNeedTable-none p lines table none = record {
  long = none.long;
  each = λ v lt.
      let is : need_at table v ≡ record { terminal = v; trucks = 0; at = 0 } = none.none v lt in
      record {
        terminal = ap (λ (n : Need). n.terminal) is;
        trucks = ap (λ (n : Need). n.trucks) is;
        some = λ some. absurd (omega (arith, some, ap (λ (n : Need). n.trucks) is));
        last = λ k d h. absurd (omega (arith, h));
      };
  sum = sum-none (λ (n : Need). n.trucks) table
      (λ v d lt. ap (λ (n : Need). n.trucks) (get_or_default table v d no_need lt ∙ none.none v (omega (arith, lt, none.long))));
}

-- one more begin
pub IsNeedTable-more : (p : Problem) (lines : List TruckLine) (begins : List Begin) (i : ℕ) (table : List Need) → IsTimetable p lines → All (IsBeginBelow (length lines)) begins →
    BeginsAscend begins → i < length begins → begin_tail p lines (get_or begins i no_begin) < length p.terminals → IsNeedTable p lines (take i begins) table →
    IsNeedTable p lines (take (i + 1) begins) (set table (begin_tail p lines (get_or begins i no_begin)) (record {
      terminal = begin_tail p lines (get_or begins i no_begin);
      trucks = (need_at table (begin_tail p lines (get_or begins i no_begin))).trucks + (get_or begins i no_begin).count;
      at = begin_depart lines (get_or begins i no_begin);
    }))
IsNeedTable-more p lines begins i table timetable below ascend lt inside was =
    let b : Begin = get_or begins i no_begin in
    let w : ℕ = begin_tail p lines b in
    let need : Need = record { terminal = w; trucks = (need_at table w).trucks + b.count; at = begin_depart lines b } in
    let new : List Need = set table w need in
    let within : w < length table = omega (arith, inside, was.long) in
    let long : length (take (i + 1) begins) ≡ i + 1 = length-take-le (i + 1) begins (omega (arith, lt)) in
    let last : get_or (take (i + 1) begins) i no_begin ≡ b = get_or-take (i + 1) begins i no_begin (omega arith) in
    let shorter : length (take i begins) ≡ i = length-take-le i begins (omega (arith, lt)) in
    record {
      long = length-set table w need ∙ was.long;
      each = λ v h.
          let old : IsNeedOf p lines (take i begins) v (need_at table v) = was.each v h in
          let sum : begun_in p lines (take (i + 1) begins) v ≡ begun_in p lines (take i begins) v + (if w == v then b.count else 0) =
          sum_by_more (λ (c : Begin). if begin_tail p lines c == v then c.count else 0) begins i no_begin lt in
          ⊎_elim
          (λ (same : v ≡ w).
          let now : need_at new v ≡ need = ap (λ (k : ℕ). get_or new k no_need) same ∙ get_or-set_same table w need no_need within in
          subst (IsNeedOf p lines (take (i + 1) begins) v) (sym now)
          (record {
            terminal = sym same;
            trucks = omega (arith, sum, cond-true (w == v) b.count 0 (eq-eqb w v (sym same)), old.trucks, ap (λ (k : ℕ). (need_at table k).trucks) same);
            some = λ some.
                (i, omega (arith, long), ap (begin_tail p lines) last ∙ sym same, ap (begin_depart lines) last);
            last = All-more (λ (c : Begin). begin_tail p lines c ≡ v → begin_depart lines c ≤ begin_depart lines b) begins i no_begin lt
                (λ k d less at.
                let early : k < i = omega (arith, less, shorter) in
                let is : get_or (take i begins) k d ≡ get_or begins k no_begin = get_or-take i begins k d early ∙ get_or_default begins k d no_begin (omega (arith, early, lt)) in
                let line : (get_or begins k no_begin).line < b.line = ascend k i no_begin early lt in
                omega (
                  arith,
                  ap (begin_depart lines) is,
                  timetable.rise (get_or begins k no_begin).line b.line (omega (arith, line)) (below i no_begin lt).0,
                ))
                (λ at. omega arith);
          }))
          (λ (other : v ≡ w → ⊥).
          let now : need_at new v ≡ need_at table v = get_or-set_other table w v need no_need other in
          subst (IsNeedOf p lines (take (i + 1) begins) v) (sym now)
          (record {
            terminal = old.terminal;
            trucks = omega (arith, sum, cond-false (w == v) b.count 0 (ne_eqb w v (λ e. other (sym e))), old.trucks);
            some = λ some.
                let there : BeginsThen p lines (take i begins) v (need_at table v).at = old.some some in
                let early : there.0 < i = omega (arith, there.1, shorter) in
                let is : get_or (take (i + 1) begins) there.0 no_begin ≡ get_or (take i begins) there.0 no_begin =
                get_or-take (i + 1) begins there.0 no_begin (omega (arith, early)) ∙ sym (get_or-take i begins there.0 no_begin early) in
                (there.0, omega (arith, early, long), ap (begin_tail p lines) is ∙ there.2, ap (begin_depart lines) is ∙ there.3);
            last = All-more (λ (c : Begin). begin_tail p lines c ≡ v → begin_depart lines c ≤ (need_at table v).at) begins i no_begin lt old.last
                (λ at. absurd (other (sym at)));
          }))
          (cases_eq v w);
      sum = omega (
        arith,
        sum_by-set (λ (n : Need). n.trucks) table w need no_need within,
        sum_by_more (λ (c : Begin). c.count) begins i no_begin lt,
        was.sum,
      );
    }

-- what holds of elements that pass stands among those that are kept
Contains-kept : (test : Need → Bool) (table : List Need) (v : ℕ) → v < length table → test (need_at table v) ≡ true →
    Contains (map (λ (n : Need). n.terminal) (filter test table)) (need_at table v).terminal
Contains-kept test [] v lt passes = absurd (omega (arith, lt))
Contains-kept test (n ∷ table) zero lt passes =
    subst (λ (kept : List Need). Contains (map (λ (m : Need). m.terminal) kept) n.terminal)
    (sym (cond-true (test n) (n ∷ filter test table) (filter test table) passes))
    (Contains-first n.terminal (map (λ (m : Need). m.terminal) (filter test table)))
Contains-kept test (n ∷ table) (suc v) lt passes =
    let rest : Contains (map (λ (m : Need). m.terminal) (filter test table)) (need_at table v).terminal = Contains-kept test table v (omega (arith, lt)) passes in
    ⊎_elim
    (λ (first : test n ≡ true).
    subst (λ (kept : List Need). Contains (map (λ (m : Need). m.terminal) kept) (need_at table v).terminal)
    (sym (cond-true (test n) (n ∷ filter test table) (filter test table) first))
    (Contains-append_right (n.terminal ∷ []) (map (λ (m : Need). m.terminal) (filter test table)) (need_at table v).terminal rest))
    (λ (dropped : test n ≡ false).
    subst (λ (kept : List Need). Contains (map (λ (m : Need). m.terminal) kept) (need_at table v).terminal)
    (sym (cond-false (test n) (n ∷ filter test table) (filter test table) dropped)) rest)
    (cases_Bool (test n))

pub AreNeeds-table : (p : Problem) (lines : List TruckLine) (begins : List Begin) (turns : List Turn) (table : List Need) → IsTimetable p lines → IsAssigned p lines begins turns →
    IsNeedTable p lines begins table → AreNeeds p lines (filter (λ (n : Need). nat_lt 0 n.trucks) table)
AreNeeds-table p lines begins turns table timetable is told =
    let test : Need → Bool = λ n. nat_lt 0 n.trucks in
    let terminal : (v : ℕ) (d : Need) → v < length table → (get_or table v d).terminal ≡ v =
    λ v d lt.
    ap (λ (n : Need). n.terminal) (get_or_default table v d no_need lt) ∙ (told.each v (omega (arith, lt, told.long))).terminal in
    record {
      ascend = AllPairs-filter (λ (m n : Need). m.terminal < n.terminal) test table
          (λ i j d less lt. omega (arith, less, terminal i d (omega (arith, less, lt)), terminal j d lt));
      greatest =
          (let kept : List Need = filter test table in
          let each : All (λ (n : Need). 0 < n.trucks → IsGreatestDeficit p lines n) kept =
          All-filter test (λ (n : Need). 0 < n.trucks → IsGreatestDeficit p lines n) table
          (λ v d lt some.
          let n : Need = get_or table v d in
          let same : n ≡ need_at table v = get_or_default table v d no_need lt in
          let of : IsNeedOf p lines begins v n = subst (IsNeedOf p lines begins v) (sym same) (told.each v (omega (arith, lt, told.long))) in
          IsGreatestDeficit-need p lines begins turns n timetable is (subst (λ (w : ℕ). IsNeedOf p lines begins w n) (sym of.terminal) of) some) in
          let passes : All (λ (n : Need). test n ≡ true) kept = filter_passes test table in
          λ k d lt. each k d lt (ltb-true 0 (get_or kept k d).trucks (passes k d lt)));
      every = λ v moment less.
          let roster = roster-assigned p lines begins turns is in
          let inside : v < length p.terminals =
          ⊎_elim
          (λ (h : v < length p.terminals). h)
          (λ (outside : length p.terminals ≤ v). absurd (omega (arith, less, leaving-outside p lines v moment timetable.valid timetable.exist outside)))
          (cases_lt v (length p.terminals)) in
          let of : IsNeedOf p lines begins v (need_at table v) = told.each v inside in
          let some : 0 < (need_at table v).trucks =
          omega (
            arith,
            less,
            leaving-le p lines (begin_count begins) (turn_count turns) v moment roster,
            begun_by-le p lines (begin_count begins) v moment,
            begun_at-begins p lines begins v is.begin,
            of.trucks,
          ) in
          subst (Contains (map (λ (n : Need). n.terminal) (filter test table))) of.terminal
          (Contains-kept test table v (omega (arith, inside, told.long)) (lt-ltb 0 (need_at table v).trucks some));
    }
