-- What is kept of trucks' days and of lines' queues when a truck begins or turns.
use Rattle.std.proofs.Common.{◌≡◌, ℕ, ◌+◌, ◌-◌, ◌*◌, ◌<◌, List, [], ◌∷◌, ◌++◌, drop, length, get_or, set, refl, sym, ap, ◌∙◌, subst, arith, ⊎_elim, get_or-set_other, get_or-set_same, length-set}
use Rattle.std.specs.Prelude.{◌==◌, ◌≢◌, All, AllPairs, min, if◌then◌else◌}
use Rattle.std.proofs.lemmas.Bool.{cases_eq, cond-false, cond-true, eq-eqb, ne_eqb}
use Rattle.std.proofs.lemmas.List.{drop-append-le, drop_more, length-append, map_push}
use Rattle.std.proofs.lemmas.List.Elements.{All-head, All-push, All-set}
use Rattle.fp_model.specs.Problem.{IsArc, Problem, arc_at, no_arc}
use Rattle.fp_timetable.specs.declared.lines.TruckLine.{TruckLine}
use Rattle.fp_timetable.specs.Order.{no_line}
use Rattle.fp_fleet.specs.declared.days.Run.{Run}
use Rattle.fp_fleet.specs.declared.fleets.Begin.{Begin}
use Rattle.fp_fleet.specs.declared.fleets.Turn.{Turn}
use Rattle.fp_fleet.specs.Counts.{begin_count, into_count, out_count, turn_count}
use Rattle.fp_fleet.specs.Queues.{AreQueued, Begins, EndsWith, IsFilled, Turns, day_at, next_load, queue_at, waiting_at}
use Rattle.fp_fleet.specs.Rosters.{CanTurn, line_at}
use Rattle.fp_fleet.specs.Sweeps.{IsTimetable}
use Rattle.fp_fleet.specs.TruckDays.{IsDay, IsRun, capacity_of, carried, first_line, first_lines, last_line, over_runs, part_count, run_count}
use Rattle.fp_fleet.proofs.RunLists.{IsDay-one, IsDay-push, first_lines-turned, over_runs-begun, over_runs-turned, turned_count-begun, turned_count-turned}
use Rattle.fp_fleet.proofs.RunLoads.{IsFilled-run}
use Rattle.fp_fleet.proofs.WaitingTrucks.{once-begun, once-behind, once-joined, wait-before, wait-begun, wait-behind, wait-joined, wait-others}

-- lists of begins and of turns that count alike tell the same
pub AreQueued-alike : (p : Problem) (lines : List TruckLine) (begins begins_new : List Begin) (turns turns_new : List Turn) (days : List (List Run)) (queues : List (List ℕ)) (heads : List ℕ) →
    first_lines begins_new ≡ first_lines begins → ((m : ℕ) → begin_count begins_new m ≡ begin_count begins m) → ((l m : ℕ) → turn_count turns_new l m ≡ turn_count turns l m) →
    ((m : ℕ) → into_count turns_new m ≡ into_count turns m) → ((l : ℕ) → out_count turns_new l ≡ out_count turns l) →
    AreQueued p lines begins turns days queues heads → AreQueued p lines begins_new turns_new days queues heads
AreQueued-alike p lines begins begins_new turns turns_new days queues heads firsts begun turned into out q = record {
  queues_long = q.queues_long;
  heads_long = q.heads_long;
  each = q.each;
  firsts = q.firsts ∙ sym firsts;
  turned = λ l m. q.turned l m ∙ sym (turned l m);
  runs = q.runs;
  came = λ m lt. omega (arith, q.came m lt, begun m, into m);
  left = λ l lt. q.left l lt ∙ sym (out l);
  within = q.within;
  wait = q.wait;
  once = q.once;
  loads = q.loads;
}

-- a truck of a line holds something
pub capacity-some : (p : Problem) (lines : List TruckLine) (m : ℕ) → IsTimetable p lines → m < length lines → 0 < capacity_of p (line_at lines m)
capacity-some p lines m timetable lt =
    let arc : IsArc (length p.terminals) (arc_at p (line_at lines m).arc) = timetable.valid.parts.arcs (line_at lines m).arc no_arc (timetable.exist m no_line lt) in
    omega (arith, arc.within.capacity.0)

-- the run of a truck that comes next
abbrev run_next : Problem → List TruckLine → List (List ℕ) → ℕ → Run
run_next p lines queues m = record { line = m; load = next_load p (line_at lines m) (length (queue_at queues m)) }

IsRun-next : (p : Problem) (lines : List TruckLine) (queues : List (List ℕ)) (m : ℕ) → IsTimetable p lines → m < length lines →
    length (queue_at queues m) * capacity_of p (line_at lines m) < (line_at lines m).load → IsRun p lines (run_next p lines queues m)
IsRun-next p lines queues m timetable lt left =
    let some : 0 < capacity_of p (line_at lines m) = capacity-some p lines m timetable lt in
    record {
      line = lt;
      some = omega (arith, some, left);
      holds = omega arith;
    }

-- the queue of a line with one truck more
queue-pushed : (queues : List (List ℕ)) (m k j : ℕ) → m < length queues →
    length (queue_at (set queues m (queue_at queues m ++ k ∷ [])) j) ≡ length (queue_at queues j) + (if m == j then 1 else 0)
queue-pushed queues m k j lt =
    let more : List ℕ = queue_at queues m ++ k ∷ [] in
    let one : length (k ∷ []) ≡ 1 = refl in
    ⊎_elim
    (λ (same : j ≡ m).
    let here : queue_at (set queues m more) j ≡ more = ap (λ (i : ℕ). queue_at (set queues m more) i) same ∙ get_or-set_same queues m more [] lt in
    omega (
      arith,
      ap (λ (q : List ℕ). length q) here,
      length-append (queue_at queues m) (k ∷ []),
      one,
      ap (λ (i : ℕ). length (queue_at queues i)) same,
      cond-true {A = ℕ} (m == j) 1 0 (eq-eqb m j (sym same)),
    ))
    (λ (other : j ≡ m → ⊥).
    omega (
      arith,
      ap (λ (q : List ℕ). length q) (get_or-set_other queues m j more [] other),
      cond-false {A = ℕ} (m == j) 1 0 (ne_eqb m j (λ e. other (sym e))),
    ))
    (cases_eq j m)

-- the loads with the run of a truck that comes next
loads-next : (p : Problem) (lines : List TruckLine) (queues : List (List ℕ)) (days days_new : List (List Run)) (m j : ℕ) → IsTimetable p lines → m < length lines →
    length (queue_at queues m) * capacity_of p (line_at lines m) < (line_at lines m).load → run_count days m ≡ length (queue_at queues m) →
    ((f : Run → ℕ) → over_runs f days_new ≡ over_runs f days + f (run_next p lines queues m)) →
    IsFilled (capacity_of p (line_at lines j)) (line_at lines j).load (run_count days j) (carried days j) (part_count (capacity_of p (line_at lines j)) days j) →
    IsFilled (capacity_of p (line_at lines j)) (line_at lines j).load (run_count days_new j) (carried days_new j) (part_count (capacity_of p (line_at lines j)) days_new j)
loads-next p lines queues days days_new m j timetable lt left runs sums filled =
    IsFilled-run (capacity_of p (line_at lines j)) (line_at lines j).load j (run_next p lines queues m) days days_new sums filled
    (λ same.
    subst
    (λ (i : ℕ). (0 < capacity_of p (line_at lines i)) × (run_count days i * capacity_of p (line_at lines i) < (line_at lines i).load)
    × ((run_next p lines queues m).load ≡ min (capacity_of p (line_at lines i)) ((line_at lines i).load - run_count days i * capacity_of p (line_at lines i))))
    same (
      capacity-some p lines m timetable lt,
      subst (λ (n : ℕ). n * capacity_of p (line_at lines m) < (line_at lines m).load) (sym runs) left,
      ap (λ (n : ℕ). next_load p (line_at lines m) n) (sym runs),
    ))

-- one truck more begins with a line
pub AreQueued-begun : (p : Problem) (lines : List TruckLine) (begins begins_new : List Begin) (turns : List Turn) (m : ℕ) (days days_new : List (List Run)) (queues queues_new : List (List ℕ)) (heads : List ℕ) →
    IsTimetable p lines → m < length lines → length (queue_at queues m) * capacity_of p (line_at lines m) < (line_at lines m).load →
    first_lines begins_new ≡ first_lines begins ++ m ∷ [] → ((j : ℕ) → begin_count begins_new j ≡ begin_count begins j + (if m == j then 1 else 0)) →
    Begins p lines m days days_new queues queues_new → AreQueued p lines begins turns days queues heads → AreQueued p lines begins_new turns days_new queues_new heads
AreQueued-begun p lines begins begins_new turns m days days_new queues queues_new heads timetable lt left firsts counts is q =
    let r : Run = run_next p lines queues m in
    let day : List Run = r ∷ [] in
    let k : ℕ = length days in
    let more : List ℕ = queue_at queues m ++ k ∷ [] in
    let long : m < length queues = omega (arith, lt, q.queues_long) in
    let pushed : (j : ℕ) → length (queue_at (set queues m more) j) ≡ length (queue_at queues j) + (if m == j then 1 else 0) = λ j. queue-pushed queues m k j long in
    let sums : (f : Run → ℕ) → over_runs f (days ++ day ∷ []) ≡ over_runs f days + f r = λ f. over_runs-begun f days r in
    let here : waiting_at (set queues m more) heads m ≡ waiting_at queues heads m ++ k ∷ [] =
    ap (λ (xs : List ℕ). drop (get_or heads m 0) xs) (get_or-set_same queues m more [] long) ∙ drop-append-le (get_or heads m 0) (queue_at queues m) (k ∷ []) (q.within m lt) in
    let there : (j : ℕ) → j ≢ m → waiting_at (set queues m more) heads j ≡ waiting_at queues heads j =
    λ j other. ap (λ (xs : List ℕ). drop (get_or heads j 0) xs) (get_or-set_other queues m j more [] other) in
    subst (λ (ds : List (List Run)). AreQueued p lines begins_new turns ds queues_new heads) (sym is.days)
    (subst (λ (qs : List (List ℕ)). AreQueued p lines begins_new turns (days ++ day ∷ []) qs heads) (sym is.queues)
    (record {
      queues_long = length-set queues m more ∙ q.queues_long;
      heads_long = q.heads_long;
      each = All-push (IsDay p lines) days day q.each (IsDay-one p lines r (IsRun-next p lines queues m timetable lt left));
      firsts = map_push first_line days day ∙ ap (λ (ls : List ℕ). ls ++ m ∷ []) q.firsts ∙ sym firsts;
      turned = λ i j. turned_count-begun days r i j ∙ q.turned i j;
      runs = λ j inside. omega (arith, sums (λ (s : Run). if s.line == j then 1 else 0), q.runs j inside, pushed j);
      came = λ j inside. omega (arith, pushed j, q.came j inside, counts j);
      left = q.left;
      within = λ j inside. omega (arith, pushed j, q.within j inside);
      wait = λ j inside.
          ⊎_elim
          (λ (same : j ≡ m).
          subst (λ (i : ℕ). All (EndsWith (days ++ day ∷ []) i) (waiting_at (set queues m more) heads i)) (sym same)
          (subst (All (EndsWith (days ++ day ∷ []) m)) (sym here) (wait-begun days m r (waiting_at queues heads m) refl (q.wait m lt))))
          (λ (other : j ≡ m → ⊥).
          subst (All (EndsWith (days ++ day ∷ []) j)) (sym (there j other)) (wait-before days j day (waiting_at queues heads j) (q.wait j inside)))
          (cases_eq j m);
      once = λ j inside.
          ⊎_elim
          (λ (same : j ≡ m).
          subst (λ (i : ℕ). AllPairs (λ a b. a ≢ b) (waiting_at (set queues m more) heads i)) (sym same)
          (subst (AllPairs (λ a b. a ≢ b)) (sym here) (once-begun days m (waiting_at queues heads m) (q.wait m lt) (q.once m lt))))
          (λ (other : j ≡ m → ⊥). subst (AllPairs (λ a b. a ≢ b)) (sym (there j other)) (q.once j inside))
          (cases_eq j m);
      loads = λ j inside. loads-next p lines queues days (days ++ day ∷ []) m j timetable lt left (q.runs m lt) sums (q.loads j inside);
    }))

-- the first truck that waits at the end of a line runs another
pub AreQueued-turned : (p : Problem) (lines : List TruckLine) (begins : List Begin) (turns turns_new : List Turn) (l m : ℕ) (days days_new : List (List Run)) (queues queues_new : List (List ℕ)) (heads heads_new : List ℕ) →
    IsTimetable p lines → l < length lines → m < length lines → m ≢ l → CanTurn p (line_at lines l) (line_at lines m) →
    get_or heads l 0 < length (queue_at queues l) → length (queue_at queues m) * capacity_of p (line_at lines m) < (line_at lines m).load →
    ((i j : ℕ) → turn_count turns_new i j ≡ turn_count turns i j + (if l == i then (if m == j then 1 else 0) else 0)) →
    ((j : ℕ) → into_count turns_new j ≡ into_count turns j + (if m == j then 1 else 0)) → ((j : ℕ) → out_count turns_new j ≡ out_count turns j + (if l == j then 1 else 0)) →
    Turns p lines l m (get_or (queue_at queues l) (get_or heads l 0) 0) days days_new queues queues_new heads heads_new → AreQueued p lines begins turns days queues heads →
    AreQueued p lines begins turns_new days_new queues_new heads_new
AreQueued-turned p lines begins turns turns_new l m days days_new queues queues_new heads heads_new timetable from to apart can waits left turned into out is q =
    let h : ℕ = get_or heads l 0 in
    let k : ℕ = get_or (queue_at queues l) h 0 in
    let r : Run = run_next p lines queues m in
    let old : List Run = day_at days k in
    let day : List Run = old ++ r ∷ [] in
    let more : List ℕ = queue_at queues m ++ k ∷ [] in
    let next : List ℕ = set heads l (h + 1) in
    let long : m < length queues = omega (arith, to, q.queues_long) in
    let behind : List ℕ = drop (h + 1) (queue_at queues l) in
    let split : waiting_at queues heads l ≡ k ∷ behind = drop_more (queue_at queues l) h 0 waits in
    let all : All (EndsWith days l) (k ∷ behind) = subst (All (EndsWith days l)) split (q.wait l from) in
    let once : AllPairs (λ a b. a ≢ b) (k ∷ behind) = subst (AllPairs (λ a b. a ≢ b)) split (q.once l from) in
    let ends : EndsWith days l k = All-head (EndsWith days l) k behind all in
    let sound : IsDay p lines old = q.each k [] ends.exists in
    let turns_to : CanTurn p (line_at lines (last_line old)) (line_at lines m) = subst (λ (i : ℕ). CanTurn p (line_at lines i) (line_at lines m)) (sym ends.last) can in
    let sums : (f : Run → ℕ) → over_runs f (set days k day) ≡ over_runs f days + f r = λ f. over_runs-turned f days k r ends.exists in
    let pushed : (j : ℕ) → length (queue_at (set queues m more) j) ≡ length (queue_at queues j) + (if m == j then 1 else 0) = λ j. queue-pushed queues m k j long in
    let head : (j : ℕ) → get_or next j 0 ≡ get_or heads j 0 + (if l == j then 1 else 0) = λ j. head-next heads l j (omega (arith, from, q.heads_long)) in
    let at_m : waiting_at (set queues m more) next m ≡ waiting_at queues heads m ++ k ∷ [] =
    ap (λ (n : ℕ). drop n (queue_at (set queues m more) m)) (get_or-set_other heads l m (h + 1) 0 apart)
    ∙ ap (λ (xs : List ℕ). drop (get_or heads m 0) xs) (get_or-set_same queues m more [] long)
    ∙ drop-append-le (get_or heads m 0) (queue_at queues m) (k ∷ []) (q.within m to) in
    let at_l : waiting_at (set queues m more) next l ≡ behind =
    ap (λ (n : ℕ). drop n (queue_at (set queues m more) l)) (get_or-set_same heads l (h + 1) 0 (omega (arith, from, q.heads_long)))
    ∙ ap (λ (xs : List ℕ). drop (h + 1) xs) (get_or-set_other queues m l more [] (λ e. apart (sym e))) in
    let elsewhere : (j : ℕ) → j ≢ m → j ≢ l → waiting_at (set queues m more) next j ≡ waiting_at queues heads j =
    λ j other_m other_l.
    ap (λ (n : ℕ). drop n (queue_at (set queues m more) j)) (get_or-set_other heads l j (h + 1) 0 other_l)
    ∙ ap (λ (xs : List ℕ). drop (get_or heads j 0) xs) (get_or-set_other queues m j more [] other_m) in
    subst (λ (ds : List (List Run)). AreQueued p lines begins turns_new ds queues_new heads_new) (sym is.joins.days)
    (subst (λ (qs : List (List ℕ)). AreQueued p lines begins turns_new (set days k day) qs heads_new) (sym is.joins.queues)
    (subst (λ (hs : List ℕ). AreQueued p lines begins turns_new (set days k day) (set queues m more) hs) (sym is.heads)
    (record {
      queues_long = length-set queues m more ∙ q.queues_long;
      heads_long = length-set heads l (h + 1) ∙ q.heads_long;
      each = All-set (IsDay p lines) days k day (IsDay-push p lines old r sound (IsRun-next p lines queues m timetable to left) turns_to) q.each;
      firsts = first_lines-turned days k r sound.some ∙ q.firsts;
      turned = λ i j.
          omega (
            arith,
            turned_count-turned days k r i j ends.exists sound.some,
            ap {B = ℕ} (λ (n : ℕ). if n == i then (if m == j then 1 else 0) else 0) ends.last,
            q.turned i j,
            turned i j,
          );
      runs = λ j inside. omega (arith, sums (λ (s : Run). if s.line == j then 1 else 0), q.runs j inside, pushed j);
      came = λ j inside. omega (arith, pushed j, q.came j inside, into j);
      left = λ j inside. omega (arith, head j, q.left j inside, out j);
      within = λ j inside.
          ⊎_elim
          (λ (same : j ≡ l). omega (arith, head j, pushed j, waits, ap (λ (i : ℕ). get_or heads i 0) same, ap (λ (i : ℕ). length (queue_at queues i)) same, cond-true {A = ℕ} (l == j) 1 0 (eq-eqb l j (sym same))))
          (λ (other : j ≡ l → ⊥). omega (arith, head j, pushed j, q.within j inside, cond-false {A = ℕ} (l == j) 1 0 (ne_eqb l j (λ e. other (sym e)))))
          (cases_eq j l);
      wait = λ j inside.
          ⊎_elim
          (λ (same : j ≡ m).
          subst (λ (i : ℕ). All (EndsWith (set days k day) i) (waiting_at (set queues m more) next i)) (sym same)
          (subst (All (EndsWith (set days k day) m)) (sym at_m) (wait-joined days k l m r (waiting_at queues heads m) apart refl ends (q.wait m to))))
          (λ (other_m : j ≡ m → ⊥).
          ⊎_elim
          (λ (same : j ≡ l).
          subst (λ (i : ℕ). All (EndsWith (set days k day) i) (waiting_at (set queues m more) next i)) (sym same)
          (subst (All (EndsWith (set days k day) l)) (sym at_l) (wait-behind days k l day behind all once)))
          (λ (other_l : j ≡ l → ⊥).
          subst (All (EndsWith (set days k day) j)) (sym (elsewhere j other_m other_l)) (wait-others days k l j day (waiting_at queues heads j) other_l ends (q.wait j inside)))
          (cases_eq j l))
          (cases_eq j m);
      once = λ j inside.
          ⊎_elim
          (λ (same : j ≡ m).
          subst (λ (i : ℕ). AllPairs (λ a b. a ≢ b) (waiting_at (set queues m more) next i)) (sym same)
          (subst (AllPairs (λ a b. a ≢ b)) (sym at_m) (once-joined days k l m (waiting_at queues heads m) apart ends (q.wait m to) (q.once m to))))
          (λ (other_m : j ≡ m → ⊥).
          ⊎_elim
          (λ (same : j ≡ l).
          subst (λ (i : ℕ). AllPairs (λ a b. a ≢ b) (waiting_at (set queues m more) next i)) (sym same)
          (subst (AllPairs (λ a b. a ≢ b)) (sym at_l) (once-behind k behind once)))
          (λ (other_l : j ≡ l → ⊥). subst (AllPairs (λ a b. a ≢ b)) (sym (elsewhere j other_m other_l)) (q.once j inside))
          (cases_eq j l))
          (cases_eq j m);
      loads = λ j inside. loads-next p lines queues days (set days k day) m j timetable to left (q.runs m to) sums (q.loads j inside);
    })))
  where
    head-next : (xs : List ℕ) (i j : ℕ) → i < length xs → get_or (set xs i (get_or xs i 0 + 1)) j 0 ≡ get_or xs j 0 + (if i == j then 1 else 0)
    head-next xs i j lt =
        ⊎_elim
        (λ (same : j ≡ i).
        let now : get_or (set xs i (get_or xs i 0 + 1)) j 0 ≡ get_or xs i 0 + 1 =
        ap (λ (n : ℕ). get_or (set xs i (get_or xs i 0 + 1)) n 0) same ∙ get_or-set_same xs i (get_or xs i 0 + 1) 0 lt in
        omega (arith, now, ap (λ (n : ℕ). get_or xs n 0) same, cond-true {A = ℕ} (i == j) 1 0 (eq-eqb i j (sym same))))
        (λ (other : j ≡ i → ⊥). omega (arith, get_or-set_other xs i j (get_or xs i 0 + 1) 0 other, cond-false {A = ℕ} (i == j) 1 0 (ne_eqb i j (λ e. other (sym e)))))
        (cases_eq j i)
