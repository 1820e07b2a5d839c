-- Begins and turns of a fleet that is given: their trucks fit, and what is kept goes on from truck to
-- truck until each truck of the fleet has its day.
use Rattle.std.proofs.Common.{◌≡◌, ℕ, ◌+◌, ◌*◌, ◌^◌, ◌<◌, ◌≤◌, List, [], ◌∷◌, ◌++◌, drop, length, take, get_or, set, refl, sym, ap, ◌∙◌, subst, arith}
use Rattle.std.specs.Prelude.{◌==◌, All, if◌then◌else◌}
use Rattle.std.specs.Int.{div_ceil}
use Rattle.std.proofs.Math.Seq.{set-append_seam}
use Rattle.std.proofs.lemmas.Bool.{cond-true, eq-eqb}
use Rattle.std.proofs.lemmas.List.{drop_more, get_or_push, length-map, take_more}
use Rattle.std.proofs.lemmas.List.Elements.{All-head}
use Rattle.std.proofs.lemmas.List.Sums.{get_or-le-sum_by, sum_by_more_le, sum_by_push}
use Rattle.fp_base_lists.proofs.Ceilings.{div_ceil-holds}
use Rattle.fp_model.specs.declared.parts.Leg.{Leg}
use Rattle.fp_model.specs.Plans.{IsPlan}
use Rattle.fp_model.specs.Problem.{IsValid, Problem}
use Rattle.fp_timetable.specs.declared.lines.TruckLine.{TruckLine}
use Rattle.fp_timetable.specs.Lines.{AreTruckLines, TruckExists}
use Rattle.fp_timetable.specs.Order.{no_line}
use Rattle.fp_fleet.specs.declared.days.Run.{Run}
use Rattle.fp_fleet.specs.declared.days.TheConstants.{MOST_RUNS}
use Rattle.fp_fleet.specs.declared.fleets.Begin.{Begin}
use Rattle.fp_fleet.specs.declared.fleets.Turn.{Turn}
use Rattle.fp_fleet.specs.Counts.{begin_count, into_count, turn_count}
use Rattle.fp_fleet.specs.Fits.{TurnMeets}
use Rattle.fp_fleet.specs.Fleets.{Assignment, IsAccepted}
use Rattle.fp_fleet.specs.Queues.{AreQueued, Begins, EndsWith, IsGiven, Joins, Turns, day_at, next_load, queue_at, waiting_at}
use Rattle.fp_fleet.specs.Rosters.{CanTurn, line_at, truck_total}
use Rattle.fp_fleet.specs.TruckDays.{AreTruckDays, capacity_of, first_line, run_count}
use Rattle.fp_fleet.proofs.CountedRosters.{CountAsRoster, CountAsRoster-roster, roster_size-begins, size-le-total}
use Rattle.fp_fleet.proofs.LineBounds.{IsTimetable-plan}
use Rattle.fp_fleet.proofs.QueueSteps.{AreQueued-alike, AreQueued-begun, AreQueued-turned, capacity-some}
use Rattle.fp_fleet.proofs.RunLoads.{some-left}
use Rattle.fp_fleet.proofs.TruckCounts.{CanTurn-later, begin-lacks, begin_count-more, begin_count-none, begin_of, first_lines-more, first_lines-none, into_count-more, into_count-none, length-first_lines, line-le-total, out_count-more, out_count-none, truck-waits, turn-lacks, turn_count-more, turn_count-none, turn_of}

-- a plan's lines with an accepted fleet, if there are not too many trucks
pub IsGiven-plan : (p : Problem) (routes : List (List Leg)) (lines : List TruckLine) (fleet : Assignment) → IsValid p → IsPlan p 1 routes → All (TruckExists p) lines →
    AreTruckLines p routes lines → truck_total lines ≤ MOST_RUNS → IsAccepted p lines fleet → IsGiven p lines fleet
IsGiven-plan p routes lines fleet valid plan exist are few accepted = record {
  timetable = IsTimetable-plan p routes lines valid plan exist are;
  holds = λ m d lt.
      let t : TruckLine = get_or lines m d in
      are.trucks m d lt ∙ ap (λ (n : ℕ). div_ceil n (capacity_of p t)) (sym (are.loads m d lt));
  few = few;
  accepted = accepted;
}

-- the trucks of a begin, and of a turn, fit
pub begin-small : (p : Problem) (lines : List TruckLine) (fleet : Assignment) (place : ℕ) (d : Begin) → IsGiven p lines fleet → place < length fleet.begins →
    (get_or fleet.begins place d).count < 2 ^ 32
begin-small p lines fleet place d given lt =
    let roster : CountAsRoster p lines fleet.begins fleet.turns = CountAsRoster-roster p lines fleet.begins fleet.turns given.accepted.roster in
    let b : Begin = get_or fleet.begins place d in
    let inside : b.line < length lines = roster.exist place d lt in
    omega (
      arith,
      get_or-le-sum_by (λ (c : Begin). if c.line == b.line then c.count else 0) fleet.begins place d lt,
      cond-true {A = ℕ} (b.line == b.line) b.count 0 (eq-eqb b.line b.line refl),
      roster.into b.line inside,
      line-le-total lines b.line inside,
      given.few,
    )

pub turn-small : (p : Problem) (lines : List TruckLine) (fleet : Assignment) (place : ℕ) (d : Turn) → IsGiven p lines fleet → place < length fleet.turns →
    (get_or fleet.turns place d).count < 2 ^ 32
turn-small p lines fleet place d given lt =
    let roster : CountAsRoster p lines fleet.begins fleet.turns = CountAsRoster-roster p lines fleet.begins fleet.turns given.accepted.roster in
    let t : Turn = get_or fleet.turns place d in
    let inside : t.before < length lines = (roster.meet place d lt).exists.0 in
    omega (
      arith,
      get_or-le-sum_by (λ (s : Turn). if s.before == t.before then s.count else 0) fleet.turns place d lt,
      cond-true {A = ℕ} (t.before == t.before) t.count 0 (eq-eqb t.before t.before refl),
      roster.out t.before inside,
      line-le-total lines t.before inside,
      given.few,
    )

-- a line with fewer trucks so far than it has has load left
line-left : (p : Problem) (lines : List TruckLine) (fleet : Assignment) (m n : ℕ) → IsGiven p lines fleet → m < length lines → n < (line_at lines m).trucks →
    n * capacity_of p (line_at lines m) < (line_at lines m).load
line-left p lines fleet m n given lt few =
    some-left (line_at lines m).load (capacity_of p (line_at lines m)) n (capacity-some p lines m given.timetable lt) (omega (arith, few, given.holds m no_line lt))

-- a truck that begins has a day without runs before it runs its first line
pub Begins-joined : (p : Problem) (lines : List TruckLine) (m k : ℕ) (days days_more days_new : List (List Run)) (queues queues_new : List (List ℕ)) →
    days_more ≡ days ++ [] ∷ [] → k ≡ length days → Joins p lines m k days_more days_new queues queues_new → Begins p lines m days days_new queues queues_new
Begins-joined p lines m k days days_more days_new queues queues_new more last joins =
    let r : Run = record { line = m; load = next_load p (line_at lines m) (length (queue_at queues m)) } in
    let empty : day_at (days ++ [] ∷ []) (length days) ≡ [] = get_or_push days [] [] (length days) refl in
    record {
      days =
          joins.days
          ∙ ap (λ (ds : List (List Run)). set ds k (day_at ds k ++ r ∷ [])) more
          ∙ ap (λ (i : ℕ). set (days ++ [] ∷ []) i (day_at (days ++ [] ∷ []) i ++ r ∷ [])) last
          ∙ ap (λ (day : List Run). set (days ++ [] ∷ []) (length days) (day ++ r ∷ [])) empty
          ∙ set-append_seam days [] [] (r ∷ []);
      queues = joins.queues ∙ ap (λ (i : ℕ). set queues m (queue_at queues m ++ i ∷ [])) last;
    }

-- the begin at a place, of which so many trucks have begun
abbrev pub AreBegun : Problem → List TruckLine → Assignment → ℕ → Begin → ℕ → List (List Run) → List (List ℕ) → List ℕ → Type 0
AreBegun p lines fleet place b n days queues heads = AreQueued p lines (take place fleet.begins ++ begin_of b.line n ∷ []) [] days queues heads

pub AreBegun-start : (p : Problem) (lines : List TruckLine) (fleet : Assignment) (place : ℕ) (b : Begin) (days : List (List Run)) (queues : List (List ℕ)) (heads : List ℕ) →
    AreQueued p lines (take place fleet.begins) [] days queues heads → AreBegun p lines fleet place b 0 days queues heads
AreBegun-start p lines fleet place b days queues heads q =
    let begins : List Begin = take place fleet.begins in
    AreQueued-alike p lines begins (begins ++ begin_of b.line 0 ∷ []) [] [] days queues heads (first_lines-none begins b.line) (λ m. begin_count-none begins b.line m)
    (λ l m. refl) (λ m. refl) (λ l. refl) q

pub AreBegun-few : (p : Problem) (lines : List TruckLine) (fleet : Assignment) (place n : ℕ) (d b : Begin) (days : List (List Run)) (queues : List (List ℕ)) (heads : List ℕ) →
    IsGiven p lines fleet → place < length fleet.begins → b ≡ get_or fleet.begins place d → n < b.count → AreBegun p lines fleet place b n days queues heads →
    length days < 2 ^ 32
AreBegun-few p lines fleet place n d b days queues heads given lt is left q =
    let begins : List Begin = take place fleet.begins in
    let count : Begin → ℕ = λ c. c.count in
    omega (
      arith,
      length-map days first_line,
      ap (λ (ls : List ℕ). length ls) q.firsts,
      length-first_lines (begins ++ begin_of b.line n ∷ []),
      sum_by_push count begins (begin_of b.line n),
      sum_by_more_le count fleet.begins place d lt,
      ap (λ (c : Begin). c.count) is,
      left,
      roster_size-begins (length lines) fleet.begins given.accepted.roster.begins_exist,
      size-le-total p lines (begin_count fleet.begins) (turn_count fleet.turns) given.accepted.roster.roster,
      given.few,
    )

pub begin-inside : (p : Problem) (lines : List TruckLine) (fleet : Assignment) (place : ℕ) (d b : Begin) → IsGiven p lines fleet → place < length fleet.begins →
    b ≡ get_or fleet.begins place d → b.line < length lines
begin-inside p lines fleet place d b given lt is = omega (arith, ap (λ (c : Begin). c.line) is, given.accepted.roster.begins_exist place d lt)

pub AreBegun-left : (p : Problem) (lines : List TruckLine) (fleet : Assignment) (place n : ℕ) (d b : Begin) (days : List (List Run)) (queues : List (List ℕ)) (heads : List ℕ) →
    IsGiven p lines fleet → place < length fleet.begins → b ≡ get_or fleet.begins place d → n < b.count → AreBegun p lines fleet place b n days queues heads →
    length (queue_at queues b.line) * capacity_of p (line_at lines b.line) < (line_at lines b.line).load
AreBegun-left p lines fleet place n d b days queues heads given lt is left q =
    let inside : b.line < length lines = begin-inside p lines fleet place d b given lt is in
    let none : into_count [] b.line ≡ 0 = refl in
    line-left p lines fleet b.line (length (queue_at queues b.line)) given inside (omega (arith, q.came b.line inside, none, begin-lacks p lines fleet place n d b given lt is left))

pub AreBegun-next : (p : Problem) (lines : List TruckLine) (fleet : Assignment) (place n : ℕ) (d b : Begin) (days days_new : List (List Run)) (queues queues_new : List (List ℕ)) (heads : List ℕ) →
    IsGiven p lines fleet → place < length fleet.begins → b ≡ get_or fleet.begins place d → n < b.count → Begins p lines b.line days days_new queues queues_new →
    AreBegun p lines fleet place b n days queues heads → AreBegun p lines fleet place b (n + 1) days_new queues_new heads
AreBegun-next p lines fleet place n d b days days_new queues queues_new heads given lt is left begun q =
    let begins : List Begin = take place fleet.begins in
    AreQueued-begun p lines (begins ++ begin_of b.line n ∷ []) (begins ++ begin_of b.line (n + 1) ∷ []) [] b.line days days_new queues queues_new heads given.timetable
    (begin-inside p lines fleet place d b given lt is) (AreBegun-left p lines fleet place n d b days queues heads given lt is left q)
    (first_lines-more begins b.line n) (λ j. begin_count-more begins b.line n j) begun q

-- the turn at a place, of which so many trucks have turned
abbrev pub AreTurnedOver : Problem → List TruckLine → Assignment → ℕ → Turn → ℕ → List (List Run) → List (List ℕ) → List ℕ → Type 0
AreTurnedOver p lines fleet place t n days queues heads = AreQueued p lines fleet.begins (take place fleet.turns ++ turn_of t.before t.after n ∷ []) days queues heads

pub turn-meets : (p : Problem) (lines : List TruckLine) (fleet : Assignment) (place : ℕ) (d t : Turn) → IsGiven p lines fleet → place < length fleet.turns →
    t ≡ get_or fleet.turns place d → TurnMeets p lines t
turn-meets p lines fleet place d t given lt is =
    subst (TurnMeets p lines) (sym is) ((CountAsRoster-roster p lines fleet.begins fleet.turns given.accepted.roster).meet place d lt)

pub AreTurnedOver-waits : (p : Problem) (lines : List TruckLine) (fleet : Assignment) (place n : ℕ) (d t : Turn) (days : List (List Run)) (queues : List (List ℕ)) (heads : List ℕ) →
    IsGiven p lines fleet → place < length fleet.turns → t ≡ get_or fleet.turns place d → n < t.count → AreTurnedOver p lines fleet place t n days queues heads →
    get_or heads t.before 0 < length (queue_at queues t.before)
AreTurnedOver-waits p lines fleet place n d t days queues heads given lt is left q =
    let inside : t.before < length lines = (turn-meets p lines fleet place d t given lt is).exists.0 in
    omega (arith, q.left t.before inside, q.came t.before inside, truck-waits p lines fleet place n d t given lt is left)

pub AreTurnedOver-truck : (p : Problem) (lines : List TruckLine) (begins : List Begin) (turns : List Turn) (l : ℕ) (days : List (List Run)) (queues : List (List ℕ)) (heads : List ℕ) →
    l < length lines → get_or heads l 0 < length (queue_at queues l) → AreQueued p lines begins turns days queues heads →
    get_or (queue_at queues l) (get_or heads l 0) 0 < length days
AreTurnedOver-truck p lines begins turns l days queues heads inside waits q =
    let h : ℕ = get_or heads l 0 in
    let split : waiting_at queues heads l ≡ get_or (queue_at queues l) h 0 ∷ drop (h + 1) (queue_at queues l) = drop_more (queue_at queues l) h 0 waits in
    (All-head (EndsWith days l) (get_or (queue_at queues l) h 0) (drop (h + 1) (queue_at queues l)) (subst (All (EndsWith days l)) split (q.wait l inside))).exists

pub AreTurnedOver-left : (p : Problem) (lines : List TruckLine) (fleet : Assignment) (place n : ℕ) (d t : Turn) (days : List (List Run)) (queues : List (List ℕ)) (heads : List ℕ) →
    IsGiven p lines fleet → place < length fleet.turns → t ≡ get_or fleet.turns place d → n < t.count → AreTurnedOver p lines fleet place t n days queues heads →
    length (queue_at queues t.after) * capacity_of p (line_at lines t.after) < (line_at lines t.after).load
AreTurnedOver-left p lines fleet place n d t days queues heads given lt is left q =
    let inside : t.after < length lines = (turn-meets p lines fleet place d t given lt is).exists.1 in
    line-left p lines fleet t.after (length (queue_at queues t.after)) given inside (omega (arith, q.came t.after inside, turn-lacks p lines fleet place n d t given lt is left))

pub AreTurnedOver-next : (p : Problem) (lines : List TruckLine) (fleet : Assignment) (place n : ℕ) (d t : Turn) (days days_new : List (List Run)) (queues queues_new : List (List ℕ)) (heads heads_new : List ℕ) →
    IsGiven p lines fleet → place < length fleet.turns → t ≡ get_or fleet.turns place d → n < t.count →
    Turns p lines t.before t.after (get_or (queue_at queues t.before) (get_or heads t.before 0) 0) days days_new queues queues_new heads heads_new →
    AreTurnedOver p lines fleet place t n days queues heads → AreTurnedOver p lines fleet place t (n + 1) days_new queues_new heads_new
AreTurnedOver-next p lines fleet place n d t days days_new queues queues_new heads heads_new given lt is left turned q =
    let turns : List Turn = take place fleet.turns in
    let meets : TurnMeets p lines t = turn-meets p lines fleet place d t given lt is in
    let can : CanTurn p (line_at lines t.before) (line_at lines t.after) = meets.meet (omega (arith, left)) in
    let later : t.before < t.after = CanTurn-later p lines t.before t.after given.timetable meets.exists.0 meets.exists.1 can in
    AreQueued-turned p lines fleet.begins (turns ++ turn_of t.before t.after n ∷ []) (turns ++ turn_of t.before t.after (n + 1) ∷ []) t.before t.after days days_new queues queues_new heads heads_new
    given.timetable meets.exists.0 meets.exists.1 (λ e. omega (arith, later, e)) can
    (AreTurnedOver-waits p lines fleet place n d t days queues heads given lt is left q) (AreTurnedOver-left p lines fleet place n d t days queues heads given lt is left q)
    (λ i j. turn_count-more turns t.before t.after n i j) (λ j. into_count-more turns t.before t.after n j) (λ j. out_count-more turns t.before t.after n j) turned q

pub AreTurnedOver-all : (p : Problem) (lines : List TruckLine) (fleet : Assignment) (place n : ℕ) (d t : Turn) (days : List (List Run)) (queues : List (List ℕ)) (heads : List ℕ) →
    place < length fleet.turns → t ≡ get_or fleet.turns place d → n ≡ t.count → AreTurnedOver p lines fleet place t n days queues heads →
    AreQueued p lines fleet.begins (take (place + 1) fleet.turns) days queues heads
AreTurnedOver-all p lines fleet place n d t days queues heads lt is all q =
    let whole : turn_of t.before t.after n ≡ get_or fleet.turns place d = ap (λ (k : ℕ). turn_of t.before t.after k) all ∙ is in
    subst (λ (ts : List Turn). AreQueued p lines fleet.begins ts days queues heads)
    (ap (λ (s : Turn). take place fleet.turns ++ s ∷ []) whole ∙ sym (take_more fleet.turns place d lt)) q

-- where all have begun and turned, each truck has its day
pub AreTruckDays-queued : (p : Problem) (lines : List TruckLine) (fleet : Assignment) (days : List (List Run)) (queues : List (List ℕ)) (heads : List ℕ) → IsGiven p lines fleet →
    AreQueued p lines fleet.begins fleet.turns days queues heads → AreTruckDays p lines fleet days
AreTruckDays-queued p lines fleet days queues heads given q =
    let roster : CountAsRoster p lines fleet.begins fleet.turns = CountAsRoster-roster p lines fleet.begins fleet.turns given.accepted.roster in
    record {
      number =
          omega (
            arith,
            length-map days first_line,
            ap (λ (ls : List ℕ). length ls) q.firsts,
            length-first_lines fleet.begins,
            roster_size-begins (length lines) fleet.begins given.accepted.roster.begins_exist,
            given.accepted.size,
          );
      each = q.each;
      begins = q.firsts;
      turns = q.turned;
      runs = λ m lt. omega (arith, q.runs m lt, q.came m lt, roster.into m lt);
      loads = λ m lt.
          let n : ℕ = run_count days m in
          let t : TruckLine = line_at lines m in
          let all : n ≡ div_ceil t.load (capacity_of p t) = omega (arith, q.runs m lt, q.came m lt, roster.into m lt, given.holds m no_line lt) in
          let enough : t.load ≤ n * capacity_of p t = subst (λ (k : ℕ). t.load ≤ k * capacity_of p t) (sym all) (div_ceil-holds t.load (capacity_of p t) (capacity-some p lines m given.timetable lt)) in
          record { whole = (q.loads m lt).rest enough; parts = (q.loads m lt).few };
    }
