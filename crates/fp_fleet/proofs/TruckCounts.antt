-- The counts of begins and of turns with one truck more, and why there is a truck for each.
use Rattle.std.proofs.Common.{◌≡◌, ℕ, ◌+◌, ◌<◌, ◌≤◌, Bool, true, false, List, [], ◌∷◌, ◌++◌, drop, length, take, get_or, refl, sym, ap, ◌∙◌, arith, ⊎_elim}
use Rattle.std.specs.Prelude.{◌==◌, replicate, sum_by, if◌then◌else◌}
use Rattle.std.proofs.lemmas.Bool.{cases_Bool, cases_eq, cases_lt, cond-false, cond-true, eq-eqb, eqb-true}
use Rattle.std.proofs.lemmas.List.{append-nil, append_assoc, get_or-drop, length-append, length-drop, length-replicate, replicate_more}
use Rattle.std.proofs.lemmas.List.Elements.{All-from_get_or}
use Rattle.std.proofs.lemmas.List.Sums.{get_or-le-sum_by, sum_by-cons, sum_by-take-drop, sum_by_more_le, sum_by_push}
use Rattle.fp_base_lists.proofs.SumsBelow.{sum_below-places}
use Rattle.fp_model.specs.Problem.{IsArc, Problem, arc_at, no_arc}
use Rattle.fp_timetable.specs.declared.lines.TruckLine.{TruckLine}
use Rattle.fp_timetable.specs.Order.{no_line}
use Rattle.fp_fleet.specs.declared.fleets.Begin.{Begin}
use Rattle.fp_fleet.specs.declared.fleets.Turn.{Turn}
use Rattle.fp_fleet.specs.Counts.{begin_count, into_count, out_count, turn_count}
use Rattle.fp_fleet.specs.Fits.{TurnMeets}
use Rattle.fp_fleet.specs.Fleets.{Assignment}
use Rattle.fp_fleet.specs.Queues.{IsGiven}
use Rattle.fp_fleet.specs.Rosters.{CanTurn, line_at, truck_total}
use Rattle.fp_fleet.specs.Sweeps.{IsTimetable}
use Rattle.fp_fleet.specs.TruckDays.{first_lines}
use Rattle.fp_fleet.proofs.AddedTurns.{sum-none}
use Rattle.fp_fleet.proofs.CountedRosters.{CountAsRoster, CountAsRoster-roster}

-- so many trucks begin with a line, or turn
abbrev pub begin_of : (line count : ℕ) → Begin
begin_of line count = record { line = line; count = count }

abbrev pub turn_of : (before after count : ℕ) → Turn
turn_of before after count = record { before = before; after = after; count = count }

kept-more : (b : Bool) (n : ℕ) → (if b then n + 1 else 0) ≡ (if b then n else 0) + (if b then 1 else 0)
kept-more true n = refl
kept-more false n = refl

kept-none : (b : Bool) → ◌≡◌ {A = ℕ} (if b then 0 else 0) 0
kept-none true = refl
kept-none false = refl

kept-more_both : (a b : Bool) (n : ℕ) →
    (if a then (if b then n + 1 else 0) else 0) ≡ (if a then (if b then n else 0) else 0) + (if a then (if b then 1 else 0) else 0)
kept-more_both true b n = kept-more b n
kept-more_both false b n = refl

kept-none_both : (a b : Bool) → ◌≡◌ {A = ℕ} (if a then (if b then 0 else 0) else 0) 0
kept-none_both true b = kept-none b
kept-none_both false b = refl

-- one truck more
pub begin_count-more : (begins : List Begin) (l n m : ℕ) →
    begin_count (begins ++ begin_of l (n + 1) ∷ []) m ≡ begin_count (begins ++ begin_of l n ∷ []) m + (if l == m then 1 else 0)
begin_count-more begins l n m =
    let f : Begin → ℕ = λ b. if b.line == m then b.count else 0 in
    omega (arith, sum_by_push f begins (begin_of l (n + 1)), sum_by_push f begins (begin_of l n), kept-more (l == m) n)

pub into_count-more : (turns : List Turn) (l k n m : ℕ) →
    into_count (turns ++ turn_of l k (n + 1) ∷ []) m ≡ into_count (turns ++ turn_of l k n ∷ []) m + (if k == m then 1 else 0)
into_count-more turns l k n m =
    let f : Turn → ℕ = λ t. if t.after == m then t.count else 0 in
    omega (arith, sum_by_push f turns (turn_of l k (n + 1)), sum_by_push f turns (turn_of l k n), kept-more (k == m) n)

pub out_count-more : (turns : List Turn) (l k n m : ℕ) →
    out_count (turns ++ turn_of l k (n + 1) ∷ []) m ≡ out_count (turns ++ turn_of l k n ∷ []) m + (if l == m then 1 else 0)
out_count-more turns l k n m =
    let f : Turn → ℕ = λ t. if t.before == m then t.count else 0 in
    omega (arith, sum_by_push f turns (turn_of l k (n + 1)), sum_by_push f turns (turn_of l k n), kept-more (l == m) n)

pub turn_count-more : (turns : List Turn) (l k n i j : ℕ) →
    turn_count (turns ++ turn_of l k (n + 1) ∷ []) i j ≡ turn_count (turns ++ turn_of l k n ∷ []) i j + (if l == i then (if k == j then 1 else 0) else 0)
turn_count-more turns l k n i j =
    let f : Turn → ℕ = λ t. if t.before == i then (if t.after == j then t.count else 0) else 0 in
    omega (arith, sum_by_push f turns (turn_of l k (n + 1)), sum_by_push f turns (turn_of l k n), kept-more_both (l == i) (k == j) n)

-- no truck more
pub begin_count-none : (begins : List Begin) (l m : ℕ) → begin_count (begins ++ begin_of l 0 ∷ []) m ≡ begin_count begins m
begin_count-none begins l m =
    omega (arith, sum_by_push (λ (b : Begin). if b.line == m then b.count else 0) begins (begin_of l 0), kept-none (l == m))

pub into_count-none : (turns : List Turn) (l k m : ℕ) → into_count (turns ++ turn_of l k 0 ∷ []) m ≡ into_count turns m
into_count-none turns l k m =
    omega (arith, sum_by_push (λ (t : Turn). if t.after == m then t.count else 0) turns (turn_of l k 0), kept-none (k == m))

pub out_count-none : (turns : List Turn) (l k m : ℕ) → out_count (turns ++ turn_of l k 0 ∷ []) m ≡ out_count turns m
out_count-none turns l k m =
    omega (arith, sum_by_push (λ (t : Turn). if t.before == m then t.count else 0) turns (turn_of l k 0), kept-none (l == m))

pub turn_count-none : (turns : List Turn) (l k i j : ℕ) → turn_count (turns ++ turn_of l k 0 ∷ []) i j ≡ turn_count turns i j
turn_count-none turns l k i j =
    omega (arith, sum_by_push (λ (t : Turn). if t.before == i then (if t.after == j then t.count else 0) else 0) turns (turn_of l k 0), kept-none_both (l == i) (k == j))

-- the first lines
first_lines-push : (begins : List Begin) (l n : ℕ) → first_lines (begins ++ begin_of l n ∷ []) ≡ first_lines begins ++ replicate n l
first_lines-push [] l n = append-nil (replicate n l)
first_lines-push (b ∷ begins) l n =
    ap (λ (ls : List ℕ). replicate b.count b.line ++ ls) (first_lines-push begins l n) ∙ sym (append_assoc (replicate b.count b.line) (first_lines begins) (replicate n l))

pub first_lines-none : (begins : List Begin) (l : ℕ) → first_lines (begins ++ begin_of l 0 ∷ []) ≡ first_lines begins
first_lines-none begins l = first_lines-push begins l 0 ∙ append-nil (first_lines begins)

pub first_lines-more : (begins : List Begin) (l n : ℕ) → first_lines (begins ++ begin_of l (n + 1) ∷ []) ≡ first_lines (begins ++ begin_of l n ∷ []) ++ l ∷ []
first_lines-more begins l n =
    first_lines-push begins l (n + 1)
    ∙ ap (λ (ls : List ℕ). first_lines begins ++ ls) (sym (replicate_more n l))
    ∙ sym (append_assoc (first_lines begins) (replicate n l) (l ∷ []))
    ∙ ap (λ (ls : List ℕ). ls ++ l ∷ []) (sym (first_lines-push begins l n))

pub length-first_lines : (begins : List Begin) → length (first_lines begins) ≡ sum_by (λ (b : Begin). b.count) begins
length-first_lines [] = refl
length-first_lines (b ∷ begins) =
    omega (
      arith,
      length-append (replicate b.count b.line) (first_lines begins),
      length-replicate b.count b.line,
      length-first_lines begins,
      sum_by-cons (λ (c : Begin). c.count) b begins,
    )

-- a line that trucks can turn to stands later
pub CanTurn-later : (p : Problem) (lines : List TruckLine) (l m : ℕ) → IsTimetable p lines → l < length lines → m < length lines →
    CanTurn p (line_at lines l) (line_at lines m) → l < m
CanTurn-later p lines l m timetable there inside can =
    let arc : IsArc (length p.terminals) (arc_at p (line_at lines l).arc) = timetable.valid.parts.arcs (line_at lines l).arc no_arc (timetable.exist l no_line there) in
    ⊎_elim
    (λ (before : l < m). before)
    (λ (after : m ≤ l). absurd (omega (arith, can.1, arc.within.time.0, timetable.rise m l after there)))
    (cases_lt l m)

counted : (p : Problem) (lines : List TruckLine) (fleet : Assignment) → IsGiven p lines fleet → CountAsRoster p lines fleet.begins fleet.turns
counted p lines fleet given = CountAsRoster-roster p lines fleet.begins fleet.turns given.accepted.roster

-- from a turn on none turns to the line that it leaves
into-none_after : (p : Problem) (lines : List TruckLine) (fleet : Assignment) (place : ℕ) (d : Turn) → IsGiven p lines fleet → place < length fleet.turns →
    into_count (drop place fleet.turns) (get_or fleet.turns place d).before ≡ 0
into-none_after p lines fleet place d given lt =
    let turns : List Turn = fleet.turns in
    let l : ℕ = (get_or turns place d).before in
    let f : Turn → ℕ = λ t. if t.after == l then t.count else 0 in
    sum-none f (drop place turns) (All-from_get_or (λ (t : Turn). f t ≡ 0) (drop place turns) d
    (λ i less.
    let inside : place + i < length turns = omega (arith, less, length-drop place turns) in
    let s : Turn = get_or turns (place + i) d in
    let is : get_or (drop place turns) i d ≡ s = get_or-drop place turns i d in
    let meets : TurnMeets p lines s = (counted p lines fleet given).meet (place + i) d inside in
    let not_before : l ≤ s.before =
    ⊎_elim
    (λ (here : i ≡ 0). let same : place + i ≡ place = omega (arith, here) in omega (arith, ap (λ (k : ℕ). (get_or turns k d).before) same))
    (λ (later : i ≡ 0 → ⊥).
    ⊎_elim
    (λ (less : l < s.before). omega (arith, less))
    (λ (same : (l ≡ s.before) × ((get_or turns place d).after < s.after)). omega (arith, same.0))
    (given.accepted.turns_ascend place (place + i) d (omega (arith, later)) inside))
    (cases_eq i 0) in
    ap f is
    ∙ ⊎_elim
    (λ (to : (s.after == l) ≡ true).
    ⊎_elim
    (λ (some : 0 < s.count).
    absurd (omega (arith, CanTurn-later p lines s.before s.after given.timetable meets.exists.0 meets.exists.1 (meets.meet some), eqb-true s.after l to, not_before)))
    (λ (none : s.count ≤ 0). let zero : s.count ≡ 0 = omega (arith, none) in cond-true {A = ℕ} (s.after == l) s.count 0 to ∙ zero)
    (cases_lt 0 s.count))
    (λ (other : (s.after == l) ≡ false). cond-false {A = ℕ} (s.after == l) s.count 0 other)
    (cases_Bool (s.after == l))))

-- while trucks of a turn are left, one waits at the end of the line before
pub truck-waits : (p : Problem) (lines : List TruckLine) (fleet : Assignment) (place n : ℕ) (d t : Turn) → IsGiven p lines fleet → place < length fleet.turns →
    t ≡ get_or fleet.turns place d → n < t.count →
    out_count (take place fleet.turns ++ turn_of t.before t.after n ∷ []) t.before
    < begin_count fleet.begins t.before + into_count (take place fleet.turns ++ turn_of t.before t.after n ∷ []) t.before
truck-waits p lines fleet place n d t given lt is left =
    let turns : List Turn = fleet.turns in
    let l : ℕ = t.before in
    let roster : CountAsRoster p lines fleet.begins turns = counted p lines fleet given in
    let here : Turn = get_or turns place d in
    let inside : here.before < length lines = (roster.meet place d lt).exists.0 in
    let same : l ≡ here.before = ap (λ (s : Turn). s.before) is in
    let none : into_count (drop place turns) l ≡ 0 = ap (λ (k : ℕ). into_count (drop place turns) k) same ∙ into-none_after p lines fleet place d given lt in
    let out : Turn → ℕ = λ s. if s.before == l then s.count else 0 in
    let into : Turn → ℕ = λ s. if s.after == l then s.count else 0 in
    omega (
      arith,
      left,
      roster.into l (omega (arith, inside, same)),
      roster.out l (omega (arith, inside, same)),
      sum_by-take-drop into turns place,
      none,
      sum_by_push into (take place turns) (turn_of t.before t.after n),
      sum_by_push out (take place turns) (turn_of t.before t.after n),
      cond-true (l == l) n 0 (eq-eqb l l refl),
      sum_by_more_le out turns place d lt,
      cond-true (here.before == l) here.count 0 (eq-eqb here.before l (sym same)),
      ap (λ (s : Turn). s.count) is,
    )

-- and the line after is not full
pub turn-lacks : (p : Problem) (lines : List TruckLine) (fleet : Assignment) (place n : ℕ) (d t : Turn) → IsGiven p lines fleet → place < length fleet.turns →
    t ≡ get_or fleet.turns place d → n < t.count →
    begin_count fleet.begins t.after + into_count (take place fleet.turns ++ turn_of t.before t.after n ∷ []) t.after < (line_at lines t.after).trucks
turn-lacks p lines fleet place n d t given lt is left =
    let turns : List Turn = fleet.turns in
    let m : ℕ = t.after in
    let roster : CountAsRoster p lines fleet.begins turns = counted p lines fleet given in
    let here : Turn = get_or turns place d in
    let same : m ≡ here.after = ap (λ (s : Turn). s.after) is in
    let into : Turn → ℕ = λ s. if s.after == m then s.count else 0 in
    omega (
      arith,
      left,
      roster.into m (omega (arith, (roster.meet place d lt).exists.1, same)),
      sum_by_push into (take place turns) (turn_of t.before t.after n),
      cond-true (m == m) n 0 (eq-eqb m m refl),
      sum_by_more_le into turns place d lt,
      cond-true (here.after == m) here.count 0 (eq-eqb here.after m (sym same)),
      ap (λ (s : Turn). s.count) is,
    )

-- while trucks of a begin are left, its line is not full
pub begin-lacks : (p : Problem) (lines : List TruckLine) (fleet : Assignment) (place n : ℕ) (d b : Begin) → IsGiven p lines fleet → place < length fleet.begins →
    b ≡ get_or fleet.begins place d → n < b.count →
    begin_count (take place fleet.begins ++ begin_of b.line n ∷ []) b.line < (line_at lines b.line).trucks
begin-lacks p lines fleet place n d b given lt is left =
    let m : ℕ = b.line in
    let roster : CountAsRoster p lines fleet.begins fleet.turns = counted p lines fleet given in
    let here : Begin = get_or fleet.begins place d in
    let same : m ≡ here.line = ap (λ (c : Begin). c.line) is in
    let begun : Begin → ℕ = λ c. if c.line == m then c.count else 0 in
    omega (
      arith,
      left,
      roster.into m (omega (arith, roster.exist place d lt, same)),
      sum_by_push begun (take place fleet.begins) (begin_of b.line n),
      cond-true (m == m) n 0 (eq-eqb m m refl),
      sum_by_more_le begun fleet.begins place d lt,
      cond-true (here.line == m) here.count 0 (eq-eqb here.line m (sym same)),
      ap (λ (c : Begin). c.count) is,
    )

-- a line has no more trucks than all lines
pub line-le-total : (lines : List TruckLine) (m : ℕ) → m < length lines → (line_at lines m).trucks ≤ truck_total lines
line-le-total lines m lt =
    omega (arith, get_or-le-sum_by (λ (t : TruckLine). t.trucks) lines m no_line lt, sum_below-places (λ (t : TruckLine). t.trucks) no_line lines)
