-- The days of three trucks: three go from A to B with 25, and two of them back with 15.
use Rattle.std.proofs.Common.{◌≡◌, ℕ, List, [], ◌∷◌, map, refl, lit≤, lit<, arith}
use Rattle.std.specs.Prelude.{codes, decimal}
use Rattle.std.proofs.lemmas.List.Elements.{All-cons, All-nil}
use Rattle.fp_model.specs.Problem.{Problem}
use Rattle.fp_model.proofs.Examples.{arc_between}
use Rattle.fp_timetable.specs.declared.lines.TruckLine.{TruckLine}
use Rattle.fp_fleet.specs.declared.days.Run.{Run}
use Rattle.fp_fleet.specs.declared.fleets.Begin.{Begin}
use Rattle.fp_fleet.specs.declared.fleets.Turn.{Turn}
use Rattle.fp_fleet.specs.Counts.{turn_count}
use Rattle.fp_fleet.specs.DayRows.{truck_rows}
use Rattle.fp_fleet.specs.TruckDays.{CarriesLoad, Follow, IsDay, IsRun, first_line, first_lines, part_count, run_count, turned_count}

-- an arc to and fro, of time 5 and capacity 10
abbrev to_and_fro : Problem
to_and_fro = record {
  terminals = (65 ∷ []) ∷ (66 ∷ []) ∷ [];
  holds = 0 ∷ 0 ∷ [];
  arcs = arc_between 0 1 ∷ arc_between 1 0 ∷ [];
  shipments = [];
  scale = 1000000;
}

-- three trucks leave at 0, and two at 5
abbrev lines : List TruckLine
lines = record { arc = 0; depart = 0; trucks = 3; load = 25 } ∷ record { arc = 1; depart = 5; trucks = 2; load = 15 } ∷ []

abbrev run : (line load : ℕ) → Run
run line load = record { line = line; load = load }

-- two full trucks, of which one comes back full, and one with the rest
abbrev days : List (List Run)
days = (run 0 10 ∷ run 1 10 ∷ []) ∷ (run 0 10 ∷ run 1 5 ∷ []) ∷ (run 0 5 ∷ []) ∷ []

abbrev begins : List Begin
begins = record { line = 0; count = 3 } ∷ []

abbrev turns : List Turn
turns = record { before = 0; after = 1; count = 2 } ∷ []

first-day : IsDay to_and_fro lines (run 0 10 ∷ run 1 10 ∷ [])
first-day = record {
  some = lit< tt;
  runs = All-cons (IsRun to_and_fro lines) (run 0 10) (run 1 10 ∷ []) (record { line = lit< tt; some = lit< tt; holds = lit≤ tt })
      (All-cons (IsRun to_and_fro lines) (run 1 10) [] (record { line = lit< tt; some = lit< tt; holds = lit≤ tt }) (All-nil (IsRun to_and_fro lines)));
  follow = ((refl, lit≤ tt), tt);
}

-- a truck that comes back can't have left at the same moment
in-two-places : Follow to_and_fro lines (run 1 10 ∷ run 0 10 ∷ []) → ⊥
in-two-places follow = omega (arith, follow.0.1)

-- a truck holds no more than 10
too-heavy : IsRun to_and_fro lines (run 0 11) → ⊥
too-heavy is = omega (arith, is.holds)

all-begin : map first_line days ≡ first_lines begins
all-begin = refl

all-turn : turned_count days 0 1 ≡ turn_count turns 0 1
all-turn = refl

none-turns-back : turned_count days 1 0 ≡ 0
none-turns-back = refl

three-go : run_count days 0 ≡ 3
three-go = refl

two-come-back : run_count days 1 ≡ 2
two-come-back = refl

to-carries : CarriesLoad to_and_fro lines days 0
to-carries = record { whole = refl; parts = lit≤ tt }

fro-carries : CarriesLoad to_and_fro lines days 1
fro-carries = record { whole = refl; parts = lit≤ tt }

-- two trucks that are not full are one too many
two-parts : part_count 10 ((run 0 9 ∷ []) ∷ (run 0 9 ∷ []) ∷ (run 0 7 ∷ []) ∷ []) 0 ≡ 3
two-parts = refl

shown : truck_rows to_and_fro lines 2 ((run 0 10 ∷ run 1 5 ∷ []) ∷ [])
    ≡ (codes "truck" ∷ decimal 2 ∷ [])
    ∷ (codes "run" ∷ (65 ∷ []) ∷ (66 ∷ []) ∷ decimal 0 ∷ decimal 5 ∷ decimal 10 ∷ [])
    ∷ (codes "run" ∷ (66 ∷ []) ∷ (65 ∷ []) ∷ decimal 5 ∷ decimal 10 ∷ decimal 5 ∷ [])
    ∷ []
shown = refl
