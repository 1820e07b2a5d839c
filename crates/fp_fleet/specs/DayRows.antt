-- The fields of the lines that tell what each truck runs, in order.
use Rattle.std.specs.Prelude.{ℕ, ◌+◌, ◌<◌, ⊤, List, [], ◌∷◌, ◌++◌, map, codes, decimal, All, Option, None, Some}
use Rattle.fp_model.specs.Problem.{Problem}
use Rattle.fp_timetable.specs.declared.lines.TruckLine.{TruckLine}
use Rattle.fp_fleet.specs.declared.days.Run.{Run}
use Rattle.fp_fleet.specs.Fleets.{Assignment}
use Rattle.fp_fleet.specs.Rosters.{arrival_of, line_at}
use Rattle.fp_fleet.specs.Rows.{begin_fields, depart_text, end_fields, fleet_fields, from_name, need_fields, to_name, turn_fields}

-- the line of a run is one of so many
abbrev pub RunExists : ℕ → Run → Type 0
RunExists lines r = r.line < lines

-- so are those of all runs that are told
abbrev pub RunsExist : ℕ → Option (List (List Run)) → Type 0
RunsExist lines None = ⊤
RunsExist lines (Some days) = All (All (RunExists lines)) days

-- `truck,NUMBER`
abbrev pub truck_fields : ℕ → List (List ℕ)
truck_fields number = codes "truck" ∷ decimal number ∷ []

-- when a line arrives
abbrev pub arrive_text : Problem → List TruckLine → ℕ → List ℕ
arrive_text p lines l = decimal (arrival_of p (line_at lines l))

-- `run,FROM,TO,DEPART,ARRIVE,LOAD`
abbrev pub run_fields : Problem → List TruckLine → Run → List (List ℕ)
run_fields p lines r =
    codes "run" ∷ from_name p lines r.line ∷ to_name p lines r.line ∷ depart_text lines r.line ∷ arrive_text p lines r.line ∷ decimal r.load ∷ []

-- the lines of a truck with a number: its own and those of its runs
abbrev pub day_rows : Problem → List TruckLine → ℕ → List Run → List (List (List ℕ))
day_rows p lines number day = truck_fields number ∷ map (run_fields p lines) day

-- the lines of trucks that are numbered from a number on
abbrev pub truck_rows : Problem → List TruckLine → ℕ → List (List Run) → List (List (List ℕ))
truck_rows p lines number [] = []
truck_rows p lines number (day ∷ days) = day_rows p lines number day ++ truck_rows p lines (number + 1) days

-- `trucks,many`
abbrev pub many_fields : List (List ℕ)
many_fields = codes "trucks" ∷ codes "many" ∷ []

-- the lines of trucks, which are numbered from 1, or that they are too many
abbrev pub told_rows : Problem → List TruckLine → Option (List (List Run)) → List (List (List ℕ))
told_rows p lines None = many_fields ∷ []
told_rows p lines (Some days) = truck_rows p lines 1 days

-- the lines of a fleet's text with those of its trucks
abbrev pub fleet_day_rows : Problem → List TruckLine → Assignment → Option (List (List Run)) → List (List (List ℕ))
fleet_day_rows p lines fleet told =
    fleet_fields fleet.total
    ∷ (map (need_fields p) fleet.needs
    ++ (map (begin_fields p lines) fleet.begins
    ++ (map (turn_fields p lines) fleet.turns
    ++ (told_rows p lines told
    ++ (end_fields ∷ [])))))
