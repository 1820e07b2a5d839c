-- The text of trucks' days, one truck after the other.
use Rattle.std.proofs.Common.{◌≡◌, ℕ, ◌+◌, ◌<◌, List, [], ◌++◌, drop, length, get_or, sym, ap, ◌∙◌}
use Rattle.std.specs.Prelude.{All}
use Rattle.std.proofs.lemmas.Grind.{flat_map-append}
use Rattle.std.proofs.lemmas.List.{append_assoc, drop_more}
use Rattle.std.proofs.lemmas.List.Elements.{All-weaker}
use Rattle.fp_model.specs.Problem.{Problem}
use Rattle.fp_records.specs.Text.{line_of, lines_of}
use Rattle.fp_timetable.specs.declared.lines.TruckLine.{TruckLine}
use Rattle.fp_fleet.specs.declared.days.Run.{Run}
use Rattle.fp_fleet.specs.DayRows.{RunExists, day_rows, truck_rows}
use Rattle.fp_fleet.specs.TruckDays.{IsDay, IsRun}

-- one more truck
pub one-day : (p : Problem) (lines : List TruckLine) (days : List (List Run)) (i : ℕ) (day : List Run) (old new all : List ℕ) → i < length days → day ≡ get_or days i [] →
    new ≡ old ++ lines_of (day_rows p lines (i + 1) day) → old ++ lines_of (truck_rows p lines (i + 1) (drop i days)) ≡ all →
    new ++ lines_of (truck_rows p lines (i + 1 + 1) (drop (i + 1) days)) ≡ all
one-day p lines days i day old new all lt is added rest =
    let here : List ℕ = lines_of (day_rows p lines (i + 1) day) in
    let later : List ℕ = lines_of (truck_rows p lines (i + 1 + 1) (drop (i + 1) days)) in
    let split : lines_of (truck_rows p lines (i + 1) (drop i days)) ≡ here ++ later =
    ap (λ (ds : List (List Run)). lines_of (truck_rows p lines (i + 1) ds)) (drop_more days i [] lt)
    ∙ flat_map-append line_of (day_rows p lines (i + 1) (get_or days i [])) (truck_rows p lines (i + 1 + 1) (drop (i + 1) days))
    ∙ ap (λ (d : List Run). lines_of (day_rows p lines (i + 1) d) ++ later) (sym is) in
    ap (λ (text : List ℕ). text ++ later) added ∙ append_assoc old here later ∙ ap (λ (text : List ℕ). old ++ text) (sym split) ∙ rest

-- the lines of days' runs exist
pub RunExists-days : (p : Problem) (lines : List TruckLine) (days : List (List Run)) → All (IsDay p lines) days → All (All (RunExists (length lines))) days
RunExists-days p lines days all =
    All-weaker (IsDay p lines) (All (RunExists (length lines)))
    (λ day is. All-weaker (IsRun p lines) (RunExists (length lines)) (λ r run. run.line) day is.runs) days all
