-- A truck runs each line once at most: the lines of its day stand one after the other.
use Rattle.std.proofs.Common.{◌<◌, List, [], ◌∷◌, arith}
use Rattle.std.specs.Prelude.{All, AllPairs}
use Rattle.std.proofs.lemmas.List.Elements.{All-cons, All-head, All-nil, All-tail, All-weaker}
use Rattle.std.proofs.lemmas.List.Kept.{AllPairs-cons}
use Rattle.fp_model.specs.Problem.{Problem}
use Rattle.fp_timetable.specs.declared.lines.TruckLine.{TruckLine}
use Rattle.fp_fleet.specs.declared.days.Run.{Run}
use Rattle.fp_fleet.specs.Sweeps.{IsTimetable}
use Rattle.fp_fleet.specs.TruckDays.{Follow, IsDay, IsRun}
use Rattle.fp_fleet.proofs.TruckCounts.{CanTurn-later}

-- one run stands before another
abbrev Rises : Run → Run → Type 0
Rises r s = r.line < s.line

rises-from : (p : Problem) (lines : List TruckLine) (r : Run) (day : List Run) → IsTimetable p lines → All (IsRun p lines) (r ∷ day) → Follow p lines (r ∷ day) →
    All (Rises r) day × AllPairs Rises (r ∷ day)
rises-from p lines r [] timetable runs follow = (All-nil (Rises r), AllPairs-cons Rises r [] (All-nil (Rises r)) (λ i j d less lt. absurd (omega (arith, less, lt))))
rises-from p lines r (s ∷ day) timetable runs follow =
    let later : All (IsRun p lines) (s ∷ day) = All-tail (IsRun p lines) r (s ∷ day) runs in
    let first : IsRun p lines r = All-head (IsRun p lines) r (s ∷ day) runs in
    let second : IsRun p lines s = All-head (IsRun p lines) s day later in
    let less : r.line < s.line = CanTurn-later p lines r.line s.line timetable first.line second.line follow.0 in
    let rest : All (Rises s) day × AllPairs Rises (s ∷ day) = rises-from p lines s day timetable later follow.1 in
    let here : All (Rises r) (s ∷ day) = All-cons (Rises r) s day less (All-weaker (Rises s) (Rises r) (λ x h. omega (arith, h, less)) day rest.0) in
    (here, AllPairs-cons Rises r (s ∷ day) here rest.1)
