-- Two sets of points that are the same at an instance's terminals.
use Rattle.std.specs.Prelude.{ℕ, ◌<◌, List, length}
use Rattle.fp_model.specs.Problem.{Problem}
use Rattle.fp_timenodes.specs.Floor.{HaveSamePoints}

-- each terminal of the instance has the same points in both, whatever their lists
abbrev pub AgreeOnPoints : Problem → (ℕ → List ℕ) → (ℕ → List ℕ) → Type 0
AgreeOnPoints p points others = (terminal : ℕ) → terminal < length p.terminals → HaveSamePoints (points terminal) (others terminal)
