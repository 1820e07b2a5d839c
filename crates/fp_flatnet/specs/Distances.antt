-- Least times between one terminal and all terminals.
use Rattle.std.specs.Prelude.{ℕ, ◌≡◌, ◌<◌, List, length, Option, None, slice_index_or}
use Rattle.fp_model.specs.Problem.{Problem}
use Rattle.fp_model.specs.Times.{IsDistance}

-- the entry of a terminal
abbrev pub time_at : List (Option ℕ) → ℕ → Option ℕ
time_at times terminal = slice_index_or times terminal None

-- for each terminal the least time of a walk from here to it, or that there is none
pub record AreTimesFrom (p : Problem) (here : ℕ) (times : List (Option ℕ)) : Type 0 where
  pub one_each : length times ≡ length p.terminals
  pub exact : (there : ℕ) → there < length p.terminals → IsDistance p here there (time_at times there)

-- for each terminal the least time of a walk from it to there, or that there is none
pub record AreTimesTo (p : Problem) (there : ℕ) (times : List (Option ℕ)) : Type 0 where
  pub one_each : length times ≡ length p.terminals
  pub exact : (here : ℕ) → here < length p.terminals → IsDistance p here there (time_at times here)
