-- Least times of walks. A walk may visit a terminal more than once.
use Rattle.std.specs.Prelude.{ℕ, ◌≤◌, ◌≡◌, List, Option, MatchOption}
use Rattle.fp_model.specs.declared.parts.Shipment.{Shipment}
use Rattle.fp_model.specs.Problem.{Problem}
use Rattle.fp_model.specs.Routes.{Leads, walk_time}

-- some walk from here to there takes the time t, and none takes less
pub record IsLeastTime (p : Problem) (here there t : ℕ) : Type 0 where
  pub arcs : List ℕ
  pub leads : Leads p here arcs there
  pub time : walk_time p arcs ≡ t
  pub least : (others : List ℕ) → Leads p here others there → t ≤ walk_time p others

-- the least time from here to there, or that no walk leads there
abbrev pub IsDistance : Problem → ℕ → ℕ → Option ℕ → Type 0
IsDistance p here there o =
    MatchOption o ((arcs : List ℕ) → Leads p here arcs there → ⊥) (IsLeastTime p here there)

-- the fastest time of a shipment, or that there is none
abbrev pub IsFastest : Problem → Shipment → Option ℕ → Type 0
IsFastest p s o = IsDistance p s.from s.to o
