-- How many lines tables of prices have when they are written, and the limits of the tables of a run.
use Rattle.std.specs.Prelude.{ℕ, ◌+◌, ◌≡◌, ◌≤◌, List, length, All, sum_by}
use Rattle.fp_model.specs.declared.limits.TheConstants.{LATEST}
use Rattle.fp_prices.specs.Shares.{ClassShare}
use Rattle.fp_duals.specs.declared.limits.TheConstants.{MOST_PRICE_LINES}

-- the price lines of a table: its own, one for each share, and one for each of its weights
abbrev pub line_count : List ClassShare → ℕ
line_count table = 1 + sum_by (λ (s : ClassShare). 1 + length s.weights) table

-- the price lines of tables in all
abbrev pub line_total : List (List ClassShare) → ℕ
line_total tables = sum_by line_count tables

-- the points of a table are no later than the latest time
abbrev pub IsInTime : List ClassShare → Type 0
IsInTime table = All (λ (s : ClassShare). s.point ≤ LATEST) table

-- the points of the tables are no later than the latest time, and they have at most so many price lines
pub record AreWithinLimits (tables : List (List ClassShare)) : Type 0 where
  pub each : All IsInTime tables
  pub lines : line_total tables ≤ MOST_PRICE_LINES

-- such tables, with the number of their price lines
pub record AreCounted (tables : List (List ClassShare)) (lines : ℕ) : Type 0 where
  pub within : AreWithinLimits tables
  pub counted : lines ≡ line_total tables
