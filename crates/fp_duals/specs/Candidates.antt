-- Tables that may be added to those of a run, with what a leaf is worth by them.
use Rattle.std.specs.Prelude.{ℕ, ◌+◌, ◌<◌, ◌≤◌, ◌≡◌, List, [], ◌∷◌, ◌++◌, length, Option, Some, None}
use Rattle.fp_prices.specs.declared.leaf_prices.Kind.TheVariants.{Table}
use Rattle.fp_prices.specs.Rounds.{LeafModel}
use Rattle.fp_prices.specs.Shares.{ClassShare}
use Rattle.fp_duals.specs.declared.candidates.Candidate.{Candidate}
use Rattle.fp_duals.specs.declared.limits.TheConstants.{MOST_PRICE_LINES}
use Rattle.fp_duals.specs.declared.starts.Start.{Start}
use Rattle.fp_duals.specs.PriceLines.{IsInTime, line_count, line_total}
use Rattle.fp_duals.specs.PriceTables.{ArePriceTables}
use Rattle.fp_duals.specs.Starts.{IsStart}

-- the table may be added to the tables, and the start's prices are by it
pub record IsCandidate (leaf : LeafModel) (tables : List (List ClassShare)) (c : Candidate) : Type 0 where
  pub some : 1 ≤ length c.table
  pub in_time : IsInTime c.table
  pub few : line_count c.table + line_total tables ≤ MOST_PRICE_LINES
  pub prices : ArePriceTables leaf.setting.problem (c.table ∷ [])
  pub named : c.start.kind ≡ Table (length tables + 1)
  pub start : IsStart leaf (tables ++ (c.table ∷ [])) c.start

-- such a table of at most so many price lines, by which the leaf is worth more than by a start
pub record IsBetter (leaf : LeafModel) (tables : List (List ClassShare)) (room : ℕ) (start : Start) (c : Candidate) : Type 0 where
  pub candidate : IsCandidate leaf tables c
  pub fits : line_count c.table ≤ room
  pub above : start.value < c.start.value

-- where a candidate was found, there is this one too, and the leaf is worth no less by it
abbrev pub IsNoBetter : Option Candidate → Option Candidate → Type 0
IsNoBetter None other = Unit {0}
IsNoBetter (Some c) None = ⊥
IsNoBetter (Some c) (Some other) = c.start.value ≤ other.start.value
