-- Lines of tables of prices: of one table more, and of fewer.
use Rattle.std.proofs.Common.{◌≡◌, ℕ, ◌+◌, ◌<◌, ◌≤◌, List, [], ◌∷◌, ◌++◌, length, get_or, arith}
use Rattle.std.proofs.lemmas.List.Elements.{All-append, All-cons, All-nil}
use Rattle.std.proofs.lemmas.List.Sums.{sum_by-append, sum_by-cons, sum_by_more_le}
use Rattle.fp_prices.specs.Shares.{ClassShare}
use Rattle.fp_duals.specs.declared.limits.TheConstants.{MOST_PRICE_LINES}
use Rattle.fp_duals.specs.PriceLines.{AreCounted, IsInTime, line_count, line_total}

-- the lines of one table more
pub total-more : (tables : List (List ClassShare)) (table : List ClassShare) → line_total (tables ++ (table ∷ [])) ≡ line_total tables + line_count table
total-more tables table = omega (arith, sum_by-append line_count tables (table ∷ []), sum_by-cons line_count table [])

-- tables within the limits, with one more that fits
pub counted-more : (tables : List (List ClassShare)) (table : List ClassShare) (lines : ℕ) → AreCounted tables lines → IsInTime table → line_count table + line_total tables ≤ MOST_PRICE_LINES →
    AreCounted (tables ++ (table ∷ [])) (lines + line_count table)
counted-more tables table lines are in_time few = record {
  within = record {
    each = All-append IsInTime tables (table ∷ []) are.within.each (All-cons IsInTime table [] in_time (All-nil IsInTime));
    lines = omega (arith, total-more tables table, few);
  };
  counted = omega (arith, total-more tables table, are.counted);
}

-- a table has at most as many shares as lines
pub shares-le-lines : (table : List ClassShare) → length table ≤ line_count table
shares-le-lines [] = omega arith
shares-le-lines (share ∷ table) = omega (arith, sum_by-cons (λ (s : ClassShare). 1 + length s.weights) share table, shares-le-lines table)

-- tables are at most as many as their lines
pub tables-le-lines : (tables : List (List ClassShare)) → length tables ≤ line_total tables
tables-le-lines [] = omega arith
tables-le-lines (table ∷ tables) = omega (arith, sum_by-cons line_count table tables, tables-le-lines tables)

-- the lines of one of the tables are at most those of all
pub table-le-total : (tables : List (List ClassShare)) (k : ℕ) (d : List ClassShare) → k < length tables → line_count (get_or tables k d) ≤ line_total tables
table-le-total tables k d lt = omega (arith, sum_by_more_le line_count tables k d lt)
