-- Tables of prices of an instance: one more.
use Rattle.std.proofs.Common.{◌≡◌, ℕ, ◌≤◌, Bool, List, [], ◌∷◌, ◌++◌, length, get_or, sym, subst, arith}
use Rattle.std.specs.Prelude.{All, OnOk, Result, Ok, Err, is_ok}
use Rattle.std.specs.Bool.{OnTrue}
use Rattle.std.proofs.lemmas.List.Elements.{All-append, All-cons, All-nil}
use Rattle.std.proofs.lemmas.List.Sums.{sum_by-cons}
use Rattle.fp_model.specs.Problem.{Problem}
use Rattle.fp_prices.specs.declared.tables.TableFault.{TableFault}
use Rattle.fp_prices.specs.Prices.{AllKeepRule}
use Rattle.fp_prices.specs.Shares.{ClassShare}
use Rattle.fp_prices.specs.Tables.{AreCountable, IsAscendingTable}
use Rattle.fp_prices.proofs.TableAppends.{AreTables-append}
use Rattle.fp_duals.specs.declared.limits.TheConstants.{MOST_PRICE_LINES}
use Rattle.fp_duals.specs.PriceLines.{AreWithinLimits, IsInTime, line_count}
use Rattle.fp_duals.specs.PriceTables.{ArePriceTables, IsFitTable, IsShareOf}
use Rattle.fp_duals.proofs.PriceLines.{shares-le-lines, table-le-total, tables-le-lines}

-- more tables of the instance after tables of it
pub ArePriceTables-append : (p : Problem) (tables more : List (List ClassShare)) → ArePriceTables p tables → ArePriceTables p more → ArePriceTables p (tables ++ more)
ArePriceTables-append p tables more are others = record {
  in_order = AreTables-append p tables more are.in_order others.in_order;
  of_instance = All-append (All (IsShareOf p)) tables more are.of_instance others.of_instance;
}

-- tables within the limits, of arcs that exist, can be counted
pub countable : (p : Problem) (tables : List (List ClassShare)) → All (All (IsShareOf p)) tables → AreWithinLimits tables → AreCountable p tables
countable p tables of within = record {
  few_tables = omega (arith, tables-le-lines tables, within.lines);
  few_shares = λ k d lt. omega (arith, shares-le-lines (get_or tables k d), table-le-total tables k d lt, within.lines);
  arcs = λ k d lt i e less. (of k d lt i e less).arc;
}

-- a fit table within the limits
fit-within : (table : List ClassShare) (lines : ℕ) → lines ≤ MOST_PRICE_LINES → IsInTime table → line_count table ≤ lines → AreWithinLimits (table ∷ [])
fit-within table lines most in_time few = record {
  each = All-cons IsInTime table [] in_time (All-nil IsInTime);
  lines = omega (arith, sum_by-cons line_count table [], few, most);
}

pub countable-one : (p : Problem) (table : List ClassShare) (lines : ℕ) → lines ≤ MOST_PRICE_LINES → IsInTime table → line_count table ≤ lines → All (IsShareOf p) table → AreCountable p (table ∷ [])
countable-one p table lines most in_time few of = countable p (table ∷ []) (All-cons (All (IsShareOf p)) table [] of (All-nil (All (IsShareOf p)))) (fit-within table lines most in_time few)

-- what the tests of a table tell
pub fit-told : (p : Problem) (lines : ℕ) (table : List ClassShare) (tables : List (List ClassShare)) (r : Result (Unit {0}) TableFault) (told : Bool) → told ≡ is_ok r → tables ≡ table ∷ [] →
    OnOk r (AllKeepRule p tables) → 1 ≤ length table → IsInTime table → line_count table ≤ lines → All (IsShareOf p) table → IsAscendingTable table → OnTrue told (IsFitTable p lines table)
fit-told p lines table tables (Err fault) told is one keep some in_time few of ascends = subst (λ (b : Bool). OnTrue b (IsFitTable p lines table)) (sym is) tt
fit-told p lines table tables (Ok done) told is one keep some in_time few of ascends =
    let fit : IsFitTable p lines table = record {
      some = some;
      in_time = in_time;
      few = few;
      prices = record {
        in_order = record {
          ascending = All-cons IsAscendingTable table [] ascends (All-nil IsAscendingTable);
          rule = subst (AllKeepRule p) one keep;
        };
        of_instance = All-cons (All (IsShareOf p)) table [] of (All-nil (All (IsShareOf p)));
      };
    } in
    subst (λ (b : Bool). OnTrue b (IsFitTable p lines table)) (sym is) fit
