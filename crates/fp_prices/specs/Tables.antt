-- What is asked of tables of prices, and the first share that breaks the price rule.
use Rattle.std.specs.Prelude.{ℕ, ◌<◌, ◌≤◌, ◌-◌, List, length, take, All, AllPairs, slice_index_or, [], ◌^◌}
use Rattle.fp_base_lists.specs.Order.{Precedes}
use Rattle.fp_model.specs.Problem.{Problem, arc_at}
use Rattle.fp_prices.specs.declared.leaf_prices.Kind.{Kind}
use Rattle.fp_prices.specs.declared.leaf_prices.Kind.TheVariants.{Linear, Even, Table}
use Rattle.fp_prices.specs.declared.tables.TableFault.{TableFault}
use Rattle.fp_prices.specs.declared.tables.Weight.{Weight}
use Rattle.fp_prices.specs.Shares.{ClassShare}
use Rattle.fp_prices.specs.Prices.{AllKeepRule, KeepsRule, table_at}

-- the shares ascend strictly by arc and then by point, and in each share the weights ascend strictly by shipment
pub record IsAscendingTable (table : List ClassShare) : Type 0 where
  pub shares : AllPairs (λ (s t : ClassShare). Precedes s.arc s.point t.arc t.point) table
  pub weights : All (λ (s : ClassShare). AllPairs (λ (v w : Weight). v.shipment < w.shipment) s.weights) table

-- tables in order whose shares all keep the price rule
pub record AreTables (p : Problem) (tables : List (List ClassShare)) : Type 0 where
  pub ascending : All IsAscendingTable tables
  pub rule : AllKeepRule p tables

-- a kind by a table names one that exists
abbrev pub HasKind : List (List ClassShare) → Kind → Type 0
HasKind tables Linear = Unit {0}
HasKind tables Even = Unit {0}
HasKind tables (Table id) = (1 ≤ id) × (id ≤ length tables)

-- the shares are of arcs that exist, and there are fewer tables, and fewer shares in each, than can be counted in 32 bits
pub record AreCountable (p : Problem) (tables : List (List ClassShare)) : Type 0 where
  pub few_tables : length tables < 2 ^ 32 - 1
  pub few_shares : All (λ (table : List ClassShare). length table < 2 ^ 32 - 1) tables
  pub arcs : All (λ table. All (λ (s : ClassShare). s.arc < length p.arcs) table) tables

-- stands for the share of a number that no share has
abbrev pub no_share : ClassShare
no_share = record { arc = 0; point = 0; v = 0; weights = [] }

-- the share with a number, counted from 0, in a table
abbrev pub share_at : List ClassShare → ℕ → ClassShare
share_at table n = slice_index_or table n no_share

-- the share with a number breaks the price rule, and all before it keep it
pub record BreaksRule (p : Problem) (table : List ClassShare) (share : ℕ) : Type 0 where
  pub exists : share < length table
  pub broken : KeepsRule p.scale (arc_at p (share_at table share).arc) (share_at table share) → ⊥
  pub before : All (λ (s : ClassShare). KeepsRule p.scale (arc_at p s.arc) s) (take share table)

-- the share exists and breaks the price rule, and all those before it, in its table and in the tables before, keep it
pub record IsFirstBroken (p : Problem) (tables : List (List ClassShare)) (fault : TableFault) : Type 0 where
  pub table : (1 ≤ fault.table) × (fault.table ≤ length tables)
  pub share : fault.share < length (table_at tables fault.table)
  pub broken : KeepsRule p.scale (arc_at p (share_at (table_at tables fault.table) fault.share).arc) (share_at (table_at tables fault.table) fault.share) → ⊥
  pub tables_before : AllKeepRule p (take (fault.table - 1) tables)
  pub shares_before : All (λ (s : ClassShare). KeepsRule p.scale (arc_at p s.arc) s) (take fault.share (table_at tables fault.table))
