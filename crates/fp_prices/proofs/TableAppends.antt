-- The value of a leaf stays when tables are appended, and when tables are cut that its kind doesn't name; and tables in order
-- stay so.
use Rattle.std.proofs.Common.{◌≡◌, ℕ, ◌-◌, Bool, List, [], ◌++◌, refl, sym, ap, subst, arith}
use Rattle.std.specs.Prelude.{Option, if◌then◌else◌}
use Rattle.std.specs.List.{AllByRecursion}
use Rattle.std.proofs.lemmas.List.{get_or_append_left, length-append}
use Rattle.std.proofs.lemmas.List.Elements.{All-append}
use Rattle.fp_base_lists.specs.Numbered.{AllZipFrom}
use Rattle.fp_base_lists.proofs.Elements.{AllByRecursion-append}
use Rattle.fp_model.specs.declared.parts.Leg.{Leg}
use Rattle.fp_model.specs.declared.parts.Shipment.{Shipment}
use Rattle.fp_model.specs.Costs.{all_legs, has_leg}
use Rattle.fp_model.specs.Problem.{Problem, arc_at}
use Rattle.fp_flatnet.specs.declared.window_tables.Window.{Window}
use Rattle.fp_tree.specs.declared.sides.Side.{Side}
use Rattle.fp_allowed.specs.Allowed.{is_allowed}
use Rattle.fp_prices.specs.declared.leaf_prices.Kind.{Kind}
use Rattle.fp_prices.specs.declared.leaf_prices.Kind.TheVariants.{Linear, Even, Table}
use Rattle.fp_prices.specs.Leaves.{IsLeafValue, IsLeastCost, leaf_price}
use Rattle.fp_prices.specs.Prices.{KeepsRule, share_for, table_at, table_price}
use Rattle.fp_prices.specs.Shares.{ClassShare}
use Rattle.fp_prices.specs.Tables.{AreTables, HasKind, IsAscendingTable}

-- more tables in order after tables in order
pub AreTables-append : (p : Problem) (tables more : List (List ClassShare)) → AreTables p tables → AreTables p more → AreTables p (tables ++ more)
AreTables-append p tables more are others = record {
  ascending = All-append IsAscendingTable tables more are.ascending others.ascending;
  rule = AllByRecursion-append (λ (table : List ClassShare). AllByRecursion (λ (share : ClassShare). KeepsRule p.scale (arc_at p share.arc) share) table) tables more are.rule others.rule;
}

-- a kind that tables have is one that more tables have
pub HasKind-append : (tables more : List (List ClassShare)) (kind : Kind) → HasKind tables kind → HasKind (tables ++ more) kind
HasKind-append tables more Linear has = tt
HasKind-append tables more Even has = tt
HasKind-append tables more (Table id) has = (has.0, omega (arith, has.1, length-append tables more))

-- the prices by a kind that tables have are the same by more tables
pub leaf_price-append : (p : Problem) (tables more : List (List ClassShare)) (allowed : ℕ → Leg → Bool) (kind : Kind) (chains : List (List Leg)) → HasKind tables kind →
    leaf_price p (tables ++ more) allowed kind chains ≡ leaf_price p tables allowed kind chains
leaf_price-append p tables more allowed Linear chains has = refl
leaf_price-append p tables more allowed Even chains has = refl
leaf_price-append p tables more allowed (Table id) chains has =
    let price : List ClassShare → ℕ → ℕ → Leg → ℕ = λ table k size c. if has_leg c (all_legs chains) then 0 else table_price p.scale (arc_at p c.arc) (share_for table c) k size in
    let same : table_at (tables ++ more) id ≡ table_at tables id = get_or_append_left tables more [] (id - 1) (omega (arith, has.0, has.1)) in
    ap price same

-- leaves whose prices are the same have the same values
value-priced : (p : Problem) (windows : ℕ → ℕ → Option Window) (points : ℕ → List ℕ) (sides : List Side) (tables others : List (List ClassShare)) (kind : Kind) (forced : Bool) (value : ℕ) →
    ((chains : List (List Leg)) → leaf_price p tables (is_allowed p windows points sides) kind chains ≡ leaf_price p others (is_allowed p windows points sides) kind chains) →
    IsLeafValue p windows points sides tables kind forced value → IsLeafValue p windows points sides others kind forced value
value-priced p windows points sides tables others kind forced value same leaf = record {
  chains = leaf.chains;
  costs = leaf.costs;
  are_chains = leaf.are_chains;
  are_least = subst (λ (price : ℕ → ℕ → Leg → ℕ). AllZipFrom (λ k (s : Shipment) n. IsLeastCost p points (is_allowed p windows points sides k) s (price k s.size) n) 0 p.shipments leaf.costs) (same leaf.chains) leaf.are_least;
  value_is = leaf.value_is;
}

module _ (p : Problem) (windows : ℕ → ℕ → Option Window) (points : ℕ → List ℕ) (sides : List Side) (tables : List (List ClassShare)) (kind : Kind) (forced : Bool) (value : ℕ) (has : HasKind tables kind) where
  -- the value of a leaf stays when tables are appended
  pub IsLeafValue-append : (more : List (List ClassShare)) → IsLeafValue p windows points sides tables kind forced value → IsLeafValue p windows points sides (tables ++ more) kind forced value
  IsLeafValue-append more leaf =
      value-priced p windows points sides tables (tables ++ more) kind forced value (λ chains. sym (leaf_price-append p tables more (is_allowed p windows points sides) kind chains has)) leaf

  -- and when those are cut away again that its kind doesn't name
  pub IsLeafValue-cut : (more : List (List ClassShare)) → IsLeafValue p windows points sides (tables ++ more) kind forced value → IsLeafValue p windows points sides tables kind forced value
  IsLeafValue-cut more leaf =
      value-priced p windows points sides (tables ++ more) tables kind forced value (λ chains. leaf_price-append p tables more (is_allowed p windows points sides) kind chains has) leaf
