-- The value of a leaf by a kind of prices, with the spans beside its table, stays when tables and spans are appended.
use Rattle.std.proofs.Common.{◌≡◌, ℕ, ◌-◌, Bool, List, [], ◌++◌, length, refl, sym, ap, subst, arith}
use Rattle.std.specs.Prelude.{Option, if◌then◌else◌}
use Rattle.std.proofs.lemmas.List.{get_or_append_left}
use Rattle.fp_base_lists.specs.Numbered.{AllZipFrom}
use Rattle.fp_model.specs.declared.parts.Leg.{Leg}
use Rattle.fp_model.specs.declared.parts.Shipment.{Shipment}
use Rattle.fp_model.specs.Costs.{all_legs, has_leg}
use Rattle.fp_model.specs.Problem.{Problem, arc_at}
use Rattle.fp_flatnet.specs.declared.window_tables.Window.{Window}
use Rattle.fp_tree.specs.declared.sides.Side.{Side}
use Rattle.fp_allowed.specs.Allowed.{is_allowed}
use Rattle.fp_prices.specs.declared.leaf_prices.Kind.{Kind}
use Rattle.fp_prices.specs.declared.leaf_prices.Kind.TheVariants.{Linear, Even, Table}
use Rattle.fp_prices.specs.Prices.{share_for, table_at, table_price}
use Rattle.fp_prices.specs.Shares.{ClassShare}
use Rattle.fp_prices.specs.Tables.{HasKind}
use Rattle.fp_prices_spans.specs.SpanKinds.{IsPricedValue, spans_beside}
use Rattle.fp_prices_spans.specs.SpanLeaves.{IsSpanLeafValue, leaf_heads}
use Rattle.fp_prices_spans.specs.SpanPrices.{is_held, leaf_span_price, span_price}
use Rattle.fp_prices_spans.specs.Spans.{ClassSpan}
use Rattle.fp_prices_spans.specs.Ways.{IsLeastCostVia, leaf_ways}

-- the prices by a kind that tables have, and spans, are the same by more tables
leaf_span_price-append : (p : Problem) (tables more : List (List ClassShare)) (spans : List ClassSpan) (allowed : ℕ → Leg → Bool) (kind : Kind) (chains : List (List Leg)) → HasKind tables kind →
    leaf_span_price p (tables ++ more) spans allowed kind chains ≡ leaf_span_price p tables spans allowed kind chains
leaf_span_price-append p tables more spans allowed Linear chains has = refl
leaf_span_price-append p tables more spans allowed Even chains has = refl
leaf_span_price-append p tables more spans allowed (Table id) chains has =
    let price : List ClassShare → ℕ → ℕ → Leg → ℕ =
    λ table k size c. if has_leg c (all_legs chains) then 0 else (if is_held spans c then span_price spans k c else table_price p.scale (arc_at p c.arc) (share_for table c) k size) in
    let same : table_at (tables ++ more) id ≡ table_at tables id = get_or_append_left tables more [] (id - 1) (omega (arith, has.0, has.1)) in
    ap price same

module _ (p : Problem) (windows : ℕ → ℕ → Option Window) (points : ℕ → List ℕ) (sides : List Side) (tables : List (List ClassShare)) (kind : Kind) (forced : Bool) (value : ℕ) (has : HasKind tables kind) where
  -- the value stays when tables are appended
  span_value-append : (more : List (List ClassShare)) (spans : List ClassSpan) → IsSpanLeafValue p windows points sides tables spans kind forced value → IsSpanLeafValue p windows points sides (tables ++ more) spans kind forced value
  span_value-append more spans leaf = record {
    chains = leaf.chains;
    costs = leaf.costs;
    charges = leaf.charges;
    are_chains = leaf.are_chains;
    are_least = subst (λ (price : ℕ → ℕ → Leg → ℕ). AllZipFrom (λ k (s : Shipment) n. IsLeastCostVia p (leaf_heads p windows points spans k) (leaf_ways p sides spans k) (is_allowed p windows points sides k) s (price k s.size) n) 0 p.shipments leaf.costs)
        (sym (leaf_span_price-append p tables more spans (is_allowed p windows points sides) kind leaf.chains has)) leaf.are_least;
    are_charges = leaf.are_charges;
    value_is = leaf.value_is;
  }

  pub IsPricedValue-tables : (more : List (List ClassShare)) (spans : List (List ClassSpan)) → IsPricedValue p windows points sides tables spans kind forced value → IsPricedValue p windows points sides (tables ++ more) spans kind forced value
  IsPricedValue-tables more spans leaf = span_value-append more (spans_beside spans kind) leaf

-- the spans beside the tables that there are stay when others are appended
pub beside-append : (tables : List (List ClassShare)) (spans more : List (List ClassSpan)) (kind : Kind) → length spans ≡ length tables → HasKind tables kind → spans_beside (spans ++ more) kind ≡ spans_beside spans kind
beside-append tables spans more Linear same has = refl
beside-append tables spans more Even same has = refl
beside-append tables spans more (Table id) same has = get_or_append_left spans more [] (id - 1) (omega (arith, same, has.0, has.1))
