-- The value of a leaf by a kind of prices, with the spans and the gifts beside its table, stays when tables, spans and gifts are appended.
use Rattle.std.proofs.Common.{◌≡◌, ℕ, ◌-◌, Bool, List, [], ◌++◌, length, refl, sym, subst, arith}
use Rattle.std.specs.Prelude.{Option}
use Rattle.std.proofs.lemmas.List.{get_or_append_left}
use Rattle.fp_model.specs.Problem.{Problem}
use Rattle.fp_flatnet.specs.declared.window_tables.Window.{Window}
use Rattle.fp_tree.specs.declared.sides.Side.{Side}
use Rattle.fp_prices.specs.declared.leaf_prices.Kind.{Kind}
use Rattle.fp_prices.specs.declared.leaf_prices.Kind.TheVariants.{Linear, Even, Table}
use Rattle.fp_prices.specs.Shares.{ClassShare}
use Rattle.fp_prices.specs.Tables.{HasKind}
use Rattle.fp_prices_spans.specs.SpanKinds.{spans_beside}
use Rattle.fp_prices_spans.specs.SpanLeaves.{IsSpanLeafValue}
use Rattle.fp_prices_spans.specs.Spans.{ClassSpan}
use Rattle.fp_prices_spans.proofs.SpanAppends.{IsPricedValue-tables, beside-append}
use Rattle.fp_prices_gifts.specs.declared.gifts.Gift.{Gift}
use Rattle.fp_prices_gifts.specs.GiftKinds.{IsPricedValue, gifts_beside}
use Rattle.fp_prices_gifts.specs.GiftLeaves.{IsGiftLeafValue}

-- the gifts beside the tables that there are stay when others are appended
pub gifts_beside-append : (tables : List (List ClassShare)) (gifts more : List (List Gift)) (kind : Kind) → length gifts ≡ length tables → HasKind tables kind → gifts_beside (gifts ++ more) kind ≡ gifts_beside gifts kind
gifts_beside-append tables gifts more Linear same has = refl
gifts_beside-append tables gifts more Even same has = refl
gifts_beside-append tables gifts more (Table id) same has = get_or_append_left gifts more [] (id - 1) (omega (arith, same, has.0, has.1))

-- so does the value by them
pub gift_values-append : (p : Problem) (windows : ℕ → ℕ → Option Window) (points : ℕ → List ℕ) (sides : List Side) (tables more : List (List ClassShare)) (spans more_spans : List (List ClassSpan)) (gifts more_gifts : List (List Gift)) (kind : Kind) (forced : Bool) (value : ℕ) →
    length spans ≡ length tables → length gifts ≡ length tables → HasKind tables kind → IsPricedValue p windows points sides tables spans gifts kind forced value →
    IsPricedValue p windows points sides (tables ++ more) (spans ++ more_spans) (gifts ++ more_gifts) kind forced value
gift_values-append p windows points sides tables more spans more_spans gifts more_gifts kind forced value same given has is =
    subst (λ (gs : List Gift). IsGiftLeafValue p windows points sides (tables ++ more) (spans_beside (spans ++ more_spans) kind) gs kind forced value) (sym (gifts_beside-append tables gifts more_gifts kind given has))
    (record {
      before = is.before;
      plain = is.plain;
      by_spans = subst (λ (ss : List ClassSpan). IsSpanLeafValue p windows points sides (tables ++ more) ss kind forced is.before) (sym (beside-append tables spans more_spans kind same has))
          (IsPricedValue-tables p windows points sides tables kind forced is.before has more spans is.by_spans);
      given = is.given;
    })
