-- The lines of tables, and of the spans and the gifts beside them, when they are written.
use Rattle.std.proofs.Common.{◌≡◌, ℕ, ◌+◌, ◌-◌, ◌≤◌, Bool, List, [], ◌∷◌, length, drop, refl, ap, arith}
use Rattle.std.specs.Prelude.{map, sum_by}
use Rattle.std.specs.List.{flat_map}
use Rattle.std.proofs.lemmas.List.{drop_all, length-append, length-map}
use Rattle.std.proofs.lemmas.List.Concat.{flat_map-cons}
use Rattle.std.proofs.lemmas.List.Sums.{sum_by-cons, sum_by-drop_more}
use Rattle.fp_model.specs.Problem.{Problem}
use Rattle.fp_prices.specs.Shares.{ClassShare}
use Rattle.fp_prices_gifts.specs.declared.gifts.Gift.{Gift}
use Rattle.fp_prices_gifts.specs.GiftKinds.{gifts_of_table}
use Rattle.fp_prices_spans.specs.SpanKinds.{spans_of_table}
use Rattle.fp_prices_spans.specs.Spans.{ClassSpan}
use Rattle.fp_certificate_lines.specs.Moments.{moments_of_table}
use Rattle.fp_certificate_lines.specs.Rows.{beside_rows, gift_fields, group_fields, share_rows, span_rows, table_rows, tables_rows, weight_fields}
use Rattle.fp_duals.specs.PriceLines.{line_count, line_total}
use Rattle.fp_duals_leaves.specs.PriceLines.{PriceLinesAreWritten, gift_lines, span_lines}

module _ (p : Problem) where
  -- shares and their weights
  shares-long : (table : List ClassShare) → length (flat_map (share_rows p) table) ≡ sum_by (λ (s : ClassShare). 1 + length s.weights) table
  shares-long [] = refl
  shares-long (s ∷ table) =
      omega (
        arith,
        ap length (flat_map-cons (share_rows p) s table),
        length-append (share_rows p s) (flat_map (share_rows p) table),
        length-map s.weights (weight_fields p),
        shares-long table,
        sum_by-cons (λ (t : ClassShare). 1 + length t.weights) s table,
      )

  -- spans, their weights and their groups
  spans-long : (spans : List ClassSpan) → length (flat_map (span_rows p) spans) ≡ span_lines spans
  spans-long [] = refl
  spans-long (s ∷ spans) =
      omega (
        arith,
        ap length (flat_map-cons (span_rows p) s spans),
        length-append (span_rows p s) (flat_map (span_rows p) spans),
        length-append (map (weight_fields p) s.weights) (map group_fields s.groups),
        length-map s.weights (weight_fields p),
        length-map s.groups group_fields,
        spans-long spans,
        sum_by-cons (λ (t : ClassSpan). 1 + length t.weights + length t.groups) s spans,
      )

  -- spans and gifts beside a table
  beside-long : (spans : List ClassSpan) (gifts : List Gift) → length (beside_rows p spans gifts) ≡ span_lines spans + gift_lines gifts
  beside-long spans gifts = omega (arith, length-append (flat_map (span_rows p) spans) (map (gift_fields p) gifts), spans-long spans, length-map gifts (gift_fields p))

  -- a table with what stands beside it
  table-long : (id : ℕ) (by_moments : Bool) (table : List ClassShare) (spans : List ClassSpan) (gifts : List Gift) → length (table_rows p id by_moments table spans gifts) ≡ line_count table + span_lines spans + gift_lines gifts
  table-long id by_moments table spans gifts = omega (arith, length-append (flat_map (share_rows p) table) (beside_rows p spans gifts), shares-long table, beside-long spans gifts)

  -- tables from a number on, with the spans and the gifts that are left for them
  tables-long : (spans : List (List ClassSpan)) (gifts : List (List Gift)) (moments : List Bool) (id : ℕ) (tables : List (List ClassShare)) → 1 ≤ id → id - 1 + length tables ≡ length spans →
      id - 1 + length tables ≡ length gifts →
      length (tables_rows p spans gifts moments id tables) ≡ line_total tables + sum_by span_lines (drop (id - 1) spans) + sum_by gift_lines (drop (id - 1) gifts)
  tables-long spans gifts moments id [] some beside given =
      omega (
        arith,
        ap (sum_by span_lines) (drop_all (id - 1) spans (omega (arith, beside))),
        ap (sum_by gift_lines) (drop_all (id - 1) gifts (omega (arith, given))),
      )
  tables-long spans gifts moments id (table ∷ tables) some beside given =
      let next : id - 1 + 1 ≡ id + 1 - 1 = omega (arith, some) in
      omega (
        arith,
        length-append (table_rows p id (moments_of_table moments id) table (spans_of_table spans id) (gifts_of_table gifts id)) (tables_rows p spans gifts moments (id + 1) tables),
        table-long id (moments_of_table moments id) table (spans_of_table spans id) (gifts_of_table gifts id),
        tables-long spans gifts moments (id + 1) tables (omega arith) (omega (arith, some, beside)) (omega (arith, some, given)),
        sum_by-cons line_count table tables,
        sum_by-drop_more span_lines spans (id - 1) [] (omega (arith, beside)),
        ap (λ (n : ℕ). sum_by span_lines (drop n spans)) next,
        sum_by-drop_more gift_lines gifts (id - 1) [] (omega (arith, given)),
        ap (λ (n : ℕ). sum_by gift_lines (drop n gifts)) next,
      )

pub PriceLinesAreWritten_hold : PriceLinesAreWritten
PriceLinesAreWritten_hold p c beside given =
    let some : 1 ≤ 1 = omega arith in tables-long p c.spans c.gifts c.moments 1 c.tables some (omega (arith, beside)) (omega (arith, given))
