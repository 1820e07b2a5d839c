-- The spans and the gifts beside the table of a price.
use Rattle.std.proofs.Common.{◌≡◌, ◌∙◌, ℕ, ◌-◌, ◌≤◌, Bool, true, false, List, [], ◌∷◌, length, inl, inr, refl, sym, subst, arith}
use Rattle.std.specs.Prelude.{All, None, Option, slice_index_or}
use Rattle.std.proofs.lemmas.Bool.{cases_lt}
use Rattle.std.proofs.lemmas.List.{get_or_past}
use Rattle.std.proofs.lemmas.List.Elements.{All-get_or}
use Rattle.fp_base_lists.proofs.Numbered.{AllZip-get_or}
use Rattle.fp_model.specs.Problem.{Problem}
use Rattle.fp_flatnet.specs.declared.window_tables.Window.{Window}
use Rattle.fp_flatnet.specs.Initial.{initial_points}
use Rattle.fp_flatnet.specs.Tables.{WindowTable, windows_in}
use Rattle.fp_prices.specs.declared.leaf_prices.Kind.{Kind}
use Rattle.fp_prices.specs.declared.leaf_prices.Kind.TheVariants.{Even, Linear, Table}
use Rattle.fp_prices_gifts.specs.declared.gifts.Gift.{Gift}
use Rattle.fp_prices_gifts.specs.GiftKinds.{gifts_beside, gifts_of_table}
use Rattle.fp_prices_spans.specs.SpanKinds.{spans_beside, spans_of_table}
use Rattle.fp_prices_spans.specs.Spans.{ClassSpan}
use Rattle.fp_certificate_lines.specs.Moments.{moments_of_table}
use Rattle.fp_certificate_rules.specs.Prices.{AreListedBeside, ArePaid, ArePaidBeside, ArePricesBeside}
use Rattle.fp_duals_leaves.specs.Prices.{ArePrices, PriceLists}
use Rattle.fp_duals_leaves.specs.SoundSpans.{AreSoundSpans}
use Rattle.fp_duals_leaves.proofs.PairedLists.{AllZip-length}
use Rattle.fp_duals_leaves.proofs.SoundSpans.{no_spans-sound}

-- a list of gifts stands beside each table
pub given-length : (p : Problem) (table : WindowTable) (x : PriceLists) → ArePrices p table x → length x.gifts ≡ length x.tables
given-length p table x are = AllZip-length (AreSoundSpans p table) x.spans x.gifts are.sound ∙ are.beside

-- the spans and the gifts beside a price's table are sound
pub beside-sound : (p : Problem) (table : WindowTable) (x : PriceLists) (kind : Kind) → ArePrices p table x → AreSoundSpans p table (spans_beside x.spans kind) (gifts_beside x.gifts kind)
beside-sound p table x Linear are = no_spans-sound p table
beside-sound p table x Even are = no_spans-sound p table
beside-sound p table x (Table id) are =
    elim (cases_lt (id - 1) (length x.spans)) [
      | inl there ↦ AllZip-get_or (AreSoundSpans p table) x.spans x.gifts (id - 1) [] [] are.sound there
      | inr past ↦ none-there past
    ]
  where
    none-there : length x.spans ≤ id - 1 → AreSoundSpans p table (spans_beside x.spans (Table id)) (gifts_beside x.gifts (Table id))
    none-there past =
        subst (λ (spans : List ClassSpan). AreSoundSpans p table spans (gifts_beside x.gifts (Table id))) (sym (get_or_past x.spans (id - 1) [] past))
        (subst (AreSoundSpans p table []) (sym (get_or_past x.gifts (id - 1) [] (omega (arith, past, AllZip-length (AreSoundSpans p table) x.spans x.gifts are.sound)))) (no_spans-sound p table))

module _ (p : Problem) (windows : ℕ → ℕ → Option Window) (first : ℕ → List ℕ) where
  -- spans and gifts that are paid are listed as they have to be beside a table by moments
  paid-listed : (spans : List ClassSpan) (gifts : List Gift) → ArePaidBeside p windows first spans gifts → AreListedBeside p spans gifts
  paid-listed spans [] are = are.list
  paid-listed spans (gift ∷ gifts) are = record { ordered = are.ordered; light = are.light; given = are.given }

  paid-prices : (by_moments : Bool) (spans : List ClassSpan) (gifts : List Gift) → ArePaidBeside p windows first spans gifts → ArePricesBeside by_moments p windows first spans gifts
  paid-prices false spans gifts are = are
  paid-prices true spans gifts are = paid-listed spans gifts are

-- so they pass the test of a certificate, whatever the table, and whichever tables are by moments
pub paid-each : (p : Problem) (table : WindowTable) (x : PriceLists) (moments : List Bool) → ArePrices p table x → ArePaid p (windows_in table) (initial_points p table.anchors) x.spans x.gifts moments
paid-each p table x moments are id =
    paid-prices p (windows_in table) (initial_points p table.anchors) (moments_of_table moments id) (spans_of_table x.spans id) (gifts_of_table x.gifts id) (beside-sound p table x (Table id) are).paid

-- what is empty for each table is empty beside a price's
empty-each : {X : Type 0} (lists : List (List X)) (i : ℕ) → All (λ (xs : List X). xs ≡ []) lists → slice_index_or lists i [] ≡ []
empty-each {X} lists i each =
    elim (cases_lt i (length lists)) [
      | inl there ↦ All-get_or (λ (xs : List X). xs ≡ []) lists i [] there each
      | inr past ↦ get_or_past lists i [] past
    ]

-- without a unit there are no spans
pub beside-none : (p : Problem) (table : WindowTable) (x : PriceLists) (kind : Kind) → ArePrices p table x → x.unit ≡ None → spans_beside x.spans kind ≡ []
beside-none p table x Linear are no_unit = refl
beside-none p table x Even are no_unit = refl
beside-none p table x (Table id) are no_unit = empty-each x.spans (id - 1) (are.without no_unit)

-- and no gifts
pub ungiven-none : (p : Problem) (table : WindowTable) (x : PriceLists) (kind : Kind) → ArePrices p table x → x.unit ≡ None → gifts_beside x.gifts kind ≡ []
ungiven-none p table x Linear are no_unit = refl
ungiven-none p table x Even are no_unit = refl
ungiven-none p table x (Table id) are no_unit = empty-each x.gifts (id - 1) (are.ungiven no_unit)
