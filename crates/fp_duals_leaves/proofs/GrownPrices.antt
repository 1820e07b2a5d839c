-- Prices that have grown, and those that a search begins with.
use Rattle.std.proofs.Common.{◌≡◌, ◌≢◌, ℕ, ◌+◌, ◌≤◌, List, [], ◌∷◌, ◌++◌, length, take, refl, sym, ap, ◌∙◌, subst, arith, rules, append-nil}
use Rattle.std.specs.Prelude.{All, IfSome, Option, None, Some}
use Rattle.std.proofs.lemmas.List.{length-append}
use Rattle.std.proofs.Math.Seq.{take-append_seam}
use Rattle.std.proofs.lemmas.List.Elements.{All-append, All-cons, All-nil}
use Rattle.fp_model.specs.Problem.{Problem}
use Rattle.fp_flatnet.specs.Tables.{WindowTable}
use Rattle.fp_prices.specs.Shares.{ClassShare}
use Rattle.fp_prices.specs.Tables.{IsAscendingTable}
use Rattle.fp_prices_gifts.specs.declared.gifts.Gift.{Gift}
use Rattle.fp_prices_spans.specs.Spans.{ClassSpan}
use Rattle.fp_duals.specs.PriceTables.{ArePriceTables, IsShareOf}
use Rattle.fp_duals.proofs.PriceTables.{ArePriceTables-append}
use Rattle.fp_duals_leaves.specs.SoundSpans.{AreSoundSpans}
use Rattle.fp_duals_leaves.proofs.PairedLists.{AllZip-append}
use Rattle.fp_duals_leaves.proofs.SoundSpans.{no_spans-sound}
use Rattle.fp_duals_leaves.proofs.SpansBeside.{given-length}
use Rattle.fp_duals_leaves.specs.Prices.{ArePrices, HaveGrown, IsUnitOf, PriceLists, first_prices, with_more}

-- lists of prices whose parts are the same are the same
pub prices-same : (tables ts : List (List ClassShare)) (spans ss : List (List ClassSpan)) (gifts gs : List (List Gift)) (unit : Option ℕ) → tables ≡ ts → spans ≡ ss → gifts ≡ gs →
    ◌≡◌ {A = PriceLists} (record { tables = tables; spans = spans; gifts = gifts; unit = unit }) (record { tables = ts; spans = ss; gifts = gs; unit = unit })
prices-same tables ts spans ss gifts gs unit same_tables same_spans same_gifts =
    ap (λ (list : List (List ClassShare)). record { tables = list; spans = spans; gifts = gifts; unit = unit }) same_tables
    ∙ ap (λ (list : List (List ClassSpan)). record { tables = ts; spans = list; gifts = gifts; unit = unit }) same_spans
    ∙ ap (λ (list : List (List Gift)). record { tables = ts; spans = ss; gifts = list; unit = unit }) same_gifts

-- prices that stayed
pub HaveGrown-same : (p : Problem) (table : WindowTable) (before after : PriceLists) → after ≡ before → ArePrices p table before → HaveGrown p table before after
HaveGrown-same p table before after same prices = record {
  tables = [];
  spans = [];
  gifts = [];
  is = same
      ∙ sym (prices-same (before.tables ++ []) before.tables (before.spans ++ []) before.spans (before.gifts ++ []) before.gifts before.unit (append-nil before.tables) (append-nil before.spans) (append-nil before.gifts));
  prices = subst (ArePrices p table) (sym same) prices;
}

-- prices have grown to themselves
pub HaveGrown_none : (p : Problem) (table : WindowTable) (x : PriceLists) → ArePrices p table x → HaveGrown p table x x
HaveGrown_none p table x are = HaveGrown-same p table x x refl are

-- prices that grew and are cut to what was there
pub HaveGrown-cut : (p : Problem) (table : WindowTable) (before after : PriceLists) (n : ℕ) → ArePrices p table before → HaveGrown p table before after → n ≡ length before.tables → first_prices n after ≡ before
HaveGrown-cut p table before after n are grown is =
    let tables : take n (before.tables ++ grown.tables) ≡ before.tables =
    ap (λ (k : ℕ). take k (before.tables ++ grown.tables)) is ∙ take-append_seam before.tables grown.tables in
    let spans : take n (before.spans ++ grown.spans) ≡ before.spans =
    ap (λ (k : ℕ). take k (before.spans ++ grown.spans)) (is ∙ sym are.beside) ∙ take-append_seam before.spans grown.spans in
    let gifts : take n (before.gifts ++ grown.gifts) ≡ before.gifts =
    ap (λ (k : ℕ). take k (before.gifts ++ grown.gifts)) (is ∙ sym (given-length p table before are)) ∙ take-append_seam before.gifts grown.gifts in
    ap (first_prices n) grown.is
    ∙ prices-same (take n (before.tables ++ grown.tables)) before.tables (take n (before.spans ++ grown.spans)) before.spans (take n (before.gifts ++ grown.gifts)) before.gifts before.unit tables spans gifts

-- they have no fewer tables
pub HaveGrown-long : (p : Problem) (table : WindowTable) (before after : PriceLists) → HaveGrown p table before after → length before.tables ≤ length after.tables
HaveGrown-long p table before after grown =
    omega (arith, length-append before.tables grown.tables, ap (λ (x : PriceLists). length x.tables) grown.is)

-- one table without shares more, with sound spans and gifts beside it, where spans are sought
pub HaveGrown-spans : (p : Problem) (table : WindowTable) (before after : PriceLists) (spans : List ClassSpan) (gifts : List Gift) → ArePrices p table before → before.unit ≢ None → AreSoundSpans p table spans gifts →
    after ≡ with_more before ([] ∷ []) (spans ∷ []) (gifts ∷ []) → HaveGrown p table before after
HaveGrown-spans p table before after spans gifts are sought sound is = record {
  tables = [] ∷ [];
  spans = spans ∷ [];
  gifts = gifts ∷ [];
  is = is;
  prices = subst (ArePrices p table) (sym is) (record {
    tables = ArePriceTables-append p before.tables ([] ∷ []) are.tables (record { in_order = record { ascending = All-cons IsAscendingTable [] [] (record { shares = search rules; weights = search rules }) (All-nil IsAscendingTable); rule = (tt, tt) }; of_instance = All-cons (All (IsShareOf p)) [] [] (All-nil (IsShareOf p)) (All-nil (All (IsShareOf p))) });
    sound = AllZip-append (AreSoundSpans p table) before.spans before.gifts (spans ∷ []) (gifts ∷ []) are.sound (sound, tt);
    beside = omega (arith, are.beside, length-append before.spans (spans ∷ []), length-append before.tables ([] ∷ []));
    unit = are.unit;
    without = λ none. absurd (sought none);
    ungiven = λ none. absurd (sought none);
  });
}

-- lists of which all are empty, and one more
one-empty : {X : Type 0} (lists : List (List X)) → All (λ (xs : List X). xs ≡ []) lists → All (λ (xs : List X). xs ≡ []) (lists ++ ([] ∷ []))
one-empty {X} lists all = All-append (λ (xs : List X). xs ≡ []) lists ([] ∷ []) all (All-cons (λ (xs : List X). xs ≡ []) [] [] refl (All-nil (λ (xs : List X). xs ≡ [])))

-- prices with one table more, with neither spans nor gifts beside it
pub ArePrices-table : (p : Problem) (table : WindowTable) (before : PriceLists) (tables : List (List ClassShare)) → ArePrices p table before → ArePriceTables p tables → length tables ≡ length before.spans + 1 →
    ArePrices p table (record { tables = tables; spans = before.spans ++ ([] ∷ []); gifts = before.gifts ++ ([] ∷ []); unit = before.unit })
ArePrices-table p table before tables are in_order long = record {
  tables = in_order;
  sound = AllZip-append (AreSoundSpans p table) before.spans before.gifts ([] ∷ []) ([] ∷ []) are.sound (no_spans-sound p table, tt);
  beside = omega (arith, long, length-append before.spans ([] ∷ []));
  unit = are.unit;
  without = λ none. one-empty before.spans (are.without none);
  ungiven = λ none. one-empty before.gifts (are.ungiven none);
}

-- so they have grown
pub HaveGrown-table : (p : Problem) (table : WindowTable) (before after : PriceLists) (shares : List ClassShare) → ArePrices p table before → ArePriceTables p after.tables → after ≡ with_more before (shares ∷ []) ([] ∷ []) ([] ∷ []) →
    HaveGrown p table before after
HaveGrown-table p table before after shares are in_order is = record {
  tables = shares ∷ [];
  spans = [] ∷ [];
  gifts = [] ∷ [];
  is = is;
  prices = subst (ArePrices p table) (sym is)
      (ArePrices-table p table before (before.tables ++ (shares ∷ [])) are (subst (λ (x : PriceLists). ArePriceTables p x.tables) is in_order)
      (omega (arith, are.beside, length-append before.tables (shares ∷ []))));
}

-- the unit stays
pub unit-grown : (p : Problem) (table : WindowTable) (before after : PriceLists) → HaveGrown p table before after → after.unit ≡ before.unit
unit-grown p table before after grown = ap (λ (x : PriceLists). x.unit) grown.is

-- a unit is at least 1
pub unit-some : (p : Problem) (table : WindowTable) (x : PriceLists) → ArePrices p table x → IfSome x.unit (λ u. 1 ≤ u)
unit-some p table x are = by_unit x.unit are.unit
  where
    by_unit : (o : Option ℕ) → IfSome o (IsUnitOf p) → IfSome o (λ u. 1 ≤ u)
    by_unit None is = tt
    by_unit (Some unit) is = is.range.least
