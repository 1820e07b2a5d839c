-- The prices of a search after a leaf's price was improved by tables.
use Rattle.std.proofs.Common.{◌≡◌, ℕ, ◌-◌, ◌<◌, ◌≤◌, ◌⊎◌, ⊎_elim, List, [], ◌∷◌, ◌++◌, length, take, refl, sym, ap, ◌∙◌, arith, append-nil}
use Rattle.std.specs.Prelude.{slice_index_or}
use Rattle.std.proofs.Math.Seq.{get_or-append_seam, take-append_seam}
use Rattle.std.proofs.lemmas.List.{length-append}
use Rattle.fp_model.specs.declared.parts.Leg.{Leg}
use Rattle.fp_model.specs.Problem.{Problem}
use Rattle.fp_flatnet.specs.Tables.{WindowTable, windows_in}
use Rattle.fp_tree.specs.declared.sides.Side.{Side}
use Rattle.fp_prices.specs.declared.leaf_prices.Kind.{Kind}
use Rattle.fp_prices.specs.declared.leaf_prices.Kind.TheVariants.{Even, Linear}
use Rattle.fp_prices.specs.declared.leaf_prices.LeafPrice.{LeafPrice}
use Rattle.fp_prices.specs.Shares.{ClassShare}
use Rattle.fp_prices_gifts.specs.declared.gifts.Gift.{Gift}
use Rattle.fp_prices_gifts.specs.GiftKinds.{gifts_beside}
use Rattle.fp_prices_spans.specs.SpanKinds.{spans_beside}
use Rattle.fp_prices_spans.specs.Spans.{ClassSpan}
use Rattle.fp_duals.specs.declared.improvements.Improved.{Improved}
use Rattle.fp_duals.specs.declared.improvements.Improved.TheVariants as improved
use Rattle.fp_duals.specs.Improvements.{AddsTable, IsImproved, IsPriced}
use Rattle.fp_duals.specs.PriceTables.{ArePriceTables}
use Rattle.fp_duals.specs.Starts.{IsStartKind}
use Rattle.fp_duals_leaves.specs.Prices.{ArePrices, HaveGrown, PriceLists}
use Rattle.fp_duals_leaves.specs.Pricing.{IsImprovedByTables, IsPriceFound}
use Rattle.fp_duals_leaves.proofs.GrownPrices.{ArePrices-table, prices-same}
use Rattle.fp_duals_leaves.proofs.SpansBeside.{given-length}
use Rattle.fp_duals_leaves.proofs.Worths.{found-by_tables}

module _ (p : Problem) (table : WindowTable) (points : ℕ → List ℕ) (sides : List Side) where
  module _ (before after : PriceLists) (are : ArePrices p table before) (inherited : Kind) (plain : spans_beside before.spans inherited ≡ []) (ungiven : gifts_beside before.gifts inherited ≡ []) (round : ℕ) (price : LeafPrice) (value : ℕ) (walks : List (List Leg))
      (is : IsPriced p (windows_in table) points sides before.tables after.tables inherited round price value walks) where
    -- nothing stands beside a kind with which improving starts
    nothing-beside : (kind : Kind) → IsStartKind inherited kind → (spans_beside before.spans kind ≡ []) × (gifts_beside before.gifts kind ≡ [])
    nothing-beside kind start =
        ⊎_elim (λ (e : kind ≡ Linear). (ap (spans_beside before.spans) e, ap (gifts_beside before.gifts) e))
        (λ (others : (kind ≡ Even) ⊎ (kind ≡ inherited)).
        ⊎_elim (λ (e : kind ≡ Even). (ap (spans_beside before.spans) e, ap (gifts_beside before.gifts) e))
        (λ (e : kind ≡ inherited). (ap (spans_beside before.spans) e ∙ plain, ap (gifts_beside before.gifts) e ∙ ungiven)) others)
        start

    -- where no table was added, the price's is one of these
    start-kind : length after.tables ≤ length before.tables → IsStartKind inherited price.kind
    start-kind few =
        ⊎_elim (λ (same : (after.tables ≡ before.tables) × IsStartKind inherited price.kind). same.1)
        (λ (adds : AddsTable p (windows_in table) points sides before.tables after.tables inherited price.kind value). absurd (omega (arith, few, ap length adds.last, length-append before.tables (adds.table ∷ []))))
        is.added

    pub found-same : after.spans ≡ before.spans → after.gifts ≡ before.gifts → length after.tables ≤ length before.tables → IsPriceFound p (windows_in table) points sides after round (record { price = price; value = value }) walks
    found-same stay given few =
        let none : (spans_beside before.spans price.kind ≡ []) × (gifts_beside before.gifts price.kind ≡ []) = nothing-beside price.kind (start-kind few) in
        found-by_tables p table points sides before after inherited round price value walks
        (ap (λ (ss : List (List ClassSpan)). spans_beside ss price.kind) stay ∙ none.0)
        (ap (λ (gs : List (List Gift)). gifts_beside gs price.kind) given ∙ none.1)
        is

    -- where one was, nothing stands beside that
    last-empty : {X : Type 0} (lists all : List (List X)) (i : ℕ) → i ≡ length lists → all ≡ lists ++ ([] ∷ []) → slice_index_or all i [] ≡ []
    last-empty {X} lists all i place more =
        ap (λ (xs : List (List X)). slice_index_or xs i []) more ∙ ap (λ (k : ℕ). slice_index_or (lists ++ ([] ∷ [])) k []) place ∙ get_or-append_seam lists [] [] []

    pub found-added : after.spans ≡ before.spans ++ ([] ∷ []) → after.gifts ≡ before.gifts ++ ([] ∷ []) → length before.tables < length after.tables →
        IsPriceFound p (windows_in table) points sides after round (record { price = price; value = value }) walks
    found-added more given longer =
        ⊎_elim
        (λ (same : (after.tables ≡ before.tables) × IsStartKind inherited price.kind). absurd (omega (arith, longer, ap length same.0)))
        (λ (adds : AddsTable p (windows_in table) points sides before.tables after.tables inherited price.kind value).
        let place : length after.tables - 1 ≡ length before.tables = omega (arith, ap length adds.last, length-append before.tables (adds.table ∷ [])) in
        found-by_tables p table points sides before after inherited round price value walks
        (ap (spans_beside after.spans) adds.named ∙ last-empty before.spans after.spans (length after.tables - 1) (place ∙ sym are.beside) more)
        (ap (gifts_beside after.gifts) adds.named ∙ last-empty before.gifts after.gifts (length after.tables - 1) (place ∙ sym (given-length p table before are)) given)
        is)
        is.added

  module _ (old : PriceLists) (are : ArePrices p table old) (tables : List (List ClassShare)) (inherited : Kind) (plain : spans_beside old.spans inherited ≡ []) (ungiven : gifts_beside old.gifts inherited ≡ []) (round : ℕ) (r : Improved)
      (is : IsImproved p (windows_in table) points sides old.tables tables inherited round r) where
    -- the prices where no table was added, and where one was, with nothing beside it
    abbrev same_lists : PriceLists
    same_lists = record { tables = tables; spans = old.spans; gifts = old.gifts; unit = old.unit }

    abbrev more_lists : PriceLists
    more_lists = record { tables = tables; spans = old.spans ++ ([] ∷ []); gifts = old.gifts ++ ([] ∷ []); unit = old.unit }

    -- at most one table was added
    pub record HasFront : Type 0 where
      pub more : List (List ClassShare)
      pub front : tables ≡ old.tables ++ more
      pub few : length more ≤ 1

    front-of : (o : Improved) → IsImproved p (windows_in table) points sides old.tables tables inherited round o → HasFront
    front-of (improved.Empty shipment) so = record { more = []; front = so.1 ∙ sym (append-nil old.tables); few = omega arith }
    front-of (improved.Priced price value walks) so =
        ⊎_elim
        (λ (same : (tables ≡ old.tables) × IsStartKind inherited price.kind). let h : HasFront = record { more = []; front = same.0 ∙ sym (append-nil old.tables); few = omega arith } in h)
        (λ (adds : AddsTable p (windows_in table) points sides old.tables tables inherited price.kind value). let h : HasFront = record { more = adds.table ∷ []; front = adds.last; few = omega arith } in h)
        so.added

    front : HasFront
    front = front-of r is

    -- cut to as many as there were, they are those
    pub cut-front : (cut : List (List ClassShare)) → cut ≡ take (length old.tables) tables → cut ≡ old.tables
    cut-front cut made = made ∙ ap (take (length old.tables)) front.front ∙ take-append_seam old.tables front.more

    pub grown-same : ArePriceTables p tables → length tables ≤ length old.spans → HaveGrown p table old same_lists
    grown-same in_order few = record {
      tables = front.more;
      spans = [];
      gifts = [];
      is = prices-same tables (old.tables ++ front.more) old.spans (old.spans ++ []) old.gifts (old.gifts ++ []) old.unit front.front (sym (append-nil old.spans)) (sym (append-nil old.gifts));
      prices = record {
        tables = in_order;
        sound = are.sound;
        beside = omega (arith, few, are.beside, ap length front.front, length-append old.tables front.more);
        unit = are.unit;
        without = are.without;
        ungiven = are.ungiven;
      };
    }

    pub grown-added : ArePriceTables p tables → length old.spans < length tables → HaveGrown p table old more_lists
    grown-added in_order longer = record {
      tables = front.more;
      spans = [] ∷ [];
      gifts = [] ∷ [];
      is = prices-same tables (old.tables ++ front.more) (old.spans ++ ([] ∷ [])) (old.spans ++ ([] ∷ [])) (old.gifts ++ ([] ∷ [])) (old.gifts ++ ([] ∷ [])) old.unit front.front refl refl;
      prices = ArePrices-table p table old tables are in_order (omega (arith, longer, are.beside, front.few, ap length front.front, length-append old.tables front.more));
    }

    pub improved-same : length tables ≤ length old.spans → IsImprovedByTables p (windows_in table) points sides same_lists round r
    improved-same few = of r is
      where
        of : (o : Improved) → IsImproved p (windows_in table) points sides old.tables tables inherited round o → IsImprovedByTables p (windows_in table) points sides same_lists round o
        of (improved.Empty shipment) so = so.0
        of (improved.Priced price value walks) so = found-same old same_lists are inherited plain ungiven round price value walks.items so refl refl (omega (arith, few, are.beside))

    pub improved-added : length old.spans < length tables → IsImprovedByTables p (windows_in table) points sides more_lists round r
    improved-added longer = of r is
      where
        of : (o : Improved) → IsImproved p (windows_in table) points sides old.tables tables inherited round o → IsImprovedByTables p (windows_in table) points sides more_lists round o
        of (improved.Empty shipment) so = so.0
        of (improved.Priced price value walks) so = found-added old more_lists are inherited plain ungiven round price value walks.items so refl refl (omega (arith, longer, are.beside))
