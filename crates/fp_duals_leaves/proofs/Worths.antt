-- What leaves are worth by tables, and by spans and gifts.
use Rattle.std.proofs.Common.{◌≡◌, ℕ, ◌+◌, ◌-◌, ◌<◌, ◌≤◌, ⊎_elim, inl, inr, Bool, false, List, [], ◌∷◌, ◌++◌, length, refl, sym, ap, ◌∙◌, subst, arith}
use Rattle.std.specs.Prelude.{if◌then◌else◌, slice_index_or}
use Rattle.std.proofs.Math.Seq.{get_or-append_seam}
use Rattle.std.proofs.lemmas.List.{length-append}
use Rattle.fp_base_lists.specs.Numbered.{AllZipFrom}
use Rattle.fp_base_lists.proofs.Numbered.{AllZipFrom-weaker}
use Rattle.fp_model.specs.declared.parts.Leg.{Leg}
use Rattle.fp_model.specs.declared.parts.Shipment.{Shipment}
use Rattle.fp_model.specs.Costs.{all_legs, has_leg}
use Rattle.fp_model.specs.Problem.{Problem, arc_at}
use Rattle.fp_flatnet.specs.Tables.{WindowTable, windows_in}
use Rattle.fp_tree.specs.declared.sides.Side.{Side}
use Rattle.fp_allowed.specs.Allowed.{is_allowed}
use Rattle.fp_allowed.specs.Walks.{IsTimedWalk}
use Rattle.fp_prices.specs.declared.leaf_prices.Kind.{Kind}
use Rattle.fp_prices.specs.declared.leaf_prices.Kind.TheVariants.{Even, Linear, Table}
use Rattle.fp_prices.specs.declared.leaf_prices.LeafPrice.{LeafPrice}
use Rattle.fp_prices.specs.Leaves.{IsFirstWithout, leaf_price}
use Rattle.fp_prices.specs.LeastWalks.{IsLeastWalk}
use Rattle.fp_prices.specs.Prices.{share_for, table_at, table_price}
use Rattle.fp_prices.specs.Shares.{ClassShare}
use Rattle.fp_prices.specs.Tables.{HasKind}
use Rattle.fp_prices.proofs.TableAppends.{HasKind-append, IsLeafValue-append}
use Rattle.fp_prices_gifts.specs.declared.gifts.Gift.{Gift}
use Rattle.fp_prices_gifts.specs.GiftKinds.{gifts_beside}
use Rattle.fp_prices_gifts.specs.GiftLeaves.{IsGiftLeafValue}
use Rattle.fp_prices_gifts.proofs.GiftAppends.{gift_values-append}
use Rattle.fp_prices_gifts.proofs.OneGiftValue.{values-without-gifts}
use Rattle.fp_prices_spans.specs.SpanKinds.{spans_beside}
use Rattle.fp_prices_spans.specs.SpanLeaves.{IsSpanLeafValue, leaf_heads}
use Rattle.fp_prices_spans.specs.Ways.{IsLeastCostVia, leaf_ways}
use Rattle.fp_prices_spans.specs.SpanPrices.{is_held, leaf_span_price, span_price}
use Rattle.fp_prices_spans.specs.Spans.{ClassSpan}
use Rattle.fp_prices_spans.proofs.SpanlessValues.{spanless-values}
use Rattle.fp_duals.specs.Improvements.{IsPriced}
use Rattle.fp_duals_leaves.specs.declared.pricing.Worth.{Worth}
use Rattle.fp_duals_leaves.specs.Prices.{ArePrices, HaveGrown, PriceLists, with_more}
use Rattle.fp_duals_leaves.specs.Pricing.{IsEmptyFound, IsNoLess, IsPriceFound, IsWorthBy}
use Rattle.fp_duals_leaves.proofs.SpansBeside.{given-length}

-- the price of a class by an empty table with spans beside it is that by linear prices with them
empty-price : (p : Problem) (tables : List (List ClassShare)) (spans : List ClassSpan) (allowed : ℕ → Leg → Bool) (id : ℕ) (chains : List (List Leg)) → table_at tables id ≡ [] →
    leaf_span_price p [] spans allowed Linear chains ≡ leaf_span_price p tables spans allowed (Table id) chains
empty-price p tables spans allowed id chains empty =
    let price : List ClassShare → ℕ → ℕ → Leg → ℕ =
    λ table k size c. if has_leg c (all_legs chains) then 0 else (if is_held spans c then span_price spans k c else table_price p.scale (arc_at p c.arc) (share_for table c) k size) in
    ap price (sym empty)

module _ (p : Problem) (table : WindowTable) (points : ℕ → List ℕ) (sides : List Side) where
  -- so is what a leaf is worth
  empty-value : (tables : List (List ClassShare)) (spans : List ClassSpan) (id value : ℕ) → table_at tables id ≡ [] → IsSpanLeafValue p (windows_in table) points sides [] spans Linear false value →
      IsSpanLeafValue p (windows_in table) points sides tables spans (Table id) false value
  empty-value tables spans id value empty is = record {
    chains = is.chains;
    costs = is.costs;
    charges = is.charges;
    are_chains = is.are_chains;
    are_least = subst (λ (price : ℕ → ℕ → Leg → ℕ). AllZipFrom (λ k (s : Shipment) n. IsLeastCostVia p (leaf_heads p (windows_in table) points spans k) (leaf_ways p sides spans k) (is_allowed p (windows_in table) points sides k) s (price k s.size) n) 0 p.shipments is.costs)
        (empty-price p tables spans (is_allowed p (windows_in table) points sides) id is.chains empty) is.are_least;
    are_charges = is.are_charges;
    value_is = is.value_is;
  }

  -- also with gifts
  empty-given : (tables : List (List ClassShare)) (spans : List ClassSpan) (gifts : List Gift) (id value : ℕ) → table_at tables id ≡ [] → IsGiftLeafValue p (windows_in table) points sides [] spans gifts Linear false value →
      IsGiftLeafValue p (windows_in table) points sides tables spans gifts (Table id) false value
  empty-given tables spans gifts id value empty is = record {
    before = is.before;
    plain = is.plain;
    by_spans = empty-value tables spans id is.before empty is.by_spans;
    given = is.given;
  }

  -- by a table that was added without shares, with spans and gifts beside it
  pub worth-added : (before after : PriceLists) (spans : List ClassSpan) (gifts : List Gift) (round id value : ℕ) → ArePrices p table before → after ≡ with_more before ([] ∷ []) (spans ∷ []) (gifts ∷ []) → id ≡ length before.tables + 1 →
      IsGiftLeafValue p (windows_in table) points sides [] spans gifts Linear false value →
      IsWorthBy p (windows_in table) points sides after round (record { price = record { kind = Table id; round = round; forced = false }; value = value })
  worth-added before after spans gifts round id value are added is_id is =
      subst (λ (x : PriceLists). IsWorthBy p (windows_in table) points sides x round (record { price = record { kind = Table id; round = round; forced = false }; value = value })) (sym added)
      (record {
        of_round = refl;
        kind = (omega (arith, is_id), omega (arith, is_id, length-append before.tables ([] ∷ [])));
        is = subst (λ (ss : List ClassSpan). IsGiftLeafValue p (windows_in table) points sides (before.tables ++ ([] ∷ [])) ss (gifts_beside (before.gifts ++ (gifts ∷ [])) (Table id)) (Table id) false value) (sym own)
            (subst (λ (gs : List Gift). IsGiftLeafValue p (windows_in table) points sides (before.tables ++ ([] ∷ [])) spans gs (Table id) false value) (sym own-gifts)
            (empty-given (before.tables ++ ([] ∷ [])) spans gifts id value last is));
      })
    where
      here : id - 1 ≡ length before.tables
      here = omega (arith, is_id)

      last : table_at (before.tables ++ ([] ∷ [])) id ≡ []
      last = ap (λ (i : ℕ). slice_index_or (before.tables ++ ([] ∷ [])) i []) here ∙ get_or-append_seam before.tables [] [] []

      own : spans_beside (before.spans ++ (spans ∷ [])) (Table id) ≡ spans
      own = ap (λ (i : ℕ). slice_index_or (before.spans ++ (spans ∷ [])) i []) (here ∙ sym are.beside) ∙ get_or-append_seam before.spans spans [] []

      own-gifts : gifts_beside (before.gifts ++ (gifts ∷ [])) (Table id) ≡ gifts
      own-gifts = ap (λ (i : ℕ). slice_index_or (before.gifts ++ (gifts ∷ [])) i []) (here ∙ sym (given-length p table before are)) ∙ get_or-append_seam before.gifts gifts [] []

  -- what a leaf is worth stays when the prices grow
  pub worth-stays : (before after : PriceLists) (round : ℕ) (w : Worth) → ArePrices p table before → HaveGrown p table before after → IsWorthBy p (windows_in table) points sides before round w → IsWorthBy p (windows_in table) points sides after round w
  worth-stays before after round w are grown is =
      subst (λ (x : PriceLists). IsWorthBy p (windows_in table) points sides x round w) (sym grown.is)
      (record {
        of_round = is.of_round;
        kind = HasKind-append before.tables grown.tables w.price.kind is.kind;
        is = gift_values-append p (windows_in table) points sides before.tables grown.tables before.spans grown.spans before.gifts grown.gifts w.price.kind w.price.forced w.value are.beside (given-length p table before are) is.kind is.is;
      })

  -- the price that was found for a leaf, where another is no less
  pub found-no-less : (after : PriceLists) (round : ℕ) (first w : Worth) (walks : List (List Leg)) → IsPriceFound p (windows_in table) points sides after round first walks → IsNoLess p (windows_in table) points sides after round first w →
      IsPriceFound p (windows_in table) points sides after round w walks
  found-no-less after round first w walks found no_less =
      ⊎_elim
      (λ (same : w ≡ first). subst (λ (v : Worth). IsPriceFound p (windows_in table) points sides after round v walks) (sym same) found)
      (λ (more : IsWorthBy p (windows_in table) points sides after round w × (first.value < w.value)).
      let it : IsPriceFound p (windows_in table) points sides after round w walks = record {
        worth = more.0;
        linear = λ f other v. omega (arith, found.linear f other v, more.1);
        even = λ f other v. omega (arith, found.even f other v, more.1);
        walks = found.walks;
        reached = λ chains all. omega (arith, found.reached chains all, more.1);
      } in
      it)
      no_less

  -- it stays when the prices grow
  pub found-stays : (before after : PriceLists) (round : ℕ) (w : Worth) (walks : List (List Leg)) → ArePrices p table before → HaveGrown p table before after → IsPriceFound p (windows_in table) points sides before round w walks →
      IsPriceFound p (windows_in table) points sides after round w walks
  found-stays before after round w walks are grown found = record {
    worth = worth-stays before after round w are grown found.worth;
    linear = found.linear;
    even = found.even;
    walks = found.walks;
    reached = found.reached;
  }

  -- a price that is no less is as of the same round
  pub no-less-round : (x : PriceLists) (first w : Worth) → IsNoLess p (windows_in table) points sides x first.price.round first w → w.price.round ≡ first.price.round
  no-less-round x first w no_less =
      ⊎_elim (λ (same : w ≡ first). ap (λ (v : Worth). v.price.round) same) (λ (more : IsWorthBy p (windows_in table) points sides x first.price.round w × (first.value < w.value)). more.0.of_round) no_less

  -- of three prices, each no less than the one before, the last is no less than the first
  pub no-less-twice : (before after : PriceLists) (round : ℕ) (first second third : Worth) → ArePrices p table before → HaveGrown p table before after → IsNoLess p (windows_in table) points sides before round first second →
      IsNoLess p (windows_in table) points sides after round second third → IsNoLess p (windows_in table) points sides after round first third
  no-less-twice before after round first second third are grown one two =
      ⊎_elim
      (λ (same : third ≡ second).
      ⊎_elim
      (λ (still : second ≡ first). let it : IsNoLess p (windows_in table) points sides after round first third = inl (same ∙ still) in it)
      (λ (more : IsWorthBy p (windows_in table) points sides before round second × (first.value < second.value)).
      let it : IsNoLess p (windows_in table) points sides after round first third =
      inr (subst (λ (w : Worth). IsWorthBy p (windows_in table) points sides after round w × (first.value < w.value)) (sym same) (worth-stays before after round second are grown more.0, more.1)) in
      it)
      one)
      (λ (most : IsWorthBy p (windows_in table) points sides after round third × (second.value < third.value)).
      let le : first.value ≤ second.value =
      ⊎_elim (λ (still : second ≡ first). omega (arith, ap (λ (w : Worth). w.value) still)) (λ (more : IsWorthBy p (windows_in table) points sides before round second × (first.value < second.value)). omega (arith, more.1)) one in
      let it : IsNoLess p (windows_in table) points sides after round first third = inr (most.0, omega (arith, le, most.1)) in
      it)
      two

  -- a leaf with a shipment without an allowed timed walk is empty by linear prices
  pub empty-by_linear : (x : PriceLists) (round shipment : ℕ) → IsFirstWithout p (windows_in table) points sides shipment → IsEmptyFound p (windows_in table) points sides x round (record { kind = Linear; round = round; forced = false })
  empty-by_linear x round shipment first = record {
    of_round = refl;
    kind = tt;
    is = record { shipment = shipment; exists = first.exists; none = λ walk via. first.none walk via.by_heads };
  }

  -- a price that there was still is there
  pub kind-grown : (before after : PriceLists) (kind : Kind) → HaveGrown p table before after → HasKind before.tables kind → HasKind after.tables kind
  kind-grown before after kind grown has = subst (λ (x : PriceLists). HasKind x.tables kind) (sym grown.is) (HasKind-append before.tables grown.tables kind has)

  -- a price by tables alone: neither spans nor gifts stand beside its table
  pub found-by_tables : (before after : PriceLists) (inherited : Kind) (round : ℕ) (price : LeafPrice) (value : ℕ) (walks : List (List Leg)) → spans_beside after.spans price.kind ≡ [] → gifts_beside after.gifts price.kind ≡ [] →
      IsPriced p (windows_in table) points sides before.tables after.tables inherited round price value walks → IsPriceFound p (windows_in table) points sides after round (record { price = price; value = value }) walks
  found-by_tables before after inherited round price value walks none ungiven is = record {
    worth = record {
      of_round = is.of_round;
      kind = is.kind;
      is = subst (λ (ss : List ClassSpan). IsGiftLeafValue p (windows_in table) points sides after.tables ss (gifts_beside after.gifts price.kind) price.kind price.forced value) (sym none)
          (subst (λ (gs : List Gift). IsGiftLeafValue p (windows_in table) points sides after.tables [] gs price.kind price.forced value) (sym ungiven)
          ((values-without-gifts p (windows_in table) points sides after.tables [] price.kind price.forced value).1
          ((spanless-values p (windows_in table) points sides after.tables price.kind price.forced value).1 is.is_value)));
    };
    linear = λ f other v. is.best.linear f other (IsLeafValue-append p (windows_in table) points sides [] Linear f other tt before.tables v);
    even = λ f other v. is.best.even f other (IsLeafValue-append p (windows_in table) points sides [] Even f other tt before.tables v);
    walks = AllZipFrom-weaker
        (λ k (s : Shipment) walk.
        IsLeastWalk p points (is_allowed p (windows_in table) points sides k) s (leaf_price p after.tables (is_allowed p (windows_in table) points sides) price.kind is.least.chains k s.size) walk)
        (λ k (s : Shipment) walk. IsTimedWalk p points (is_allowed p (windows_in table) points sides k) s walk)
        (λ k s walk least. least.timed) 0 p.shipments walks is.least.are_least;
    reached = λ chains all. omega (arith, is.reached chains all);
  }
