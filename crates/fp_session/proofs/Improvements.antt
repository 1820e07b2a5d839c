-- What comes of improving an open leaf.
use Rattle.std.proofs.Common.{◌≡◌, ℕ, ◌<◌, ◌≤◌, ⊎_elim, false, List, ◌++◌, refl, sym, ap, ◌∙◌, subst, append_assoc, arith}
use Rattle.std.specs.declared.alloc.Global.{Global}
use Rattle.std.specs.declared.vec.Vec.{Vec}
use Rattle.fp_model.specs.declared.parts.Leg.{Leg}
use Rattle.fp_model.specs.Problem.{Problem}
use Rattle.fp_flatnet.specs.Tables.{WindowTable, windows_in}
use Rattle.fp_longestarcs.specs.Networks.{points_in}
use Rattle.fp_tree.specs.declared.sides.Side.{Side}
use Rattle.fp_allowed.specs.Settings.{Setting}
use Rattle.fp_prices.specs.declared.leaf_prices.LeafPrice.{LeafPrice}
use Rattle.fp_prices.specs.Shares.{ClassShare}
use Rattle.fp_prices_gifts.specs.declared.gifts.Gift.{Gift}
use Rattle.fp_prices_spans.specs.Spans.{ClassSpan}
use Rattle.fp_duals_leaves.specs.declared.pricing.Improvement.{Improvement}
use Rattle.fp_duals_leaves.specs.declared.pricing.Improvement.TheVariants as improved
use Rattle.fp_session_history.specs.Notes.{last_round}
use Rattle.fp_session.specs.declared.kept.Kept.{Kept}
use Rattle.fp_session.specs.declared.searches.Search.{Search}
use Rattle.fp_session.specs.Nodes.{IsKept}
use Rattle.fp_session.specs.Outcomes.{IsFound, IsGreater, empty_kept, priced_kept}
use Rattle.fp_duals_leaves.specs.Prices.{ArePrices, HaveGrown, PriceLists, with_more}
use Rattle.fp_duals_leaves.specs.Pricing.{IsEmptyFound, IsImprovedBy, IsPriceFound}
use Rattle.fp_duals_leaves.proofs.SpansBeside.{given-length}
use Rattle.fp_session.specs.Searches.{IsSearch, history, setting_of}
use Rattle.fp_session.proofs.ImprovedLeaves.{IsKept-with_tables, found-priced, kept-empty, kept-priced}
use Rattle.fp_session.proofs.NextRounds.{agree-now}

-- prices that grow twice have grown
pub HaveGrown-twice : (p : Problem) (table : WindowTable) (before between after : PriceLists) → HaveGrown p table before between → HaveGrown p table between after → HaveGrown p table before after
HaveGrown-twice p table before between after one two = record {
  tables = one.tables ++ two.tables;
  spans = one.spans ++ two.spans;
  gifts = one.gifts ++ two.gifts;
  is =
      two.is
      ∙ ap (λ (x : PriceLists). with_more x two.tables two.spans two.gifts) one.is
      ∙ ap (λ (ts : List (List ClassShare)). record before { tables = ts; spans = (before.spans ++ one.spans) ++ two.spans; gifts = (before.gifts ++ one.gifts) ++ two.gifts }) (append_assoc before.tables one.tables two.tables)
      ∙ ap (λ (ss : List (List ClassSpan)). record before { tables = before.tables ++ (one.tables ++ two.tables); spans = ss; gifts = (before.gifts ++ one.gifts) ++ two.gifts }) (append_assoc before.spans one.spans two.spans)
      ∙ ap (λ (gs : List (List Gift)). record before { tables = before.tables ++ (one.tables ++ two.tables); spans = before.spans ++ (one.spans ++ two.spans); gifts = gs }) (append_assoc before.gifts one.gifts two.gifts);
  prices = two.prices;
}

-- what is kept stays true
pub IsKept-grown : (s : Search) (before after : PriceLists) (sides : List Side) (kept : Kept) → ArePrices s.instance s.windows before → HaveGrown s.instance s.windows before after → IsKept (history s before) sides kept.payload kept.value →
    IsKept (history s after) sides kept.payload kept.value
IsKept-grown s before after sides kept are grown is =
    subst (λ (x : PriceLists). IsKept (history s x) sides kept.payload kept.value) (sym grown.is) (IsKept-with_tables (history s before) grown.tables grown.spans grown.gifts sides kept.payload kept.value are.beside (given-length s.instance s.windows before are) is)

-- what comes of improving a leaf in a setting
abbrev pub ImprovedIn : Setting → List Side → PriceLists → ℕ → Improvement → Type 0
ImprovedIn x sides after round r = IsImprovedBy x.problem (windows_in x.windows) (points_in x.network) sides after round r

module _ (s : Search) (before after : PriceLists) (is : IsSearch s before) (sides : List Side) (x : Setting) (setting : x ≡ setting_of s) (round : ℕ) (r : Improvement)
    (here : ImprovedIn x sides after round r) (at : round ≡ last_round (history s before)) where
  -- in the setting of the search
  own : ImprovedIn (setting_of s) sides after round r
  own = subst (λ (y : Setting). ImprovedIn y sides after round r) setting here

  -- what is kept of a leaf that is empty
  pub empty-here : (price : LeafPrice) → r ≡ improved.Empty price → IsKept (history s after) sides (empty_kept price).payload (empty_kept price).value
  empty-here price was =
      kept-empty (history s after) s.network sides is.belongs.valid (agree-now s before is) price 0 0
      (subst (λ (n : ℕ). IsEmptyFound s.instance (windows_in s.windows) (points_in s.network) sides after n price) at (subst (λ (q : Improvement). ImprovedIn (setting_of s) sides after round q) was own))

  module _ (price : LeafPrice) (value : ℕ) (walks : Vec (List Leg) Global) (was : r ≡ improved.Priced price value walks) where
    -- the price of one that isn't
    priced-own : IsPriceFound s.instance (windows_in s.windows) (points_in s.network) sides after (last_round (history s before)) (record { price = price; value = value }) walks.items
    priced-own =
        subst (λ (n : ℕ). IsPriceFound s.instance (windows_in s.windows) (points_in s.network) sides after n (record { price = price; value = value }) walks.items) at
        (subst (λ (q : Improvement). ImprovedIn (setting_of s) sides after round q) was own)

    -- what is kept of it
    pub priced-here : ArePrices s.instance s.windows after → IsKept (history s after) sides (priced_kept price value).payload (priced_kept price value).value
    priced-here are = kept-priced (history s after) s.network sides is.belongs.valid (agree-now s before is) price value walks.items priced-own are 0

    -- what is found of it, where no less is kept
    found-kept : (kept : Kept) → IsKept (history s after) sides kept.payload kept.value → kept.payload.empty ≡ false → value ≤ kept.value → IsFound (history s after) sides kept walks.items
    found-kept = found-priced (history s after) s.network sides is.belongs.valid (agree-now s before is) price value walks.items priced-own

    -- and where something was kept of it before
    pub found-here : HaveGrown s.instance s.windows before after → (old kept : Kept) → IsKept (history s before) sides old.payload old.value → old.payload.empty ≡ false → IsGreater old price value kept →
        IsFound (history s after) sides kept walks.items × (old.value ≤ kept.value)
    found-here grown old kept was_kept some greater =
        ⊎_elim
        (λ (new : (kept ≡ priced_kept price value) × (old.value < value)).
        let both : Kept → Type 0 = λ (k : Kept). IsFound (history s after) sides k walks.items × (old.value ≤ k.value) in
        subst both (sym new.0) (found-kept (priced_kept price value) (priced-here grown.prices) refl (omega arith), omega (arith, new.1)))
        (λ (same : (kept ≡ old) × (value ≤ old.value)).
        let both : Kept → Type 0 = λ (k : Kept). IsFound (history s after) sides k walks.items × (old.value ≤ k.value) in
        subst both (sym same.0) (found-kept old (IsKept-grown s before after sides old is.prices grown was_kept) some same.1, omega arith))
        greater
