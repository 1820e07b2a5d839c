-- The price of a leaf as of a round that a search had before.
use Rattle.std.proofs.Common.{◌≡◌, ℕ, ◌<◌, ◌≤◌, ◌⊎◌, ⊎_elim, inr, List, [], length, refl, sym, ap, ◌∙◌, subst, arith}
use Rattle.std.specs.Prelude.{◌≢◌, None}
use Rattle.std.specs.declared.alloc.Global.{Global}
use Rattle.std.specs.declared.vec.Vec.{Vec}
use Rattle.fp_model.specs.declared.parts.Leg.{Leg}
use Rattle.fp_model.specs.Problem.{Problem}
use Rattle.fp_flatnet.specs.Belonging.{FitsInstance}
use Rattle.fp_flatnet.specs.Tables.{WindowTable, windows_in}
use Rattle.fp_longestarcs.specs.Networks.{TimedNetwork, points_in}
use Rattle.fp_longestarcs.specs.Whole.{IsNetworkOf}
use Rattle.fp_tree.specs.declared.sides.Side.{Side}
use Rattle.fp_allowed.specs.SamePoints.{AgreeOnPoints}
use Rattle.fp_allowed.specs.Settings.{Setting}
use Rattle.fp_prices.specs.declared.leaf_prices.Kind.{Kind}
use Rattle.fp_prices.specs.declared.leaf_prices.Kind.TheVariants.{Even, Linear}
use Rattle.fp_prices.specs.declared.leaf_prices.LeafPrice.{LeafPrice}
use Rattle.fp_prices.specs.Rounds.{RoundModel}
use Rattle.fp_prices.specs.Tables.{HasKind}
use Rattle.fp_prices.proofs.TableAppends.{HasKind-append}
use Rattle.fp_prices_gifts.specs.GiftKinds.{IsPricedValue, gifts_beside}
use Rattle.fp_prices_gifts.specs.GiftLeaves.{IsGiftLeafValue}
use Rattle.fp_prices_gifts.proofs.OneGiftValue.{gift_leaves-have-one-value}
use Rattle.fp_prices_spans.specs.SpanKinds.{spans_beside}
use Rattle.fp_prices_spans.specs.SpanLeaves.{IsSpanLeafEmpty}
use Rattle.fp_prices_spans.specs.Spans.{ClassSpan}
use Rattle.fp_duals_leaves.specs.declared.pricing.Improvement.{Improvement}
use Rattle.fp_duals_leaves.specs.declared.pricing.Improvement.TheVariants as improved
use Rattle.fp_duals_leaves.specs.Prices.{HaveGrown, PriceLists}
use Rattle.fp_duals_leaves.specs.Pricing.{IsEmptyFound, IsPriceFound}
use Rattle.fp_duals_leaves.proofs.SpansBeside.{beside-none, ungiven-none}
use Rattle.fp_duals_leaves.proofs.Worths.{found-no-less}
use Rattle.fp_session_history.specs.Notes.{points_of}
use Rattle.fp_session_history.proofs.HistoryPoints.{AgreeOnPoints-history}
use Rattle.fp_session_history.proofs.SamePoints.{EachValue_same}
use Rattle.fp_session.specs.declared.kept.Kept.{Kept}
use Rattle.fp_session.specs.declared.searches.Search.{Search}
use Rattle.fp_session.specs.Nodes.{IsKept, IsPriceOf}
use Rattle.fp_session.specs.Outcomes.{IsBestBy, IsGreater, IsNoLessBy, empty_kept, priced_kept}
use Rattle.fp_session.specs.Searches.{IsSearch, history, setting_of}
use Rattle.fp_session.proofs.ImprovedLeaves.{empty-as-of, kept-as-of}
use Rattle.fp_session.proofs.Improvements.{ImprovedIn}
use Rattle.fp_session.proofs.SameValues.{priced_value-same}
use Rattle.fp_session.proofs.TakenValuations.{AreAtMost}

-- the setting of a search over another network
abbrev pub setting_with : Search → TimedNetwork → Setting
setting_with s net = record { problem = s.instance; windows = s.windows; network = net }

-- a leaf over a round of such a network is in it
pub leaf-setting_with : (s : Search) (net : TimedNetwork) (r : RoundModel) (x : Setting) → r ≡ record { problem = s.instance; network = net } →
    x ≡ record { problem = r.problem; windows = s.windows; network = r.network } → x ≡ setting_with s net
leaf-setting_with s net r x is of = of ∙ ap (λ (q : RoundModel). let y : Setting = record { problem = q.problem; windows = s.windows; network = q.network } in y) is

module _ (s : Search) (before after : PriceLists) (is : IsSearch s before) (sides : List Side) (net : TimedNetwork) (round : ℕ) (had : round ≤ length s.trace.items) (of : IsNetworkOf s.instance s.points round net)
    (x : Setting) (setting : x ≡ setting_with s net) (r : Improvement) (here : ImprovedIn x sides after round r) where
  -- the points of such a network are those as of the round
  agree-then : AgreeOnPoints s.instance (points_in net) (points_of (history s after) round)
  agree-then = AgreeOnPoints-history (history s before) s.started s.cost is.belongs is.trace (omega (arith, is.rounds, is.budget.rounds)) s.points round net is.points is.added of

  own-then : (q : Improvement) → r ≡ q → ImprovedIn (setting_with s net) sides after round q
  own-then q was = subst (λ (z : Improvement). ImprovedIn (setting_with s net) sides after round z) was (subst (λ (y : Setting). ImprovedIn y sides after round r) setting here)

  -- what is kept of one that was empty then
  pub empty-then : (price : LeafPrice) → r ≡ improved.Empty price → IsKept (history s after) sides (empty_kept price).payload (empty_kept price).value × (price.round ≡ round)
  empty-then price was =
      let found : IsEmptyFound s.instance (windows_in s.windows) (points_in net) sides after round price = own-then (improved.Empty price) was in
      (empty-as-of (history s after) net sides is.belongs.valid round had agree-then price 0 0 found, found.of_round)

  -- the values by linear and by even prices are at most the one that was found
  pub starts-then : (price : LeafPrice) (value : ℕ) (walks : Vec (List Leg) Global) → r ≡ improved.Priced price value walks → AreAtMost (history s after) round sides value
  starts-then price value walks was =
      let found : IsPriceFound s.instance (windows_in s.windows) (points_in net) sides after round (record { price = price; value = value }) walks.items = own-then (improved.Priced price value walks) was in
      record {
        linear = EachValue_same s.instance is.belongs.valid (windows_in s.windows) (points_in net) (points_of (history s after) round) agree-then sides [] Linear value found.linear;
        even = EachValue_same s.instance is.belongs.valid (windows_in s.windows) (points_in net) (points_of (history s after) round) agree-then sides [] Even value found.even;
      }

  -- and of one for which another price was tried too
  module _ (price : LeafPrice) (at : price.round ≡ round) (kind : HasKind after.tables price.kind) (grown : HaveGrown s.instance s.windows before after) where
    -- it is kept as of that round, and where no spans are sought with no less value than by that price
    pub record IsKeptThen (now : Kept) : Type 0 where
      pub kept : IsKept (history s after) sides now.payload now.value
      pub of_round : now.payload.valuation.price.round ≡ price.round
      pub inherited : before.unit ≡ None → IsNoLessBy (history s after) sides price now

    value-then : (v : ℕ) → IsPricedValue s.instance (windows_in s.windows) (points_in net) sides after.tables after.spans after.gifts price.kind price.forced v →
        IsPricedValue s.instance (windows_in s.windows) (points_of (history s after) price.round) sides after.tables after.spans after.gifts price.kind price.forced v
    value-then v value =
        subst (λ (n : ℕ). IsPricedValue s.instance (windows_in s.windows) (points_of (history s after) n) sides after.tables after.spans after.gifts price.kind price.forced v) (sym at)
        (priced_value-same s.instance is.belongs.valid (points_in net) (points_of (history s after) round) agree-then s.windows sides after grown.prices price.kind price.forced v value)

    -- where no spans are sought, neither spans nor gifts stand beside a table
    no-unit-then : before.unit ≡ None → after.unit ≡ None
    no-unit-then without = ap (λ (x : PriceLists). x.unit) grown.is ∙ without

    unspanned-then : (k : Kind) → before.unit ≡ None → spans_beside after.spans k ≡ []
    unspanned-then k without = beside-none s.instance s.windows after k grown.prices (no-unit-then without)

    ungiven-then : before.unit ≡ None → gifts_beside after.gifts price.kind ≡ []
    ungiven-then without = ungiven-none s.instance s.windows after price.kind grown.prices (no-unit-then without)

    module _ (first : LeafPrice) (value : ℕ) (walks : Vec (List Leg) Global) (was : r ≡ improved.Priced first value walks) where
      found-then : IsPriceFound s.instance (windows_in s.windows) (points_in net) sides after round (record { price = first; value = value }) walks.items
      found-then = own-then (improved.Priced first value walks) was

      -- a leaf with a value isn't empty by heads without spans
      some-then : before.unit ≡ None → IsSpanLeafEmpty s.instance (windows_in s.windows) (points_in net) sides (spans_beside after.spans price.kind) → ⊥
      some-then without empty =
          gift_leaves-have-one-value.some s.instance (windows_in s.windows) (points_in net) sides after.tables [] (gifts_beside after.gifts first.kind) first.kind first.forced value
          (subst (λ (ss : List ClassSpan). IsGiftLeafValue s.instance (windows_in s.windows) (points_in net) sides after.tables ss (gifts_beside after.gifts first.kind) first.kind first.forced value) (unspanned-then first.kind without)
          found-then.worth.is)
          (subst (IsSpanLeafEmpty s.instance (windows_in s.windows) (points_in net) sides) (unspanned-then price.kind without) empty)

      -- where no walk goes by the heads of that price, or the leaf isn't priced by its gifts, what was found is kept; without spans there are such walks,
      -- and no gifts
      none-then : IsSpanLeafEmpty s.instance (windows_in s.windows) (points_in net) sides (spans_beside after.spans price.kind) ⊎ (gifts_beside after.gifts price.kind ≢ []) → IsKeptThen (priced_kept first value)
      none-then why = record {
        kept = kept-as-of (history s after) net sides is.belongs.valid grown.prices round had agree-then first value walks.items found-then 0;
        of_round = found-then.worth.of_round ∙ sym at;
        inherited = λ without.
            ⊎_elim (λ (empty : IsSpanLeafEmpty s.instance (windows_in s.windows) (points_in net) sides (spans_beside after.spans price.kind)). absurd (some-then without empty))
            (λ (given : gifts_beside after.gifts price.kind ≢ []). absurd (given (ungiven-then without))) why;
      }

      greater-then : (v : ℕ) → IsPricedValue s.instance (windows_in s.windows) (points_in net) sides after.tables after.spans after.gifts price.kind price.forced v → (kept : Kept) → IsGreater (priced_kept first value) price v kept → IsKeptThen kept
      greater-then v worth kept greater =
          ⊎_elim
          (λ (new : (kept ≡ priced_kept price v) × (value < v)).
          subst IsKeptThen (sym new.0)
          (record {
            kept = kept-as-of (history s after) net sides is.belongs.valid grown.prices round had agree-then price v walks.items
                (found-no-less s.instance s.windows (points_in net) sides after round (record { price = first; value = value }) (record { price = price; value = v }) walks.items found-then
                (inr (record { of_round = at; kind = kind; is = worth }, new.1)))
                0;
            of_round = refl;
            inherited = λ _. inr (v, value-then v worth, omega arith);
          }))
          (λ (same : (kept ≡ priced_kept first value) × (v ≤ value)).
          subst IsKeptThen (sym same.0)
          (record {
            kept = kept-as-of (history s after) net sides is.belongs.valid grown.prices round had agree-then first value walks.items found-then 0;
            of_round = found-then.worth.of_round ∙ sym at;
            inherited = λ _. inr (v, value-then v worth, same.1);
          }))
          greater

      pub best-then : (kept : Kept) → IsBestBy (record { setting = x; sides = sides }) after (priced_kept first value) price kept → IsKeptThen kept
      best-then kept best =
          ⊎_elim
          (λ (none : (kept ≡ priced_kept first value) × (IsSpanLeafEmpty s.instance (windows_in s.windows) (points_in net) sides (spans_beside after.spans price.kind) ⊎ (gifts_beside after.gifts price.kind ≢ []))).
          subst IsKeptThen (sym none.0) (none-then none.1))
          (λ (some : (v : ℕ) × IsPricedValue s.instance (windows_in s.windows) (points_in net) sides after.tables after.spans after.gifts price.kind price.forced v × IsGreater (priced_kept first value) price v kept).
          greater-then some.0 some.1 kept some.2)
          (subst (λ (y : Setting). IsBestBy (record { setting = y; sides = sides }) after (priced_kept first value) price kept) setting best)

-- so it is of a leaf under sides that it has, by a price as of the round
pub best-under : (s : Search) (before after : PriceLists) (is : IsSearch s before) (own sides : List Side) (net : TimedNetwork) (price : LeafPrice) (had : price.round ≤ length s.trace.items)
    (of : IsNetworkOf s.instance s.points price.round net) (x : Setting) (setting : x ≡ setting_with s net) (r : Improvement) (here : ImprovedIn x own after price.round r) (kind : HasKind after.tables price.kind) (grown : HaveGrown s.instance s.windows before after)
    (first : LeafPrice) (value : ℕ) (walks : Vec (List Leg) Global) → r ≡ improved.Priced first value walks → (found : Kept) → found ≡ priced_kept first value → own ≡ sides → (kept : Kept) →
    IsBestBy (record { setting = x; sides = own }) after found price kept →
    IsKept (history s after) sides kept.payload kept.value × (kept.payload.valuation.price.round ≡ price.round) × (before.unit ≡ None → IsNoLessBy (history s after) sides price kept)
best-under s before after is own sides net price had of x setting r here kind grown first value walks was found made way kept best =
    let then = best-then s before after is own net price.round had of x setting r here price refl kind grown first value walks was kept
    (subst (λ (k : Kept). IsBestBy (record { setting = x; sides = own }) after k price kept) made best) in (
      subst (λ (l : List Side). IsKept (history s after) l kept.payload kept.value) way then.kept,
      then.of_round,
      λ without. subst (λ (l : List Side). IsNoLessBy (history s after) l price kept) way (then.inherited without),
    )

-- a price of a search stays one when the prices grow
pub IsPriceOf-grown : (s : Search) (before after : PriceLists) (price : LeafPrice) → HaveGrown s.instance s.windows before after → IsPriceOf (history s before) price → IsPriceOf (history s after) price
IsPriceOf-grown s before after price grown is =
    subst (λ (x : PriceLists). IsPriceOf (history s x) price) (sym grown.is) (record { round = is.round; kind = HasKind-append before.tables grown.tables price.kind is.kind })

-- a leaf over the network of another one of a search, with its windows, is in the same setting
pub leaf-setting_of : (s : Search) (own x : Setting) (p : Problem) (w : WindowTable) (n : TimedNetwork) → own ≡ setting_of s → p ≡ own.problem → w ≡ own.windows → n ≡ own.network →
    x ≡ record { problem = p; windows = w; network = n } → x ≡ setting_of s
leaf-setting_of s own x p w n setting problem windows network of =
    of
    ∙ ap (λ (q : Problem). let y : Setting = record { problem = q; windows = w; network = n } in y) (problem ∙ ap (λ (y : Setting). y.problem) setting)
    ∙ ap (λ (v : WindowTable). let y : Setting = record { problem = s.instance; windows = v; network = n } in y) (windows ∙ ap (λ (y : Setting). y.windows) setting)
    ∙ ap (λ (m : TimedNetwork). let y : Setting = record { problem = s.instance; windows = s.windows; network = m } in y) (network ∙ ap (λ (y : Setting). y.network) setting)

-- and its windows fit its instance
pub fits-here : (own : Setting) (p : Problem) (w : WindowTable) → p ≡ own.problem → w ≡ own.windows → FitsInstance own.problem own.windows → FitsInstance p w
fits-here own p w problem windows fits =
    subst (λ (q : Problem). FitsInstance q w) (sym problem) (subst (λ (v : WindowTable). FitsInstance own.problem v) (sym windows) fits)
