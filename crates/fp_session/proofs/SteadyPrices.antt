-- By a steady price no leaf is worth less as of the same round where sides are added.
use Rattle.std.proofs.Common.{◌≡◌, ℕ, ◌+◌, ◌*◌, ◌≤◌, ⊎_elim, inl, inr, Bool, true, false, List, [], ◌∷◌, ◌++◌, refl, ap, subst, arith}
use Rattle.std.specs.Prelude.{◌≢◌, None, Option, sum_by, if◌then◌else◌}
use Rattle.std.specs.List.{AllZip}
use Rattle.std.proofs.lemmas.List.Sums.{sum_by-cons}
use Rattle.fp_base_lists.specs.Numbered.{AllZipFrom}
use Rattle.fp_base_lists.proofs.Elements.{AllByRecursion-weaker}
use Rattle.fp_model.specs.declared.parts.Leg.{Leg}
use Rattle.fp_model.specs.declared.parts.Shipment.{Shipment}
use Rattle.fp_model.specs.Costs.{all_legs, departures_cost, has_leg}
use Rattle.fp_model.specs.Problem.{Problem}
use Rattle.fp_flatnet.specs.declared.window_tables.Window.{Window}
use Rattle.fp_flatnet.specs.Tables.{windows_in}
use Rattle.fp_tree.specs.declared.sides.Side.{Side}
use Rattle.fp_allowed.specs.Allowed.{AreAmong, is_allowed}
use Rattle.fp_allowed.specs.Walks.{IsWalkBy}
use Rattle.fp_allowed.proofs.FewerSides.{AreAmong_append, is_allowed_fewer}
use Rattle.fp_prices.specs.declared.leaf_prices.Kind.{Kind}
use Rattle.fp_prices.specs.declared.leaf_prices.Kind.TheVariants.{Even, Linear, Table}
use Rattle.fp_prices.specs.declared.leaf_prices.LeafPrice.{LeafPrice}
use Rattle.fp_prices.specs.Prices.{truck_price}
use Rattle.fp_prices.specs.Shares.{ClassShare}
use Rattle.fp_prices.proofs.PlainChains.{all_legs-plain}
use Rattle.fp_prices_gifts.specs.declared.gifts.Gift.{Gift}
use Rattle.fp_prices_gifts.specs.GiftKinds.{IsPricedValue, gifts_beside}
use Rattle.fp_prices_gifts.specs.GiftLeaves.{IsGiftLeafValue}
use Rattle.fp_prices_gifts.proofs.OneGiftValue.{values-without-gifts}
use Rattle.fp_prices_spans.specs.SpanKinds.{spans_beside}
use Rattle.fp_prices_spans.specs.SpanLeaves.{IsCharged, IsChargeOf, IsSpanLeafValue, leaf_heads}
use Rattle.fp_certificate_lines.specs.Valuations.{first_sides, sides_valued}
use Rattle.fp_prices_spans.specs.SpanPrices.{is_held, span_price}
use Rattle.fp_prices_spans.specs.Spans.{ClassSpan}
use Rattle.fp_prices_spans.specs.Ways.{IsLeastCostVia, IsWalkVia, leaf_ways}
use Rattle.fp_prices_spans.proofs.LeafWays.{ways-fewer}
use Rattle.fp_session_history.specs.Notes.{History, points_of}
use Rattle.fp_session.specs.declared.kept.Kept.{Kept}
use Rattle.fp_session.specs.Nodes.{IsEarnedAs, IsKept, IsNoLess, IsSteady}
use Rattle.fp_session.specs.Outcomes.{IsNoLessBy}
use Rattle.fp_session.proofs.EarnedSplits.{IsEarnedAs-kept}

-- what a class costs a shipment, where these legs are free
abbrev price_with : Problem → List (List ClassShare) → List ClassSpan → (ℕ → Leg → Bool) → Kind → (free : List Leg) → (k size : ℕ) → Leg → ℕ
price_with p tables spans allowed kind free k size c = if has_leg c free then 0 else (if is_held spans c then span_price spans k c else truck_price p tables allowed kind c k size)

-- it doesn't depend on what is allowed
price-shared : (p : Problem) (tables : List (List ClassShare)) (spans : List ClassSpan) (allowed other : ℕ → Leg → Bool) (kind : Kind) (free : List Leg) → kind ≢ Even →
    price_with p tables spans allowed kind free ≡ price_with p tables spans other kind free
price-shared p tables spans allowed other Linear free shared = refl
price-shared p tables spans allowed other Even free shared = absurd (shared refl)
price-shared p tables spans allowed other (Table id) free shared = refl

module _ (p : Problem) (windows : ℕ → ℕ → Option Window) (points : ℕ → List ℕ) (fewer extra : List Side) where
  abbrev sides : List Side
  sides = fewer ++ extra

  among : AreAmong fewer sides
  among = AreAmong_append fewer extra

  -- what is allowed under the sides, and under fewer
  abbrev narrow : ℕ → Leg → Bool
  narrow = is_allowed p windows points sides

  abbrev wide : ℕ → Leg → Bool
  wide = is_allowed p windows points fewer

  -- a walk under the sides is one by the same heads under fewer
  walk-fewer : (heads : Leg → ℕ) (k : ℕ) (s : Shipment) (walk : List Leg) → IsWalkBy p heads (narrow k) s walk → IsWalkBy p heads (wide k) s walk
  walk-fewer heads k s walk goes = record {
    leads = goes.leads;
    allowed_all = AllByRecursion-weaker (λ c. narrow k c ≡ true) (λ c. wide k c ≡ true) (λ c. is_allowed_fewer p windows points fewer sides k c among) walk goes.allowed_all;
    follows = goes.follows;
  }

  -- and it goes by the ways under fewer too
  via-fewer : (spans : List ClassSpan) (heads : Leg → ℕ) (k : ℕ) (s : Shipment) (walk : List Leg) → IsWalkVia p heads (leaf_ways p sides spans k) (narrow k) s walk → IsWalkVia p heads (leaf_ways p fewer spans k) (wide k) s walk
  via-fewer spans heads k s walk is = record { by_heads = walk-fewer heads k s walk is.by_heads; goes_by = ways-fewer p fewer extra spans k walk is.goes_by }

  -- so the least cost of a shipment isn't less
  least-more : (spans : List ClassSpan) (heads : Leg → ℕ) (k : ℕ) (s : Shipment) (price : Leg → ℕ) (n m : ℕ) → IsLeastCostVia p heads (leaf_ways p fewer spans k) (wide k) s price n →
      IsLeastCostVia p heads (leaf_ways p sides spans k) (narrow k) s price m → n ≤ m
  least-more spans heads k s price n m few more = omega (arith, few.least more.walk (via-fewer spans heads k s more.walk more.is), more.cost)

  -- nor are those of all
  costs-more : (spans : List ClassSpan) (heads : ℕ → Leg → ℕ) (price : ℕ → ℕ → Leg → ℕ) (i : ℕ) (shipments : List Shipment) (A B : List ℕ) →
      AllZipFrom (λ k (s : Shipment) n. IsLeastCostVia p (heads k) (leaf_ways p fewer spans k) (wide k) s (price k s.size) n) i shipments A →
      AllZipFrom (λ k (s : Shipment) n. IsLeastCostVia p (heads k) (leaf_ways p sides spans k) (narrow k) s (price k s.size) n) i shipments B → sum_by (λ (n : ℕ). n) A ≤ sum_by (λ (n : ℕ). n) B
  costs-more spans heads price i [] [] [] few more = omega arith
  costs-more spans heads price i [] [] (b ∷ B) few more = absurd more
  costs-more spans heads price i [] (a ∷ A) B few more = absurd few
  costs-more spans heads price i (s ∷ shipments) [] B few more = absurd few
  costs-more spans heads price i (s ∷ shipments) (a ∷ A) [] few more = absurd more
  costs-more spans heads price i (s ∷ shipments) (a ∷ A) (b ∷ B) few more = omega (arith, least-more spans (heads i) i s (price i s.size) a b few.0 more.0, costs-more spans heads price (i + 1) shipments A B few.1 more.1, sum_by-cons (λ (n : ℕ). n) a A, sum_by-cons (λ (n : ℕ). n) b B)

  -- a span that is charged is so under fewer sides
  charged-fewer : (chains others : List (List Leg)) → all_legs others ≡ [] → (span : ClassSpan) → IsCharged p narrow chains span → IsCharged p wide others span
  charged-fewer chains others none span is = record {
    class = is.class;
    shipment = is.shipment;
    exists = is.exists;
    allowed_for_it = is_allowed_fewer p windows points fewer sides is.shipment is.class among is.allowed_for_it;
    held = is.held;
    not_free = ap (has_leg is.class) none;
  }

  -- so what a span takes off isn't more
  charge-less : (chains others : List (List Leg)) → all_legs others ≡ [] → (span : ClassSpan) (n m : ℕ) → IsChargeOf p wide others span n → IsChargeOf p narrow chains span m → m ≤ n
  charge-less chains others none span n m few more =
      ⊎_elim
      (λ (charged : IsCharged p narrow chains span × (m ≡ span.charge)).
      ⊎_elim (λ (also : IsCharged p wide others span × (n ≡ span.charge)). omega (arith, charged.1, also.1))
      (λ (no : (IsCharged p wide others span → ⊥) × (n ≡ 0)). absurd (no.0 (charged-fewer chains others none span charged.0))) few)
      (λ (no : (IsCharged p narrow chains span → ⊥) × (m ≡ 0)). omega (arith, no.1))
      more

  charges-less : (chains others : List (List Leg)) → all_legs others ≡ [] → (spans : List ClassSpan) (A B : List ℕ) → AllZip (IsChargeOf p wide others) spans A → AllZip (IsChargeOf p narrow chains) spans B →
      sum_by (λ (n : ℕ). n) B ≤ sum_by (λ (n : ℕ). n) A
  charges-less chains others none [] [] [] few more = omega arith
  charges-less chains others none [] [] (b ∷ B) few more = absurd more
  charges-less chains others none [] (a ∷ A) B few more = absurd few
  charges-less chains others none (span ∷ spans) [] B few more = absurd few
  charges-less chains others none (span ∷ spans) (a ∷ A) [] few more = absurd more
  charges-less chains others none (span ∷ spans) (a ∷ A) (b ∷ B) few more =
      omega (arith, charge-less chains others none span a b few.0 more.0, charges-less chains others none spans A B few.1 more.1, sum_by-cons (λ (n : ℕ). n) a A, sum_by-cons (λ (n : ℕ). n) b B)

  -- the value of a leaf isn't less
  pub steady-value : (tables : List (List ClassShare)) (spans : List ClassSpan) (kind : Kind) → kind ≢ Even → (v w : ℕ) → IsSpanLeafValue p windows points fewer tables spans kind false v →
      IsSpanLeafValue p windows points sides tables spans kind false w → v ≤ w
  steady-value tables spans kind shared v w few more =
      let none : all_legs few.chains ≡ [] = all_legs-plain p wide 0 p.shipments few.chains few.are_chains in
      let nothing : all_legs more.chains ≡ [] = all_legs-plain p narrow 0 p.shipments more.chains more.are_chains in
      let IsLeast : List Side → (ℕ → Leg → Bool) → (ℕ → ℕ → Leg → ℕ) → List ℕ → Type 0 = λ under allowed price costs.
      AllZipFrom (λ k (s : Shipment) n. IsLeastCostVia p (leaf_heads p windows points spans k) (leaf_ways p under spans k) (allowed k) s (price k s.size) n) 0 p.shipments costs in
      let price : ℕ → ℕ → Leg → ℕ = price_with p tables spans wide kind [] in
      let own : IsLeast fewer wide price few.costs = subst (λ (free : List Leg). IsLeast fewer wide (price_with p tables spans wide kind free) few.costs) none few.are_least in
      let below : IsLeast sides narrow price more.costs =
      subst (λ (f : ℕ → ℕ → Leg → ℕ). IsLeast sides narrow f more.costs) (price-shared p tables spans narrow wide kind [] shared)
      (subst (λ (free : List Leg). IsLeast sides narrow (price_with p tables spans narrow kind free) more.costs) nothing more.are_least) in
      let base : departures_cost p few.chains (all_legs few.chains) ≡ 0 = ap (departures_cost p few.chains) none in
      omega (
        arith,
        few.value_is,
        more.value_is,
        ap (λ (n : ℕ). p.scale * n) base,
        costs-more spans (leaf_heads p windows points spans) price 0 p.shipments few.costs more.costs own below,
        charges-less more.chains few.chains none spans few.charges more.charges few.are_charges more.are_charges,
      )

-- a leaf below one of which that is kept, whose price is steady, is worth no less, where it is worth no less than by that price as of its round, no
-- gifts stand beside it, and that one is valued under all its sides
pub steady-no_less : (h : History) (sides more : List Side) (above kept : Kept) → IsSteady above.payload.valuation.price → h.unit ≡ None → gifts_beside h.gifts above.payload.valuation.price.kind ≡ [] → IsKept h sides above.payload above.value →
    above.payload.empty ≡ false → IsNoLessBy h (sides ++ more) above.payload.valuation.price kept → IsNoLess above.value kept
steady-no_less h sides more above kept steady without ungiven is some by =
    ⊎_elim
    (λ (empty : kept.payload.empty ≡ true). inl empty)
    (λ (worth : (value : ℕ) × IsPricedValue h.problem (windows_in h.windows) (points_of h price.round) (sides ++ more) h.tables h.spans h.gifts price.kind price.forced value × (value ≤ kept.value)).
    inr (omega (
      arith,
      own.is,
      worth.2,
      steady-value h.problem (windows_in h.windows) (points_of h price.round) sides more h.tables (spans_beside h.spans price.kind) price.kind steady.shared own.earned.value worth.0
          (here own.earned.is) (plain (sides ++ more) worth.0 worth.1),
    )))
    by
  where
    price : LeafPrice
    price = above.payload.valuation.price

    own : IsEarnedAs h sides above.payload.valuation above.value
    own = IsEarnedAs-kept h sides above.payload above.value is some

    -- the price is plain, and without gifts
    plain : (under : List Side) (value : ℕ) → IsPricedValue h.problem (windows_in h.windows) (points_of h price.round) under h.tables h.spans h.gifts price.kind price.forced value →
        IsSpanLeafValue h.problem (windows_in h.windows) (points_of h price.round) under h.tables (spans_beside h.spans price.kind) price.kind false value
    plain under value v =
        (values-without-gifts h.problem (windows_in h.windows) (points_of h price.round) under h.tables (spans_beside h.spans price.kind) price.kind false value).0
        (subst (λ (gs : List Gift). IsGiftLeafValue h.problem (windows_in h.windows) (points_of h price.round) under h.tables (spans_beside h.spans price.kind) gs price.kind false value) ungiven
        (subst (λ (f : Bool). IsPricedValue h.problem (windows_in h.windows) (points_of h price.round) under h.tables h.spans h.gifts price.kind f value) steady.plain v))

    -- the leaf above is valued under all its sides
    here : IsPricedValue h.problem (windows_in h.windows) (points_of h price.round) (sides_valued above.payload.valuation sides) h.tables h.spans h.gifts price.kind price.forced own.earned.value →
        IsSpanLeafValue h.problem (windows_in h.windows) (points_of h price.round) sides h.tables (spans_beside h.spans price.kind) price.kind false own.earned.value
    here v =
        plain sides own.earned.value
        (subst (λ (o : Option ℕ). IsPricedValue h.problem (windows_in h.windows) (points_of h price.round) (first_sides o sides) h.tables h.spans h.gifts price.kind price.forced own.earned.value) (is.under.whole without) v)
