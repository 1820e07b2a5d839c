-- The bound of a leaf by moments, from its bound over the windows that its sides narrow and from whether the spans that are charged pay.
use Rattle.std.proofs.Common.{◌≡◌, ℕ, Bool, List, true, false, sym, ◌∙◌, subst}
use Rattle.std.specs.Prelude.{IfOk, IsTrue, Option, Result, Ok, ◌↔◌}
use Rattle.std.specs.declared.alloc.AllocError.{AllocError}
use Rattle.std.proofs.lemmas.Bool.{false≢true}
use Rattle.fp_base_lists.specs.Numbered.{AllZipFrom}
use Rattle.fp_model.specs.declared.parts.Leg.{Leg}
use Rattle.fp_model.specs.Problem.{IsValid, Problem}
use Rattle.fp_flatnet.specs.declared.window_tables.Window.{Window}
use Rattle.fp_flatnet.specs.Tables.{WindowTable, windows_in}
use Rattle.fp_timenodes.specs.Points.{TimePoints, points_at}
use Rattle.fp_longestarcs.specs.Networks.{TimedNetwork, points_in}
use Rattle.fp_longestarcs.specs.Whole.{IsNetworkOf}
use Rattle.fp_tree.specs.declared.sides.Side.{Side}
use Rattle.fp_allowed.specs.Allowed.{is_allowed}
use Rattle.fp_allowed.specs.SamePoints.{AgreeOnPoints}
use Rattle.fp_allowed.specs.WindowsUnder.{AreWindowRowsUnder}
use Rattle.fp_allowed.proofs.SamePoints.{is_allowed_same}
use Rattle.fp_prices.specs.declared.leaf_prices.Kind.{Kind}
use Rattle.fp_prices.specs.declared.values.bounds.LeafBound.{LeafBound}
use Rattle.fp_prices.specs.declared.values.bounds.LeafBound.TheVariants.{Empty, Value}
use Rattle.fp_prices.specs.LeafPricings.{allowed_at}
use Rattle.fp_prices.specs.Leaves.{IsChain}
use Rattle.fp_prices.specs.Rounds.{LeafModel}
use Rattle.fp_prices.specs.Shares.{ClassShare}
use Rattle.fp_prices.proofs.LeafBounds.{leaf_of}
use Rattle.fp_prices.proofs.OneValue.{chains-unique}
use Rattle.fp_prices_spans.specs.PaidLeaves.{ChargedPay}
use Rattle.fp_prices_spans.specs.Spans.{ClassSpan}
use Rattle.fp_prices_gifts.specs.declared.gifts.Gift.{Gift}
use Rattle.fp_prices_gifts.specs.GiftLeaves.{IsGiftBound, IsGiftBoundOf, IsGiftLeafValue}
use Rattle.fp_prices_gifts.specs.Gifts.{AreGifts}
use Rattle.fp_prices_gifts.specs.MomentLeaves.{IsMomentBoundOf, IsMomentLeafValue}
use Rattle.fp_prices_gifts.proofs.MomentLeaves.{IsPaidValue, first-over, value-over}
use Rattle.fp_prices_gifts.proofs.OneGiftValue.{gift_leaves-have-one-value}
use Rattle.fp_prices_gifts.proofs.SameGiftValues.{gift_bound-as_of}

-- an answer tells whether each span that is charged pays, by the chains that a leaf counts
abbrev pub TellsPay : Problem → (windows : ℕ → ℕ → Option Window) → (points : ℕ → List ℕ) → (allowed : ℕ → Leg → Bool) → List ClassSpan → (forced : Bool) → Result Bool AllocError → Type 0
TellsPay p windows points allowed spans forced r =
    (chains : List (List Leg)) → AllZipFrom (λ k. IsChain p (allowed k) forced) 0 p.shipments chains → IfOk r (λ pay. IsTrue pay ↔ ChargedPay p windows points allowed chains spans)

-- it tells so where the same points allow the same classes
tells-same : (p : Problem) → IsValid p → (windows : ℕ → ℕ → Option Window) (points others : ℕ → List ℕ) → AgreeOnPoints p points others → (sides : List Side) (spans : List ClassSpan) (forced : Bool) (r : Result Bool AllocError) →
    TellsPay p windows others (is_allowed p windows points sides) spans forced r → TellsPay p windows others (is_allowed p windows others sides) spans forced r
tells-same p valid windows points others same sides spans forced r =
    subst (λ (allowed : ℕ → Leg → Bool). TellsPay p windows others allowed spans forced r) (is_allowed_same p valid points others same windows sides)

-- what is found of a leaf over a network of the round is its bound by the points as of the round
pub found-as_of : (p : Problem) → IsValid p → (table : WindowTable) (v : TimePoints) (round : ℕ) (net : TimedNetwork) → IsNetworkOf p v round net → (sides : List Side) (tables : List (List ClassShare)) (spans : List ClassSpan) (gifts : List Gift) →
    AreGifts p gifts → (kind : Kind) (forced : Bool) (l : LeafModel) → l ≡ leaf_of p table net sides → (found b : Option LeafBound) → found ≡ b →
    IsGiftBound l.setting.problem (windows_in l.setting.windows) (points_in l.setting.network) l.sides tables spans gifts kind forced found →
    IsGiftBound p (windows_in table) (λ terminal. points_at v terminal round) sides tables spans gifts kind forced b
found-as_of p valid table v round net of sides tables spans gifts are kind forced l is found b same exact =
    gift_bound-as_of p valid (windows_in table) sides tables spans gifts are.exist kind forced v round net of (Ok b)
    (subst (λ (o : Option LeafBound). IsGiftBound p (windows_in table) (points_in net) sides tables spans gifts kind forced o) same
    (subst (λ (m : LeafModel). IsGiftBound m.setting.problem (windows_in m.setting.windows) (points_in m.setting.network) m.sides tables spans gifts kind forced found) is exact))

-- and so is what is told of its spans
pub tells-as_of : (p : Problem) → IsValid p → (table : WindowTable) (v : TimePoints) (round : ℕ) (net : TimedNetwork) → IsNetworkOf p v round net → (sides : List Side) (spans : List ClassSpan) (forced : Bool) (l : LeafModel) →
    l ≡ leaf_of p table net sides → (r : Result Bool AllocError) →
    TellsPay l.setting.problem (windows_in l.setting.windows) (λ terminal. points_at v terminal round) (allowed_at l) spans forced r →
    TellsPay p (windows_in table) (λ terminal. points_at v terminal round) (is_allowed p (windows_in table) (λ terminal. points_at v terminal round) sides) spans forced r
tells-as_of p valid table v round net of sides spans forced l is r tells =
    tells-same p valid (windows_in table) (points_in net) (λ terminal. points_at v terminal round) of.points sides spans forced r
    (subst (λ (m : LeafModel). TellsPay m.setting.problem (windows_in m.setting.windows) (λ terminal. points_at v terminal round) (allowed_at m) spans forced r) is tells)

module _ (p : Problem) (windows : ℕ → ℕ → Option Window) (points : ℕ → List ℕ) (sides : List Side) (table : WindowTable) (under : AreWindowRowsUnder p windows sides table.rows) (tables : List (List ClassShare)) (spans : List ClassSpan) (gifts : List Gift) (kind : Kind) (forced : Bool) where
  -- what is told by the chains of a leaf's value
  pub told : (v : ℕ) (leaf : IsGiftLeafValue p (windows_in table) points sides tables spans gifts kind forced v) (r : Result Bool AllocError) (pay : Bool) → r ≡ Ok pay →
      TellsPay p (windows_in table) points (is_allowed p (windows_in table) points sides) spans forced r →
      IsTrue pay ↔ ChargedPay p (windows_in table) points (is_allowed p (windows_in table) points sides) leaf.by_spans.chains spans
  told v leaf r pay is tells =
      let chains : List (List Leg) = leaf.by_spans.chains in
      subst (λ (x : Result Bool AllocError). IfOk x (λ pay. IsTrue pay ↔ ChargedPay p (windows_in table) points (is_allowed p (windows_in table) points sides) chains spans)) is
      (tells chains leaf.by_spans.are_chains)

  -- the value over the windows is that by moments, where the spans pay
  pub value-paid : (v : ℕ) → IsGiftLeafValue p (windows_in table) points sides tables spans gifts kind forced v → (r : Result Bool AllocError) (pay : Bool) → r ≡ Ok pay →
      TellsPay p (windows_in table) points (is_allowed p (windows_in table) points sides) spans forced r → pay ≡ true → IsMomentLeafValue p windows points sides tables spans gifts kind forced v
  value-paid v leaf r pay is tells so = record { narrower = table; under = under; leaf = leaf; paid = (told v leaf r pay is tells).0 so }

  -- and where they don't, there is none
  pub value-unpaid : (v : ℕ) → IsGiftLeafValue p (windows_in table) points sides tables spans gifts kind forced v → (r : Result Bool AllocError) (pay : Bool) → r ≡ Ok pay →
      TellsPay p (windows_in table) points (is_allowed p (windows_in table) points sides) spans forced r → pay ≡ false →
      (b : LeafBound) → IsMomentBoundOf p windows points sides tables spans gifts kind forced b → ⊥
  value-unpaid v leaf r pay is tells not_so (Empty shipment) empty =
      let first = first-over p windows points sides table under spans shipment empty in
      gift_leaves-have-one-value.some p (windows_in table) points sides tables spans gifts kind forced v leaf (record { shipment = shipment; exists = first.exists; none = first.none })
  value-unpaid v leaf r pay is tells not_so (Value w) also =
      let allowed : ℕ → Leg → Bool = is_allowed p (windows_in table) points sides in
      let paid : IsPaidValue p (windows_in table) points sides tables spans gifts kind forced w = value-over p windows points sides table under tables spans gifts kind forced w also in
      let chains = chains-unique p allowed forced 0 p.shipments paid.0.by_spans.chains leaf.by_spans.chains paid.0.by_spans.are_chains leaf.by_spans.are_chains in
      false≢true (sym not_so ∙ (told v leaf r pay is tells).1 (subst (λ (legs : List (List Leg)). ChargedPay p (windows_in table) points allowed legs spans) chains paid.1))

  -- a leaf that has no bound over the windows has none by moments
  pub none-over : ((b : LeafBound) → IsGiftBoundOf p (windows_in table) points sides tables spans gifts kind forced b → ⊥) → (b : LeafBound) → IsMomentBoundOf p windows points sides tables spans gifts kind forced b → ⊥
  none-over none (Empty shipment) is = none (Empty shipment) (first-over p windows points sides table under spans shipment is)
  none-over none (Value value) is = none (Value value) (value-over p windows points sides table under tables spans gifts kind forced value is).0
