-- Bars under prices with gifts are the same over other lists of the same points.
use Rattle.std.proofs.Common.{◌≡◌, ℕ, ◌<◌, ◌≤◌, true, Bool, List, length, ⊎_elim, inl, inr, subst}
use Rattle.std.specs.Prelude.{All, Option}
use Rattle.std.specs.Int.{div_ceil}
use Rattle.fp_model.specs.declared.parts.Leg.{Leg}
use Rattle.fp_model.specs.Numbered.{shipment_at}
use Rattle.fp_model.specs.Problem.{IsValid, Problem}
use Rattle.fp_flatnet.specs.declared.window_tables.Window.{Window}
use Rattle.fp_flatnet.specs.Tables.{WindowTable, windows_in}
use Rattle.fp_timenodes.specs.Points.{TimePoints, points_at}
use Rattle.fp_longestarcs.specs.Networks.{TimedNetwork, points_in}
use Rattle.fp_longestarcs.specs.Whole.{IsNetworkOf}
use Rattle.fp_tree.specs.declared.sides.Side.{Side}
use Rattle.fp_allowed.specs.Allowed.{is_allowed}
use Rattle.fp_allowed.specs.SamePoints.{AgreeOnPoints}
use Rattle.fp_allowed.proofs.SamePoints.{AgreeOnPoints_sym, class_of_same, is_allowed_same}
use Rattle.fp_prices.specs.declared.leaf_prices.Kind.{Kind}
use Rattle.fp_prices.specs.Rounds.{LeafModel}
use Rattle.fp_prices.specs.Shares.{ClassShare}
use Rattle.fp_prices.proofs.LeafBounds.{leaf_of}
use Rattle.fp_prices_spans.specs.SpanBars.{HasNoWalkThrough}
use Rattle.fp_prices_spans.specs.SpanLeaves.{leaf_heads}
use Rattle.fp_prices_spans.specs.Spans.{ClassSpan}
use Rattle.fp_prices_bars.proofs.SameThroughValues.{no_walk-same, through_value-same}
use Rattle.fp_prices_gifts.specs.declared.gifts.Gift.{Gift}
use Rattle.fp_prices_gifts.specs.GiftBars.{AreGiftBars, IsGiftBarred, IsGiftValueThrough}
use Rattle.fp_prices_bars.proofs.Bars.{bars-over, bars-told}
use Rattle.fp_prices_gifts.proofs.SameGiftValues.{gift_value-same, given-over}

module _ (p : Problem) (valid : IsValid p) (windows : ℕ → ℕ → Option Window) (sides : List Side) (tables : List (List ClassShare)) (spans : List ClassSpan) (gifts : List Gift) (exist : All (λ (gift : Gift). gift.arc < length p.arcs) gifts) (kind : Kind) (forced : Bool) (money : ℕ) where
  module _ (points others : ℕ → List ℕ) (same : AgreeOnPoints p points others) (k : ℕ) (class : Leg) where
    -- the leaf is worth the same where a shipment is made to go by a class
    through-same : (value : ℕ) → IsGiftValueThrough p windows points sides tables spans gifts kind forced k class value → IsGiftValueThrough p windows others sides tables spans gifts kind forced k class value
    through-same value is = record {
      before = is.before;
      plain = is.plain;
      by_spans = through_value-same p valid windows points others same sides spans k class tables kind forced is.before is.by_spans;
      given = given-over p valid windows sides tables spans gifts exist kind forced points others same is.before value is.given;
    }

    -- so the same classes are barred
    barred-same : IsGiftBarred p windows points sides tables spans gifts kind forced money k class → IsGiftBarred p windows others sides tables spans gifts kind forced money k class
    barred-same is = record {
      fits = is.fits;
      exists = is.exists;
      allows = subst (λ (allowed : ℕ → Leg → Bool). allowed k class ≡ true) (is_allowed_same p valid points others same windows sides) is.allows;
      value = is.value;
      leaf = gift_value-same p valid windows sides tables spans gifts exist kind forced points others same is.value is.leaf;
      why = ⊎_elim
          (λ (none : HasNoWalkThrough p (leaf_heads p windows points spans k) (is_allowed p windows points sides k) (shipment_at p k) class).
          inl (no_walk-same p valid windows points others same sides spans k (shipment_at p k) class none))
          (λ (worth : (through : ℕ) × IsGiftValueThrough p windows points sides tables spans gifts kind forced k class through × (money ≤ div_ceil through p.scale)).
          inr (worth.0, through-same worth.0 worth.1, worth.2)) is.why;
    }

  gift_bars-same : (points others : ℕ → List ℕ) → AgreeOnPoints p points others → (bars : List Side) → AreGiftBars p windows points sides tables spans gifts kind forced money bars →
      AreGiftBars p windows others sides tables spans gifts kind forced money bars
  gift_bars-same points others same bars is =
      let By : (ℕ → List ℕ) → ℕ → Leg → Type 0 = λ qs. IsGiftBarred p windows qs sides tables spans gifts kind forced money in
      bars-over p points (By others) others (class_of_same p valid points others same 1) bars
      (bars-told p points (By points) (By others) (barred-same points others same) (barred-same others points (AgreeOnPoints_sym p points others same)) bars is)

-- the bars of a leaf over a network of a round are those by the points as of the round
pub gift_bars-as_of : (p : Problem) → IsValid p → (table : WindowTable) (v : TimePoints) (round : ℕ) (net : TimedNetwork) → IsNetworkOf p v round net → (sides : List Side) (tables : List (List ClassShare)) (spans : List ClassSpan) (gifts : List Gift) →
    All (λ (gift : Gift). gift.arc < length p.arcs) gifts → (kind : Kind) (forced : Bool) (money : ℕ) (l : LeafModel) → l ≡ leaf_of p table net sides → (bars : List Side) →
    AreGiftBars l.setting.problem (windows_in l.setting.windows) (points_in l.setting.network) l.sides tables spans gifts kind forced money bars →
    AreGiftBars p (windows_in table) (λ terminal. points_at v terminal round) sides tables spans gifts kind forced money bars
gift_bars-as_of p valid table v round net of sides tables spans gifts exist kind forced money l is bars are =
    gift_bars-same p valid (windows_in table) sides tables spans gifts exist kind forced money (points_in net) (λ terminal. points_at v terminal round) of.points bars
    (subst (λ (m : LeafModel). AreGiftBars m.setting.problem (windows_in m.setting.windows) (points_in m.setting.network) m.sides tables spans gifts kind forced money bars) is are)
