-- Bars under prices with gifts are those by spans, from a value on that tells what the gifts give; there are none where the leaf isn't priced
-- by them.
use Rattle.std.proofs.Common.{◌≡◌, ℕ, ◌+◌, ◌-◌, ◌≤◌, Bool, List, [], ⊎_elim, inl, inr, refl, subst}
use Rattle.std.specs.Prelude.{Option}
use Rattle.std.specs.Int.{div_ceil}
use Rattle.fp_model.specs.declared.parts.Leg.{Leg}
use Rattle.fp_model.specs.Numbered.{shipment_at}
use Rattle.fp_model.specs.Problem.{Problem}
use Rattle.fp_flatnet.specs.declared.window_tables.Window.{Window}
use Rattle.fp_tree.specs.declared.sides.Side.{Side}
use Rattle.fp_allowed.specs.Allowed.{is_allowed}
use Rattle.fp_prices.specs.declared.leaf_prices.Kind.{Kind}
use Rattle.fp_prices.specs.Shares.{ClassShare}
use Rattle.fp_prices_spans.specs.SpanBars.{AreSpanBars, HasNoWalkThrough, IsSpanBarred, IsSpanValueThrough}
use Rattle.fp_prices_spans.specs.SpanLeaves.{leaf_heads}
use Rattle.fp_prices_spans.specs.Spans.{ClassSpan}
use Rattle.fp_prices_gifts.specs.declared.gifts.Gift.{Gift}
use Rattle.fp_prices_gifts.specs.GiftBars.{AreGiftBars, IsGiftBarred, IsGiftValueThrough}
use Rattle.fp_prices_gifts.specs.GiftLeaves.{AreGiftTotals, IsPlain, least_total, most_total}
use Rattle.fp_prices_bars.proofs.Bars.{bars-none, bars-told}
use Rattle.fp_prices_gifts.proofs.GivenSums.{given-all, totals-of}
use Rattle.fp_prices_gifts.proofs.OneGiftValue.{given-unique}

module _ (p : Problem) (windows : ℕ → ℕ → Option Window) (points : ℕ → List ℕ) (sides : List Side) (tables : List (List ClassShare)) (spans : List ClassSpan) (gifts : List Gift) (kind : Kind) (forced : Bool) (money : ℕ) where
  -- without totals nothing is barred
  pub gift_bars-none : ((least most : ℕ) → IsPlain gifts forced → AreGiftTotals p points sides gifts least most → ⊥) → AreGiftBars p windows points sides tables spans gifts kind forced money []
  gift_bars-none none =
      bars-none p points (IsGiftBarred p windows points sides tables spans gifts kind forced money)
      (λ k class is.
      let leaf = is.leaf in
      none (least_total gifts leaf.given.numbers) (most_total gifts leaf.given.numbers) leaf.plain (totals-of p points sides gifts leaf.before is.value leaf.given))

  module _ (plain : IsPlain gifts forced) (least most : ℕ) (totals : AreGiftTotals p points sides gifts least most) where
    -- a value by spans is worth the money with what is given
    abbrev IsWorth : ℕ → Type 0
    IsWorth value = money ≤ div_ceil (value + least - most) p.scale

    abbrev HasNone : ℕ → Leg → Type 0
    HasNone k class = HasNoWalkThrough p (leaf_heads p windows points spans k) (is_allowed p windows points sides k) (shipment_at p k) class

    barred-gifts : (k : ℕ) (class : Leg) → IsSpanBarred p windows points sides tables spans kind forced IsWorth k class → IsGiftBarred p windows points sides tables spans gifts kind forced money k class
    barred-gifts k class is = record {
      fits = is.fits;
      exists = is.exists;
      allows = is.allows;
      value = is.value + least - most;
      leaf = record { before = is.value; plain = plain; by_spans = is.leaf; given = given-all p points sides gifts least most is.value (is.value + least - most) refl totals };
      why = ⊎_elim (λ (none : HasNone k class). inl none)
          (λ (worth : (through : ℕ) × IsSpanValueThrough p windows points sides tables spans kind forced k class through × IsWorth through).
          let through : ℕ = worth.0 in
          inr (
            through + least - most,
            record { before = through; plain = plain; by_spans = worth.1; given = given-all p points sides gifts least most through (through + least - most) refl totals },
            worth.2,
          )) is.why;
    }

    barred-spans : (k : ℕ) (class : Leg) → IsGiftBarred p windows points sides tables spans gifts kind forced money k class → IsSpanBarred p windows points sides tables spans kind forced IsWorth k class
    barred-spans k class is = record {
      fits = is.fits;
      exists = is.exists;
      allows = is.allows;
      value = is.leaf.before;
      leaf = is.leaf.by_spans;
      why = ⊎_elim (λ (none : HasNone k class). inl none)
          (λ (worth : (through : ℕ) × IsGiftValueThrough p windows points sides tables spans gifts kind forced k class through × (money ≤ div_ceil through p.scale)).
          let by = worth.1 in
          let one : worth.0 ≡ by.before + least - most = given-unique p points sides gifts by.before by.before worth.0 (by.before + least - most) refl by.given
          (given-all p points sides gifts least most by.before (by.before + least - most) refl totals) in
          inr (by.before, by.by_spans, subst (λ (n : ℕ). money ≤ div_ceil n p.scale) one worth.2)) is.why;
    }

    -- the bars by spans from such a value on are those with gifts
    pub gift_bars-told : (bars : List Side) → AreSpanBars p windows points sides tables spans kind forced IsWorth bars → AreGiftBars p windows points sides tables spans gifts kind forced money bars
    gift_bars-told =
        bars-told p points (IsSpanBarred p windows points sides tables spans kind forced IsWorth) (IsGiftBarred p windows points sides tables spans gifts kind forced money) barred-gifts barred-spans
