-- Bars by moments are those over the windows that the leaf's sides narrow, where the spans that are charged pay, and else there are none.
use Rattle.std.proofs.Common.{◌≡◌, ℕ, true, false, Bool, List, [], sym, ◌∙◌, subst}
use Rattle.std.specs.Prelude.{Ok, Option, Result}
use Rattle.std.specs.declared.alloc.AllocError.{AllocError}
use Rattle.std.proofs.lemmas.Bool.{false≢true}
use Rattle.fp_model.specs.declared.parts.Leg.{Leg}
use Rattle.fp_model.specs.Problem.{Problem}
use Rattle.fp_flatnet.specs.declared.window_tables.Window.{Window}
use Rattle.fp_flatnet.specs.Tables.{WindowTable, windows_in}
use Rattle.fp_tree.specs.declared.sides.Side.{Side}
use Rattle.fp_allowed.specs.Allowed.{is_allowed}
use Rattle.fp_allowed.specs.WindowsUnder.{AreWindowRowsUnder}
use Rattle.fp_prices.specs.declared.leaf_prices.Kind.{Kind}
use Rattle.fp_prices.specs.Shares.{ClassShare}
use Rattle.fp_prices_spans.specs.PaidLeaves.{ChargedPay}
use Rattle.fp_prices_spans.specs.Spans.{ClassSpan}
use Rattle.fp_prices_gifts.specs.declared.gifts.Gift.{Gift}
use Rattle.fp_prices_gifts.specs.GiftBars.{AreGiftBars, AreMomentBars, IsGiftBarred, IsMomentBarred}
use Rattle.fp_prices_bars.proofs.Bars.{bars-none, bars-told}
use Rattle.fp_prices_gifts.proofs.MomentBounds.{TellsPay, told}
use Rattle.fp_prices_gifts.proofs.MomentLeaves.{windows-one}

module _ (p : Problem) (windows : ℕ → ℕ → Option Window) (points : ℕ → List ℕ) (sides : List Side) (table : WindowTable) (under : AreWindowRowsUnder p windows sides table.rows) (tables : List (List ClassShare)) (spans : List ClassSpan) (gifts : List Gift) (kind : Kind) (forced : Bool) (money : ℕ) where
  -- a class that is barred over windows, by which each span that is charged pays
  abbrev IsPaidBarred : (ℕ → ℕ → Option Window) → ℕ → Leg → Type 0
  IsPaidBarred over k class =
      (barred : IsGiftBarred p over points sides tables spans gifts kind forced money k class) × ChargedPay p over points (is_allowed p over points sides) barred.leaf.by_spans.chains spans

  -- a class that is barred by moments is barred so over these windows
  barred-over : (k : ℕ) (class : Leg) → IsMomentBarred p windows points sides tables spans gifts kind forced money k class → IsPaidBarred (windows_in table) k class
  barred-over k class is = subst (λ (over : ℕ → ℕ → Option Window). IsPaidBarred over k class) (windows-one p windows points sides table under is.narrower is.under) (is.barred, is.paid)

  module _ (r : Result Bool AllocError) (pay : Bool) (is : r ≡ Ok pay) (tells : TellsPay p (windows_in table) points (is_allowed p (windows_in table) points sides) spans forced r) where
    pub moment_bars-paid : pay ≡ true → (bars : List Side) → AreGiftBars p (windows_in table) points sides tables spans gifts kind forced money bars →
        AreMomentBars p windows points sides tables spans gifts kind forced money bars
    moment_bars-paid so =
        bars-told p points (IsGiftBarred p (windows_in table) points sides tables spans gifts kind forced money) (IsMomentBarred p windows points sides tables spans gifts kind forced money)
        (λ k class barred. record {
          narrower = table;
          under = under;
          barred = barred;
          paid = (told p windows points sides table under tables spans gifts kind forced barred.value barred.leaf r pay is tells).0 so;
        })
        (λ k class barred. (barred-over k class barred).0)

    pub moment_bars-unpaid : pay ≡ false → AreMomentBars p windows points sides tables spans gifts kind forced money []
    moment_bars-unpaid not_so =
        bars-none p points (IsMomentBarred p windows points sides tables spans gifts kind forced money)
        (λ k class barred.
        let paid : IsPaidBarred (windows_in table) k class = barred-over k class barred in
        false≢true (sym not_so ∙ (told p windows points sides table under tables spans gifts kind forced paid.0.value paid.0.leaf r pay is tells).1 paid.1))
