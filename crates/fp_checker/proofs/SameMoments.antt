-- Sides that ask alike narrow windows alike, so by moments too a leaf is worth the same.
use Rattle.std.proofs.Common.{◌≡◌, ◌∙◌, ℕ, true, Bool, List, [], sym, subst}
use Rattle.std.specs.Prelude.{Option, Some, None, slice_index_or}
use Rattle.fp_base_lists.specs.Numbered.{AllZipFrom}
use Rattle.fp_base_lists.proofs.Elements.{AllByRecursion-weaker}
use Rattle.fp_model.specs.declared.parts.Leg.{Leg}
use Rattle.fp_model.specs.Problem.{Problem}
use Rattle.fp_flatnet.specs.declared.window_tables.Window.{Window}
use Rattle.fp_flatnet.specs.Tables.{windows_in}
use Rattle.fp_tree.specs.declared.sides.Side.{Side}
use Rattle.fp_allowed.specs.Allowed.{exit_of, is_allowed, meets_all}
use Rattle.fp_allowed.specs.WindowsUnder.{AreWindowRowsUnder, IsWindowUnderOrNone, PassesAt}
use Rattle.fp_prices.specs.declared.leaf_prices.Kind.{Kind}
use Rattle.fp_prices.specs.Leaves.{IsChain}
use Rattle.fp_prices.specs.Shares.{ClassShare}
use Rattle.fp_prices_gifts.specs.declared.gifts.Gift.{Gift}
use Rattle.fp_prices_gifts.specs.GiftLeaves.{IsGiftLeafValue}
use Rattle.fp_prices_gifts.specs.MomentLeaves.{IsMomentLeafEmpty, IsMomentLeafValue}
use Rattle.fp_prices_spans.specs.PaidLeaves.{ChargedPay}
use Rattle.fp_prices_spans.specs.Spans.{ClassSpan}
use Rattle.fp_checker.specs.LeafWays.{AskAlike}
use Rattle.fp_checker.proofs.ChargedChains.{charged-chains}
use Rattle.fp_checker.proofs.SameSides.{AskAlike-sym, allowed-alike, empty-alike, value-alike}

module _ (p : Problem) (windows : ℕ → ℕ → Option Window) where
  -- a passage under some sides is one under others
  passes-alike : (sides others : List Side) → AskAlike sides others → (k a m : ℕ) → PassesAt p windows sides k a m → PassesAt p windows others k a m
  passes-alike sides others alike k a m passes = record {
    legs = passes.legs;
    is = record {
      leads = passes.is.leads;
      ready = passes.is.ready;
      within = passes.is.within;
      meets = AllByRecursion-weaker (λ (l : Leg). meets_all k sides (exit_of p l) ≡ true) (λ (l : Leg). meets_all k others (exit_of p l) ≡ true)
          (λ l meets. sym (alike.legs k (exit_of p l)) ∙ meets) passes.legs passes.is.meets;
    };
    leaves = passes.leaves;
  }

  -- so a window is one under others
  window-alike : (sides others : List Side) → AskAlike sides others → (k a : ℕ) (o : Option Window) → IsWindowUnderOrNone p windows sides k a o → IsWindowUnderOrNone p windows others k a o
  window-alike sides others alike k a None none = λ m passes. none m (passes-alike others sides (AskAlike-sym sides others alike) k a m passes)
  window-alike sides others alike k a (Some w) is = record {
    first = passes-alike sides others alike k a w.lo is.first;
    last = passes-alike sides others alike k a w.hi is.last;
    between = λ m passes. is.between m (passes-alike others sides (AskAlike-sym sides others alike) k a m passes);
  }

  module _ (sides others : List Side) (alike : AskAlike sides others) where
    pub rows-alike : (rows : List (List (Option Window))) → AreWindowRowsUnder p windows sides rows → AreWindowRowsUnder p windows others rows
    rows-alike rows are = record {
      one_each = are.one_each;
      exact = λ k lt. record {
        one_each = (are.exact k lt).one_each;
        exact = λ a there. window-alike sides others alike k a (slice_index_or (slice_index_or rows k []) a None) ((are.exact k lt).exact a there);
      };
    }

    -- a leaf is empty by moments alike
    pub moment_empty-alike : (points : ℕ → List ℕ) (spans : List ClassSpan) → IsMomentLeafEmpty p windows points sides spans → IsMomentLeafEmpty p windows points others spans
    moment_empty-alike points spans is = record {
      narrower = is.narrower;
      under = rows-alike is.narrower.rows is.under;
      empty = empty-alike p (windows_in is.narrower) points sides others alike spans is.empty;
    }

    -- and has the same value by moments
    pub moment_value-alike : (points : ℕ → List ℕ) (tables : List (List ClassShare)) (spans : List ClassSpan) (gifts : List Gift) (kind : Kind) (forced : Bool) (value : ℕ) →
        IsMomentLeafValue p windows points sides tables spans gifts kind forced value → IsMomentLeafValue p windows points others tables spans gifts kind forced value
    moment_value-alike points tables spans gifts kind forced value is =
        let over : ℕ → ℕ → Option Window = windows_in is.narrower in
        let same = allowed-alike p over points sides others alike in
        let old : List (List Leg) = is.leaf.by_spans.chains in
        let leaf : IsGiftLeafValue p over points others tables spans gifts kind forced value = value-alike p over points sides others alike tables spans gifts kind forced value is.leaf in
        record {
          narrower = is.narrower;
          under = rows-alike is.narrower.rows is.under;
          leaf = leaf;
          paid = charged-chains p over points (is_allowed p over points others) forced spans old leaf.by_spans.chains
              (subst (λ (allowed : ℕ → Leg → Bool). AllZipFrom (λ k. IsChain p (allowed k) forced) 0 p.shipments old) same is.leaf.by_spans.are_chains) leaf.by_spans.are_chains
              (subst (λ (allowed : ℕ → Leg → Bool). ChargedPay p over points allowed old spans) same is.paid);
        }
