-- What the spans take off, span by span.
use Rattle.std.proofs.Common.{◌≡◌, ℕ, ◌+◌, ◌-◌, ◌<◌, List, [], ◌∷◌, ◌++◌, length, get_or, take, inl, inr, refl, sym, subst, arith}
use Rattle.std.specs.List.{AllZip}
use Rattle.std.proofs.lemmas.List.{take_more}
use Rattle.std.proofs.lemmas.List.Sums.{sum_by_push}
use Rattle.std.proofs.lemmas.Slice.Zip.{all_zipped_more}
use Rattle.fp_model.specs.declared.parts.Leg.{Leg}
use Rattle.fp_prices.specs.LeafPricings.{PricingModel, allowed_at}
use Rattle.fp_prices_spans.specs.SpanCosts.{IsAfterCharges}
use Rattle.fp_prices_spans.specs.SpanLeaves.{IsChargeOf, IsCharged}
use Rattle.fp_prices_spans.specs.SpanLists.{no_span}
use Rattle.fp_prices_spans.specs.Spans.{ClassSpan}

module _ (m : PricingModel) (spans : List ClassSpan) (chains : List (List Leg)) (value : ℕ) where
  pub charges-none : IsAfterCharges m [] chains value value
  charges-none = record { charges = []; are = tt; is = omega arith }

  module _ (i left : ℕ) (inside : i < length spans) (so_far : IsAfterCharges m (take i spans) chains value left) where
    -- one more span takes so much off
    more : (n : ℕ) → IsChargeOf m.leaf.setting.problem (allowed_at m.leaf) chains (get_or spans i no_span) n → IsAfterCharges m (take (i + 1) spans) chains value (left - n)
    more n is = record {
      charges = so_far.charges ++ (n ∷ []);
      are = subst (λ (l : List ClassSpan). AllZip (IsChargeOf m.leaf.setting.problem (allowed_at m.leaf) chains) l (so_far.charges ++ (n ∷ []))) (sym (take_more spans i no_span inside))
          (all_zipped_more (IsChargeOf m.leaf.setting.problem (allowed_at m.leaf) chains) (take i spans) so_far.charges (get_or spans i no_span) n so_far.are is);
      is = omega (arith, so_far.is, sum_by_push (λ (j : ℕ). j) so_far.charges n);
    }

    pub charges-taken : IsCharged m.leaf.setting.problem (allowed_at m.leaf) chains (get_or spans i no_span) → IsAfterCharges m (take (i + 1) spans) chains value (left - (get_or spans i no_span).charge)
    charges-taken charged = more (get_or spans i no_span).charge (inl (charged, refl))

    pub charges-kept : (IsCharged m.leaf.setting.problem (allowed_at m.leaf) chains (get_or spans i no_span) → ⊥) → IsAfterCharges m (take (i + 1) spans) chains value left
    charges-kept uncharged =
        let same : left - 0 ≡ left = omega arith in
        subst (IsAfterCharges m (take (i + 1) spans) chains value) same (more 0 (inr (uncharged, refl)))
