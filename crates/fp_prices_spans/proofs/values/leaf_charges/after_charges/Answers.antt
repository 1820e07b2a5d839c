use Rattle.std.proofs.Common.{◌≡◌, ℕ, ◌+◌, ◌-◌, ◌<◌, List, length, get_or, take, sym, ap, ◌∙◌, subst, arith}
use Rattle.std.proofs.lemmas.Bool.{both_ways}
use Rattle.std.proofs.lemmas.List.{get_or_read, take_all}
use Rattle.fp_prices.specs.LeafPricings.{allowed_at}
use Rattle.fp_prices_spans.specs.SpanCosts.{IsAfterCharges}
use Rattle.fp_prices_spans.specs.SpanLeaves.{IsCharged}
use Rattle.fp_prices_spans.specs.SpanLists.{no_span}
use Rattle.fp_prices_spans.specs.Spans.{ClassSpan}
use Rattle.fp_prices_spans.proofs.SpanCharges.{charges-kept, charges-none, charges-taken}
use Rattle.fp_prices_spans.proofs.values.leaf_charges.after_charges.Goals as goal
use Rattle.fp_prices_spans.proofs.values.leaf_charges.after_charges.Goals.{then-is_charged, else-is_charged}

pub loop-span-init : goal.loop-span-init
loop-span-init c = λ chains are. charges-none c.args.pricing.now c.args.spans.now chains c.args.value

pub loop-span-preserved : goal.loop-span-preserved
loop-span-preserved c chains are =
    let m = c.args.pricing.now in
    let spans : List ClassSpan = c.args.spans.now in
    let i : ℕ = c.loop-span.span-index in
    let inside : i < length spans = omega arith in
    let span_is : c.span-item.result ≡ get_or spans i no_span = get_or_read spans i c.span-item.result inside c.span-item.is no_span in
    let so_far : IsAfterCharges m (take i spans) chains c.args.value c.loop-span.left = c.loop-span.invariant chains are in
    elim c.if-is_charged.branch as (λ _. IsAfterCharges m (take (i + 1) spans) chains c.args.value c.if-is_charged.left) [
      | then-is_charged w ↦
          let charge : c.span.inside.charge ≡ (get_or spans i no_span).charge = ap (λ (s : ClassSpan). s.charge) (c.span.view_is ∙ span_is) in
          subst (IsAfterCharges m (take (i + 1) spans) chains c.args.value) (sym (w.left-is ∙ w.saturating_sub-left.ensures ∙ ap (λ (n : ℕ). c.loop-span.left - n) charge))
          (charges-taken m spans chains c.args.value i c.loop-span.left inside so_far (subst (IsCharged m.leaf.setting.problem (allowed_at m.leaf) chains) span_is ((c.is_charged.ensures chains are).0 w.if-is_charged.true)))
      | else-is_charged w ↦
          subst (IsAfterCharges m (take (i + 1) spans) chains c.args.value) (sym w.left-is)
          (charges-kept m spans chains c.args.value i c.loop-span.left inside so_far (λ is.
          both_ways c.is_charged.result w.if-is_charged.false ((c.is_charged.ensures chains are).1 (subst (IsCharged m.leaf.setting.problem (allowed_at m.leaf) chains) (sym span_is) is))))
    ]

pub returns : goal.returns
returns c = λ chains are.
    subst (λ (l : List ClassSpan). IsAfterCharges c.args.pricing.now l chains c.args.value c.loop-span.left) (take_all c.loop-span.span-index c.args.spans.now (omega arith)) (c.loop-span.invariant chains are)
