use Rattle.std.proofs.Common.{◌≡◌, ℕ, ◌<◌, List, length, get_or, refl, sym, ◌∙◌, subst, arith}
use Rattle.std.specs.Prelude.{All}
use Rattle.std.proofs.lemmas.Bool.{both_ways, false≢true}
use Rattle.std.proofs.lemmas.List.{get_or_read, take_all}
use Rattle.std.proofs.lemmas.List.Elements.{All-more, recursion_from_All}
use Rattle.fp_base_lists.proofs.Elements.{AllByRecursion-get_or}
use Rattle.fp_prices_spans.specs.SpanLists.{no_span}
use Rattle.fp_prices_spans.specs.Spans.{ClassSpan}
use Rattle.fp_prices_spans.proofs.PaidLeaves.{PaysWhereCharged, charged-told, pays-told}
use Rattle.fp_prices_spans.proofs.values.paid_leaves.charged_pay.Goals as goal
use Rattle.fp_prices_spans.proofs.values.paid_leaves.charged_pay.Goals.{else-is_charged-via-then-is_charged+in_ok-pays+else-not-branch, else-is_charged-via-else-is_charged}

pub returns-then-not-branch : goal.returns-then-not-branch
returns-then-not-branch c chains are = (
  λ no. absurd (false≢true no),
  λ pay.
      let leaf = c.args.leaf.now in
      let spans : List ClassSpan = c.args.spans.now in
      let i : ℕ = c.loop-span.span-index in
      let Pays : ClassSpan → Type 0 = PaysWhereCharged leaf c.args.points.now c.args.round chains in
      let inside : i < length spans = omega arith in
      let span_is : c.span-item.result ≡ get_or spans i no_span = get_or_read spans i c.span-item.result inside c.span-item.is no_span in
      let asked : Pays c.span-item.result = subst Pays (sym span_is) (AllByRecursion-get_or Pays spans i no_span pay inside) in
      let charged = charged-told c.in_ok-pricing.pricing leaf c.args.forced c.span-item.result c.is_charged.result c.in_ok-pricing.ensures.is c.is_charged.ensures chains are in
      let pays = pays-told leaf c.args.points.now c.args.round c.span-item.result c.in_ok-pays.field-0 c.instance-instance.result.now c.windows-windows.result.now
      (c.instance-instance.ensures.same ∙ c.round.ensures.problem) c.windows-windows.ensures.same c.in_ok-pays.ensures in
      absurd (both_ways c.in_ok-pays.field-0 c.if-not-branch.true (pays.1 (asked (charged.0 c.if-is_charged.true)))),
)

pub loop-span-preserved : goal.loop-span-preserved
loop-span-preserved c chains are =
    let leaf = c.args.leaf.now in
    let spans : List ClassSpan = c.args.spans.now in
    let i : ℕ = c.loop-span.span-index in
    let Pays : ClassSpan → Type 0 = PaysWhereCharged leaf c.args.points.now c.args.round chains in
    let inside : i < length spans = omega arith in
    let span_is : c.span-item.result ≡ get_or spans i no_span = get_or_read spans i c.span-item.result inside c.span-item.is no_span in
    let charged = charged-told c.in_ok-pricing.pricing leaf c.args.forced c.span-item.result c.is_charged.result c.in_ok-pricing.ensures.is c.is_charged.ensures chains are in
    let here : Pays c.span-item.result = elim c.else-is_charged.branch as (λ _. Pays c.span-item.result) [
      | else-is_charged-via-then-is_charged+in_ok-pays+else-not-branch w ↦
          λ _.
          (pays-told leaf c.args.points.now c.args.round c.span-item.result w.in_ok-pays.field-0 c.instance-instance.result.now c.windows-windows.result.now
          (c.instance-instance.ensures.same ∙ c.round.ensures.problem) c.windows-windows.ensures.same w.in_ok-pays.ensures).0
          w.if-not-branch.false
      | else-is_charged-via-else-is_charged w ↦ λ is. absurd (both_ways c.is_charged.result w.if-is_charged.false (charged.1 is))
    ] in
    All-more Pays spans i no_span inside (c.loop-span.invariant chains are) (subst Pays span_is here)

pub returns : goal.returns
returns c chains are =
    let spans : List ClassSpan = c.args.spans.now in
    let Pays : ClassSpan → Type 0 = PaysWhereCharged c.args.leaf.now c.args.points.now c.args.round chains in
    (λ _. recursion_from_All Pays spans (subst (All Pays) (take_all c.loop-span.span-index spans (omega arith)) (c.loop-span.invariant chains are)), λ _. refl)
