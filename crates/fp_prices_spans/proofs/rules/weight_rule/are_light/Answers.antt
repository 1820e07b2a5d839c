use Rattle.std.proofs.Common.{◌≡◌, ℕ, ◌+◌, ◌<◌, ◌≤◌, length, get_or, take, ap, ◌∙◌, arith}
use Rattle.std.specs.Prelude.{List, sum_by}
use Rattle.std.proofs.lemmas.Bool.{false≢true}
use Rattle.std.proofs.lemmas.List.{get_or_read}
use Rattle.std.proofs.lemmas.List.Sums.{sum_by-take-le, sum_by_more}
use Rattle.fp_prices.specs.declared.tables.Weight.{Weight}
use Rattle.fp_prices_spans.specs.Spans.{ClassSpan}
use Rattle.fp_prices_spans.specs.SpanLists.{no_span, weight_total}
use Rattle.fp_prices_spans.proofs.rules.weight_rule.are_light.Goals as goal

pub returns-in-None : goal.returns-in-None
returns-in-None c =
    let spans : List ClassSpan = c.args.spans.now in
    let i : ℕ = c.loop-span.span-index in
    let inside : i < length spans = omega arith in
    let sum : List Weight → ℕ = sum_by (λ (w : Weight). w.w) in
    let weights : sum c.deref.result.now ≡ sum (get_or spans i no_span).weights =
    ap sum (c.deref.ensures.value ∙ ap (λ (s : ClassSpan). s.weights) c.span.view_is) ∙ ap (λ (s : ClassSpan). sum s.weights) (get_or_read spans i c.span-item.result inside c.span-item.is no_span) in
    let more : weight_total (take (i + 1) spans) ≡ weight_total (take i spans) + sum (get_or spans i no_span).weights = sum_by_more (λ (s : ClassSpan). sum s.weights) spans i no_span inside in
    let part : weight_total (take (i + 1) spans) ≤ weight_total spans = sum_by-take-le (λ (s : ClassSpan). sum s.weights) spans (i + 1) in
    (λ no. absurd (false≢true no), λ light. absurd (omega (arith, light, weights, more, part, c.in-None.ensures, c.loop-span.invariant)))

pub loop-span-preserved : goal.loop-span-preserved
loop-span-preserved c =
    let spans : List ClassSpan = c.args.spans.now in
    let i : ℕ = c.loop-span.span-index in
    let inside : i < length spans = omega arith in
    let sum : List Weight → ℕ = sum_by (λ (w : Weight). w.w) in
    let weights : sum c.deref.result.now ≡ sum (get_or spans i no_span).weights =
    ap sum (c.deref.ensures.value ∙ ap (λ (s : ClassSpan). s.weights) c.span.view_is) ∙ ap (λ (s : ClassSpan). sum s.weights) (get_or_read spans i c.span-item.result inside c.span-item.is no_span) in
    let more : weight_total (take (i + 1) spans) ≡ weight_total (take i spans) + sum (get_or spans i no_span).weights = sum_by_more (λ (s : ClassSpan). sum s.weights) spans i no_span inside in
    omega (arith, weights, more, c.in-Some.ensures, c.loop-span.invariant)
