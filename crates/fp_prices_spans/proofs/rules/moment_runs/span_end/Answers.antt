use Rattle.std.proofs.Common.{◌≡◌, ℕ, suc, List, Some, ◌∙◌, ap, sym, subst, arith}
use Rattle.fp_model.specs.declared.parts.Arc.{Arc}
use Rattle.fp_model.specs.Problem.{arc_at}
use Rattle.fp_timenodes.specs.Floor.{next_point}
use Rattle.fp_timenodes.specs.Points.{points_at}
use Rattle.fp_timenodes.proofs.TimelinePoints.{list_has-zero}
use Rattle.fp_prices_spans.specs.MomentRuns.{end_of, first_from}
use Rattle.fp_prices_spans.specs.Spans.{ClassSpan}
use Rattle.fp_prices_spans.proofs.SpanMoments.{first_from-next, first_from-zero}
use Rattle.fp_prices_spans.proofs.rules.moment_runs.span_end.Goals as goal

pub returns-in-Some : goal.returns-in-Some
returns-in-Some c =
    let first : ℕ → List ℕ = λ terminal. points_at c.args.points.now terminal c.args.round in
    let qs : List ℕ = first (arc_at c.args.instance.now c.span.inside.arc).from in
    let until : suc c.in-Some.last ≡ c.span.inside.until = omega (arith, c.in-Some.ensures.0, c.in-Some.ensures.1) in
    subst (λ (s : ClassSpan). c.next.result ≡ end_of c.args.instance.now first s) c.span.view_is
    (c.next.ensures.value ∙ ap (λ (a : Arc). next_point (first a.from) c.in-Some.last) c.arc-tail.ensures.same ∙ sym (first_from-next qs c.in-Some.last) ∙ ap (first_from qs) until)

pub returns-in-None : goal.returns-in-None
returns-in-None c =
    let first : ℕ → List ℕ = λ terminal. points_at c.args.points.now terminal c.args.round in
    let tail : ℕ = (arc_at c.args.instance.now c.span.inside.arc).from in
    let none : 0 ≡ c.span.inside.until = omega (arith, c.in-None.ensures) in
    subst (λ (s : ClassSpan). Some 0 ≡ end_of c.args.instance.now first s) c.span.view_is
    (sym (first_from-zero (first tail) (list_has-zero c.args.points.now tail c.args.round)) ∙ ap (first_from (first tail)) none)
