use Rattle.std.proofs.Common.{◌≡◌, ℕ, ◌<◌, ◌≤◌, List, Option, length, get_or, refl, ap, ◌∙◌, subst, arith}
use Rattle.std.proofs.lemmas.Bool.{false≢true}
use Rattle.fp_model.specs.declared.parts.Arc.{Arc}
use Rattle.fp_model.specs.Problem.{Problem, arc_at}
use Rattle.fp_flatnet.specs.declared.window_tables.Window.{Window}
use Rattle.fp_flatnet.specs.Tables.{windows_in}
use Rattle.fp_timenodes.specs.Points.{points_at}
use Rattle.fp_prices_spans.specs.declared.rules.moment_runs.MomentRun.{MomentRun}
use Rattle.fp_prices_spans.specs.MomentRuns.{end_of, group_weights, runs_of}
use Rattle.fp_prices_spans.specs.SpanCharges.{ChargePays, items_of}
use Rattle.fp_prices_spans.specs.Spans.{ClassSpan}
use Rattle.fp_prices_spans.proofs.ChargeParts.{IsRestOf, no_run, off-all, off-more, off-over, rest-told, run-told}
use Rattle.fp_prices_spans.proofs.RunPlaces.{length-runs}
use Rattle.fp_prices_spans.proofs.rules.charge_rule.ChargeTest.pays.Goals as goal

pub returns-in-None : goal.returns-in-None
returns-in-None c =
    let p : Problem = c.args.instance.now in
    let windows : ℕ → ℕ → Option Window = windows_in c.args.windows.now in
    let first : ℕ → List ℕ = λ terminal. points_at c.args.points.now terminal c.args.round in
    let span : ClassSpan = c.args.span.now in
    let run : MomentRun = c.run_at-run.result in
    let i : ℕ = c.loop-number.number in
    let groups : c.deref.result.now ≡ span.groups = c.deref.ensures.value ∙ ap (λ (s : ClassSpan). s.groups) c.span.view_is in
    let inside : i < length (runs_of p first span) =
    omega (
      arith,
      c.loop-number-test.true,
      c.len-number-end.ensures,
      c.deref.ensures.len,
      ap (λ (l : List ℕ). length l) groups,
      length-runs span.point span.groups (end_of p first span),
    ) in
    let is_run : get_or (runs_of p first span) i no_run ≡ run =
    run-told p first span c.span.inside.point c.deref.result.now c.span_end-end.result i run (ap (λ (s : ClassSpan). s.point) c.span.view_is) groups c.span_end-end.ensures (c.run_at-run.ensures no_run) in
    let filled : c.fill_items.new.items.items ≡ items_of p (group_weights windows span run) = c.in_ok-fill_items.ensures in
    let rest : IsRestOf p windows span run c.loop-number.left c.in_ok-rest.field-0 =
    rest-told p windows span run c.loop-number.left c.in_ok-rest.field-0 c.deref-in-loop-number.result.now c.arc-capacity.result.capacity c.span.inside.money (c.deref-in-loop-number.ensures.value ∙ filled)
    (ap (λ (a : Arc). a.capacity) c.arc-capacity.ensures.same ∙ ap (λ (s : ClassSpan). (arc_at p s.arc).capacity) c.span.view_is) (ap (λ (s : ClassSpan). s.money) c.span.view_is) c.in_ok-rest.ensures in
    let over : ChargePays p windows first span → ⊥ =
    off-over p windows first span i c.loop-number.left inside c.loop-number.invariant run is_run (subst (IsRestOf p windows span run c.loop-number.left) c.in-None.is rest) in
    (λ h. absurd (false≢true h), λ pays. absurd (over pays))

pub loop-number-preserved : goal.loop-number-preserved
loop-number-preserved c =
    let p : Problem = c.args.instance.now in
    let windows : ℕ → ℕ → Option Window = windows_in c.args.windows.now in
    let first : ℕ → List ℕ = λ terminal. points_at c.args.points.now terminal c.args.round in
    let span : ClassSpan = c.args.span.now in
    let run : MomentRun = c.run_at-run.result in
    let i : ℕ = c.loop-number.number in
    let groups : c.deref.result.now ≡ span.groups = c.deref.ensures.value ∙ ap (λ (s : ClassSpan). s.groups) c.span.view_is in
    let inside : i < length (runs_of p first span) =
    omega (
      arith,
      c.loop-number-test.true,
      c.len-number-end.ensures,
      c.deref.ensures.len,
      ap (λ (l : List ℕ). length l) groups,
      length-runs span.point span.groups (end_of p first span),
    ) in
    let is_run : get_or (runs_of p first span) i no_run ≡ run =
    run-told p first span c.span.inside.point c.deref.result.now c.span_end-end.result i run (ap (λ (s : ClassSpan). s.point) c.span.view_is) groups c.span_end-end.ensures (c.run_at-run.ensures no_run) in
    let filled : c.fill_items.new.items.items ≡ items_of p (group_weights windows span run) = c.in_ok-fill_items.ensures in
    let rest : IsRestOf p windows span run c.loop-number.left c.in_ok-rest.field-0 =
    rest-told p windows span run c.loop-number.left c.in_ok-rest.field-0 c.deref-in-loop-number.result.now c.arc-capacity.result.capacity c.span.inside.money (c.deref-in-loop-number.ensures.value ∙ filled)
    (ap (λ (a : Arc). a.capacity) c.arc-capacity.ensures.same ∙ ap (λ (s : ClassSpan). (arc_at p s.arc).capacity) c.span.view_is) (ap (λ (s : ClassSpan). s.money) c.span.view_is) c.in_ok-rest.ensures in
    off-more p windows first span i c.loop-number.left inside c.loop-number.invariant run is_run c.in-Some.rest (subst (IsRestOf p windows span run c.loop-number.left) c.in-Some.is rest)

pub returns : goal.returns
returns c =
    let p : Problem = c.args.instance.now in
    let first : ℕ → List ℕ = λ terminal. points_at c.args.points.now terminal c.args.round in
    let span : ClassSpan = c.args.span.now in
    let all : length (runs_of p first span) ≤ c.loop-number.number =
    omega (
      arith,
      c.loop-number-test.false,
      c.len-number-end.ensures,
      c.span.inside.groups.ok,
      ap (λ (s : ClassSpan). length s.groups) c.span.view_is,
      length-runs span.point span.groups (end_of p first span),
    ) in
    (λ _. off-all p (windows_in c.args.windows.now) first span c.loop-number.number c.loop-number.left all c.loop-number.invariant, λ _. refl)
