use Rattle.std.proofs.Common.{ℕ, ◌≡◌, ◌*◌, ap, ◌∙◌, arith}
use Rattle.std.specs.Prelude.{sum_by}
use Rattle.fp_model.specs.declared.parts.Arc.{Arc}
use Rattle.fp_model.specs.Problem.{arc_at}
use Rattle.fp_prices.specs.declared.tables.Weight.{Weight}
use Rattle.fp_prices.specs.Shares.{ClassShare}
use Rattle.fp_prices.proofs.price_rule.keeps_rule.Goals as goal

pub returns-then-paid-limit : goal.returns-then-paid-limit
returns-then-paid-limit c =
    let p = c.args.instance.now in
    let share = c.args.share.now in
    let view = c.share.view_is in
    let same : c.arc-arc.result ≡ arc_at p share.arc = c.arc-arc.ensures.same ∙ ap (λ (s : ClassShare). arc_at p s.arc) view in
    let total : sum_by (λ (w : Weight). w.w) c.deref.result.now ≡ sum_by (λ (w : Weight). w.w) share.weights =
    ap (sum_by (λ (w : Weight). w.w)) (c.deref.ensures.value ∙ ap (λ (s : ClassShare). s.weights) view) in
    let paid : c.in-Some.paid ≡ (arc_at p share.arc).capacity * share.v =
    c.in-Some.ensures.1 ∙ ap (λ (n : ℕ). n * c.share.inside.v) (c.from-3.ensures ∙ ap (λ (a : Arc). a.capacity) same) ∙ ap (λ (s : ClassShare). (arc_at p share.arc).capacity * s.v) view in
    let limit : c.from.result * c.from-2.result ≡ p.scale * (arc_at p share.arc).truck =
    ap (λ (n : ℕ). n * c.from-2.result) (c.from.ensures ∙ c.scale.ensures.same) ∙ ap (λ (n : ℕ). p.scale * n) (c.from-2.ensures ∙ ap (λ (a : Arc). a.truck) same) in
    (λ yes. omega (arith, c.are_within.ensures.0 yes, total, paid, limit, c.if-paid-limit.true), λ keeps. c.are_within.ensures.1 (omega (arith, keeps, total, paid, limit)))
