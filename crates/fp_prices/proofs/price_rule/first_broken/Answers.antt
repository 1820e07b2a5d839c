use Rattle.std.proofs.Common.{◌<◌, length, subst, arith}
use Rattle.std.specs.Prelude.{All, List}
use Rattle.std.proofs.lemmas.List.{take_all}
use Rattle.std.proofs.lemmas.List.Elements.{All-more}
use Rattle.fp_model.specs.Problem.{arc_at}
use Rattle.fp_prices.specs.Prices.{KeepsRule}
use Rattle.fp_prices.specs.Shares.{ClassShare}
use Rattle.fp_prices.proofs.price_rule.first_broken.Goals as goal

pub loop-number-preserved : goal.loop-number-preserved
loop-number-preserved c =
    let p = c.args.instance.now in
    let here : c.loop-number.number < length c.args.shares.now = omega arith in
    let keeps : KeepsRule p.scale (arc_at p c.index-shares-number.result.arc) c.index-shares-number.result = c.keeps_rule.ensures.0 c.if-not-keeps_rule.false in
    All-more (λ (s : ClassShare). KeepsRule p.scale (arc_at p s.arc) s) c.args.shares.now c.loop-number.number c.index-shares-number.result here c.loop-number.invariant
    (subst (λ (s : ClassShare). KeepsRule p.scale (arc_at p s.arc) s) c.index-shares-number.is keeps)

pub returns-clause-none : goal.returns-clause-none
returns-clause-none c =
    let p = c.args.instance.now in
    subst (λ (l : List ClassShare). All (λ (s : ClassShare). KeepsRule p.scale (arc_at p s.arc) s) l) (take_all c.loop-number.number c.args.shares.now (omega arith)) c.loop-number.invariant
