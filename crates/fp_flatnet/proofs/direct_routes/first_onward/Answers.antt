use Rattle.std.proofs.Common.{sym, ◌∙◌}
use Rattle.std.proofs.lemmas.Bool.{false≢true}
use Rattle.fp_model.specs.Problem.{arc_at}
use Rattle.fp_flatnet.proofs.FirstArcs.{below-there, below-found, below-none}
use Rattle.fp_flatnet.proofs.direct_routes.first_onward.Goals as goal

pub returns-then-is_some : goal.returns-then-is_some
returns-then-is_some c =
    let p = c.args.instance.now in
    below-there p c.args.there c.args.number (arc_at p c.args.number).from c.args.earlier (sym c.is_some.ensures ∙ c.if-is_some.true) c.requires.earlier

pub returns-then-begins_least : goal.returns-then-begins_least
returns-then-begins_least c =
    let p = c.args.instance.now in
    below-found p c.args.there c.args.number (arc_at p c.args.number).from c.args.earlier (sym c.is_some.ensures ∙ c.if-is_some.false) c.requires.earlier
    (c.begins_least.ensures.begins.0 c.if-begins_least.true)

pub returns : goal.returns
returns c =
    let p = c.args.instance.now in
    below-none p c.args.there c.args.number (arc_at p c.args.number).from c.args.earlier (sym c.is_some.ensures ∙ c.if-is_some.false) c.requires.earlier
    (λ begins. false≢true (sym c.if-begins_least.false ∙ c.begins_least.ensures.begins.1 begins))
