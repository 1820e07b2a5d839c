use Rattle.std.proofs.Common.{sym, subst}
use Rattle.std.specs.Prelude.{IfOk}
use Rattle.fp_model.specs.Problem.{Problem}
use Rattle.fp_flatnet.specs.Belonging.{FitsInstance}
use Rattle.fp_flatnet.specs.Tables.{windows_in}
use Rattle.fp_longestarcs.specs.Networks.{points_in}
use Rattle.fp_prices.specs.Rounds.{LeafModel}
use Rattle.fp_prices.specs.Tables.{AreTables}
use Rattle.fp_prices.proofs.LeafBounds.{leaf-is}
use Rattle.fp_prices_spans.specs.SpanLeaves.{IsSpanBoundOf}
use Rattle.fp_prices_spans.specs.SpanLists.{AreSpans}
use Rattle.fp_prices_spans.proofs.SameSpanValues.{span_bound-as_of}
use Rattle.fp_prices_spans.proofs.values.rounds.span_bound_of.Goals as goal

pub of-requires-2 : goal.of-requires-2
of-requires-2 c =
    subst (λ (p : Problem). FitsInstance p c.args.windows.now) (sym c.in_ok-network.ensures.instance) c.requires.fits

pub span_bound-requires-clause-tables : goal.span_bound-requires-clause-tables
span_bound-requires-clause-tables c =
    let is = leaf-is c.args.instance.now c.args.windows.now c.args.sides.now c.in_ok-network.network c.in_ok-leaf.leaf c.in_ok-network.ensures.instance c.in_ok-leaf.ensures.setting c.in_ok-leaf.ensures.sides in
    subst (λ (l : LeafModel). AreTables l.setting.problem c.args.tables.now) (sym is) c.requires.prices.are_tables

pub span_bound-requires-clause-kind : goal.span_bound-requires-clause-kind
span_bound-requires-clause-kind c = c.requires.prices.has_kind

pub span_bound-requires-clause-spans : goal.span_bound-requires-clause-spans
span_bound-requires-clause-spans c =
    let is = leaf-is c.args.instance.now c.args.windows.now c.args.sides.now c.in_ok-network.network c.in_ok-leaf.leaf c.in_ok-network.ensures.instance c.in_ok-leaf.ensures.setting c.in_ok-leaf.ensures.sides in
    subst (λ (l : LeafModel). AreSpans l.setting.problem c.args.spans.now) (sym is) c.requires.prices.are_spans

pub returns-clause-exact : goal.returns-clause-exact
returns-clause-exact c =
    let p = c.args.instance.now in
    let is = leaf-is p c.args.windows.now c.args.sides.now c.in_ok-network.network c.in_ok-leaf.leaf c.in_ok-network.ensures.instance c.in_ok-leaf.ensures.setting c.in_ok-leaf.ensures.sides in
    span_bound-as_of p c.requires.fits.valid (windows_in c.args.windows.now) c.args.points.now c.args.price.round c.in_ok-network.network.network c.in_ok-network.ensures.network c.args.sides.now c.args.tables.now c.args.spans.now c.args.price.kind
    c.args.price.forced c.span_bound.result
    (subst (λ (l : LeafModel). IfOk c.span_bound.result (IsSpanBoundOf l.setting.problem (windows_in l.setting.windows) (points_in l.setting.network) l.sides c.args.tables.now c.args.spans.now c.args.price.kind c.args.price.forced)) is c.span_bound.ensures.exact)

pub returns-clause-small : goal.returns-clause-small
returns-clause-small c = c.span_bound.ensures.small
