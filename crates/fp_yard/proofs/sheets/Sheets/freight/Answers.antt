use Rattle.std.proofs.Common.{◌∙◌, ◌<◌, List, length, sym, ap, subst, arith}
use Rattle.std.specs.declared.alloc.Global.{Global}
use Rattle.std.specs.declared.vec.Vec.{Vec}
use Rattle.fp_base_lists.proofs.Maps.{lists_of-get_or}
use Rattle.fp_model.specs.declared.parts.Member.{Member}
use Rattle.fp_yard.specs.Layout.{schedule_in}
use Rattle.fp_yard.specs.Schedules.{IsFreightOf, Schedule}
use Rattle.fp_yard.proofs.sheets.Sheets.freight.Goals as goal

pub returns-clause-freight : goal.returns-clause-freight
returns-clause-freight c =
    let i = c.self.inside in
    let lt : c.args.line < length i.tails.items = subst (λ (s : Schedule). c.args.line < length s.tails) (sym c.self.view_is) c.requires in
    let within : c.args.line < length i.freight.items = omega (arith, lt, c.self.invariant.count) in
    let same = lists_of-get_or i.freight.items c.args.line c.index.result.now within ∙ ap (λ (v : Vec Member Global). v.items) (sym c.index.ensures) ∙ sym c.deref.ensures.value in
    subst (λ (s : Schedule). IsFreightOf s c.args.line c.deref.result.now) c.self.view_is
    (subst (λ (ms : List Member). IsFreightOf (schedule_in i) c.args.line ms) same (c.self.invariant.freight c.args.line lt))
