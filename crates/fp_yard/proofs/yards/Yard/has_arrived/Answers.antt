use Rattle.std.proofs.Common.{◌≡◌, ◌∙◌, ◌<◌, length, refl, sym, subst, arith}
use Rattle.std.proofs.lemmas.List.{get_or_default}
use Rattle.fp_yard.specs.declared.events.LineStage.TheVariants.{Waiting}
use Rattle.fp_yard.specs.Events.{arrived}
use Rattle.fp_yard.specs.Models.{YardModel}
use Rattle.fp_yard.proofs.Missing.{arrived-stage}
use Rattle.fp_yard.proofs.yards.Yard.has_arrived.Goals as goal

pub returns : goal.returns
returns c =
    let i = c.self.inside in
    let run = c.self.invariant.run in
    let exists : c.args.line < length i.sheets.tails = subst (λ (x : YardModel). c.args.line < length x.schedule.tails) (sym c.self.view_is) c.requires in
    let stage = sym (run.told c.args.line exists) ∙ get_or_default i.stages.items c.args.line Waiting c.index.result.now (omega (arith, exists, run.long)) ∙ sym c.index.ensures in
    c.is_done.ensures ∙ sym (arrived-stage i.history.items c.args.line c.index.result.now stage)
    ∙ subst (λ (x : YardModel). arrived i.history.items c.args.line ≡ arrived x.history c.args.line) c.self.view_is refl
