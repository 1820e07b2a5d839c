use Rattle.std.proofs.Common.{◌≡◌, ◌∙◌, ◌<◌, ℕ, List, get_or, ⊎_elim, refl, sym, ap, subst, arith}
use Rattle.std.proofs.Math.Nat.{eq-or-lt_of_le}
use Rattle.std.proofs.lemmas.Bool.{false≢true}
use Rattle.std.proofs.lemmas.List.{get_or_default}
use Rattle.fp_model.specs.declared.parts.Member.{Member}
use Rattle.fp_yard.specs.Events.{IsLegal}
use Rattle.fp_yard.specs.Models.{YardModel}
use Rattle.fp_yard.specs.Schedules.{IsFreightOf, IsSound}
use Rattle.fp_yard.specs.Yards.{HasCome}
use Rattle.fp_yard.proofs.Missing.{can-all_come, missing-first}
use Rattle.fp_yard.proofs.yards.Yard.missing.Goals as goal

-- stands for no leg
abbrev no_member : Member
no_member = record { shipment = 0; leg = 0 }

pub returns-then-not-has_come : goal.returns-then-not-has_come
returns-then-not-has_come c =
    let y : YardModel = c.args.self.now in
    let sound : IsSound y.schedule = subst (λ (x : YardModel). IsSound x.schedule) c.self.view_is c.self.invariant.run.sound in
    let legal : IsLegal y.schedule y.history = subst (λ (x : YardModel). IsLegal x.schedule x.history) c.self.view_is c.self.invariant.run.legal in
    let members : List Member = c.freight-leg-items.result.now in
    let are : IsFreightOf y.schedule c.args.line members = subst (λ (x : YardModel). IsFreightOf x.schedule c.args.line members) c.self.view_is c.freight-leg-items.ensures.freight in
    missing-first y.schedule y.history c.args.line members c.loop-leg.leg-index no_member sound legal c.requires.exists c.requires.waiting are c.loop-leg-test.true
    (λ j less. c.loop-leg.invariant j no_member less) (λ come. false≢true (c.if-not-has_come.ensures.1 come))

pub loop-leg-preserved : goal.loop-leg-preserved
loop-leg-preserved c k d lt =
    let y : YardModel = c.args.self.now in
    let members : List Member = c.freight-leg-items.result.now in
    ⊎_elim
    (λ (same : k ≡ c.loop-leg.leg-index).
    subst (HasCome y.schedule y.history)
    (get_or_default members c.loop-leg.leg-index no_member d c.loop-leg-test.true ∙ ap (λ (n : ℕ). get_or members n d) (sym same))
    (c.if-not-has_come.ensures.0 refl))
    (λ (less : k < c.loop-leg.leg-index). c.loop-leg.invariant k d less)
    (eq-or-lt_of_le (omega (arith, lt)))

pub returns : goal.returns
returns c =
    let y : YardModel = c.args.self.now in
    let sound : IsSound y.schedule = subst (λ (x : YardModel). IsSound x.schedule) c.self.view_is c.self.invariant.run.sound in
    let legal : IsLegal y.schedule y.history = subst (λ (x : YardModel). IsLegal x.schedule x.history) c.self.view_is c.self.invariant.run.legal in
    let members : List Member = c.freight-leg-items.result.now in
    let are : IsFreightOf y.schedule c.args.line members = subst (λ (x : YardModel). IsFreightOf x.schedule c.args.line members) c.self.view_is c.freight-leg-items.ensures.freight in
    can-all_come y.schedule y.history c.args.line members c.requires.exists c.requires.waiting are (λ j d lt. c.loop-leg.invariant j d (omega (arith, lt, c.loop-leg-test.false)))
