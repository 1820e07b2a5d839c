use Rattle.std.proofs.Common.{◌++◌, ◌∷◌, [], List, set, length, sym, ap, subst, arith}
use Rattle.std.proofs.lemmas.List.{length_push}
use Rattle.fp_yard.specs.declared.events.Event.{Event}
use Rattle.fp_yard.specs.declared.events.LineStage.{LineStage}
use Rattle.fp_yard.specs.Events.{IsAllowed}
use Rattle.fp_yard.specs.Models.{YardModel}
use Rattle.fp_yard.specs.Schedules.{Schedule}
use Rattle.fp_yard.specs.Yards.{IsRun}
use Rattle.fp_yard.proofs.Runs.{IsRun-more, room-left}
use Rattle.fp_yard.proofs.yards.Yard.step.Goals as goal

pub push_reserved-requires : goal.push_reserved-requires
push_reserved-requires c =
    let s : Schedule = c.self.inside.sheets in
    let stages : List LineStage = c.self.inside.stages.items in
    let h : List Event = c.self.inside.history.items in
    let run = c.self.invariant.run in
    let allowed : IsAllowed s h c.args.event = subst (λ (x : YardModel). IsAllowed x.schedule x.history c.args.event) (sym c.self.view_is) c.requires in
    omega (arith, room-left s stages h c.args.event run allowed, c.self.invariant.room)

pub invariant_of-self : goal.invariant_of-self
invariant_of-self c =
    let s : Schedule = c.self.inside.sheets in
    let stages : List LineStage = c.self.inside.stages.items in
    let h : List Event = c.self.inside.history.items in
    let run = c.self.invariant.run in
    let allowed : IsAllowed s h c.args.event = subst (λ (x : YardModel). IsAllowed x.schedule x.history c.args.event) (sym c.self.view_is) c.requires in
    record {
      run =
          subst (λ (xs : List Event). IsRun s (set stages c.args.event.line c.stage_after.result) xs) (sym c.push_reserved.ensures.events)
          (subst (λ (stage : LineStage). IsRun s (set stages c.args.event.line stage) (h ++ c.args.event ∷ [])) (sym c.stage_after.ensures) (IsRun-more s stages h c.args.event run allowed));
      room = omega (arith, c.push_reserved.ensures.room, c.self.invariant.room);
    }

pub returns-clause-within : goal.returns-clause-within
returns-clause-within c =
    let s : Schedule = c.self.inside.sheets in
    let stages : List LineStage = c.self.inside.stages.items in
    let h : List Event = c.self.inside.history.items in
    let run = c.self.invariant.run in
    let allowed : IsAllowed s h c.args.event = subst (λ (x : YardModel). IsAllowed x.schedule x.history c.args.event) (sym c.self.view_is) c.requires in
    omega (arith, room-left s stages h c.args.event run allowed, length_push h c.args.event, ap (λ (xs : List Event). length xs) c.push_reserved.ensures.events)
