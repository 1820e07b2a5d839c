use Rattle.std.proofs.Common.{◌≡◌, ◌∙◌, ◌+◌, ◌<◌, List, [], length, sym, ap, ap₂, subst, arith, rules}
use Rattle.std.proofs.lemmas.List.{get_or_default, length_push, nil_from_length}
use Rattle.fp_reader.specs.Draws.{drawn, next_number}
use Rattle.fp_yard.specs.declared.events.Event.{Event}
use Rattle.fp_yard.specs.Choices.{IsChosen, number_after}
use Rattle.fp_yard.specs.Events.{AreEnabled, event_at, no_event}
use Rattle.fp_yard.specs.Models.{YardModel}
use Rattle.fp_yard.specs.Schedules.{Schedule}
use Rattle.fp_yard.proofs.AllowedEvents.{IsChosen-more, all-few, none-listed, number-more}
use Rattle.fp_yard.proofs.driving.drive.Goals as goal

pub turns-preserved : goal.turns-preserved
turns-preserved c =
    let s : Schedule = c.turns.yard.schedule in
    let h : List Event = c.turns.yard.history in
    let events : List Event = c.turns.events.items in
    let len : c.len.result ≡ length events = omega (arith, c.len.ensures, c.turns.events.ok) in
    let lt : c.draw-place.result < length events = omega (arith, c.draw-place.ensures.below, len) in
    let e : Event = c.index.result.now in
    let long : length c.step.new.self.history ≡ length h + 1 = ap (λ (y : YardModel). length y.history) c.step.ensures.history ∙ length_push h e in
    let same : c.step.new.self.schedule ≡ s = ap (λ (y : YardModel). y.schedule) c.step.ensures.history in
    let place : c.draw-place.result ≡ drawn (number_after c.args.seed (length h)) (length events) = c.draw-place.ensures.drawn ∙ ap₂ drawn c.turns.invariant.number len in
    let is : e ≡ event_at events (drawn (number_after c.args.seed (length h)) (length events)) =
    c.index.ensures ∙ get_or_default events c.draw-place.result e no_event lt ∙ ap (event_at events) place in
    let after : AreEnabled c.step.new.self.schedule c.step.new.self.history c.advance.new.events.items = c.in_ok-advance.ensures in
    record {
      schedule = same ∙ c.turns.invariant.schedule;
      chosen =
          subst (λ (y : YardModel). IsChosen y.schedule c.args.seed y.history) (sym c.step.ensures.history)
          (IsChosen-more s c.args.seed h events e c.turns.invariant.chosen c.turns.invariant.enabled (omega (arith, lt)) is);
      number = c.draw-place.ensures.next ∙ ap next_number c.turns.invariant.number ∙ sym (number-more c.args.seed (length h)) ∙ ap (number_after c.args.seed) (sym long);
      within = c.step.ensures.within;
      legal = c.step.ensures.legal;
      few = omega (arith, c.step.ensures.few, all-few c.step.new.self.schedule c.step.new.self.history c.advance.new.events.items after);
      enabled = after;
    }

pub returns-then-is_empty-clause-ended : goal.returns-then-is_empty-clause-ended
returns-then-is_empty-clause-ended c =
    let s : Schedule = c.turns.yard.schedule in
    let h : List Event = c.turns.yard.history in
    let empty : c.turns.events.items ≡ [] = nil_from_length c.turns.events.items (search rules) in
    none-listed s h (subst (AreEnabled s h) empty c.turns.invariant.enabled)
