use Rattle.std.proofs.Common.{◌≡◌, subst}
use Rattle.std.specs.Prelude.{Some}
use Rattle.fp_ends.specs.Deadlines.{has_shown}
use Rattle.fp_app_words.specs.TimeLimits.{seconds_of}
use Rattle.fp_app.specs.declared.shown.Shown.{Shown}
use Rattle.fp_app.specs.declared.shown.Shown.TheVariants as shown
use Rattle.fp_app.specs.Runs.{ShowsInput}
use Rattle.fp_app.proofs.Reaches.{long-no_input}
use Rattle.fp_app.proofs.answer.answer_order.Goals as goal

-- what is shown of an input isn't that it's too long
pub returns-in_ok-input_shown-in-Some-clause-long_within : goal.returns-in_ok-input_shown-in-Some-clause-long_within
returns-in_ok-input_shown-in-Some-clause-long_within g c = λ same.
    let over = has_shown (seconds_of (Some c.args.order)) (g.C.Clock.moment c.input_shown.new.clock) (g.C.Clock.faults c.args.clock.now) (g.C.Clock.faults c.input_shown.new.clock) in
    let long : c.in_ok-input_shown-in-Some.field-0 ≡ shown.TooLong = cc same in
    absurd (long-no_input over c.args.order c.in-Some.bytes.items (subst (λ (s : Shown). ShowsInput over c.args.order c.in-Some.bytes.items s) long c.in_ok-input_shown-in-Some.ensures.shown))
