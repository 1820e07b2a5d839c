use Rattle.std.proofs.Common.{◌≡◌, ℕ, Bool, List}
use Rattle.std.specs.Prelude.{Some}
use Rattle.std.proofs.lemmas.Result.{IfOk-weaker}
use Rattle.fp_ends.specs.Deadlines.{has_shown}
use Rattle.fp_records_fields.specs.NamedParts.{shipment_named}
use Rattle.fp_app_words.specs.TimeLimits.{halved}
use Rattle.fp_app.specs.NamedInputs.{ShowsLastQuote}
use Rattle.fp_app.specs.NamedQuotes.{ShowsNamedQuote}
use Rattle.fp_app.specs.Searches.{Allowance, within}
use Rattle.fp_app.specs.declared.shown.Shown.{Shown}
use Rattle.fp_app.proofs.NamedClaims.{shows-named}
use Rattle.fp_app.proofs.commands.named_quotes.quote_number.Goals as goal

pub returns-in_ok-moved-in-All-clause-shown : goal.returns-in_ok-moved-in-All-clause-shown
returns-in_ok-moved-in-All-clause-shown g c =
    let over : Bool = has_shown (halved c.args.options.seconds) (g.C.Clock.moment c.quote_moved.new.clock) (g.C.Clock.faults c.args.clock.now) (g.C.Clock.faults c.quote_moved.new.clock) in
    let allowed : Allowance = within c.args.options.budget over c.args.options.spans in
    IfOk-weaker c.quote_moved.result (ShowsLastQuote allowed c.in_ok-moved-in-All.moved)
    (λ (s : Shown). (name : List ℕ) → shipment_named c.args.instance name ≡ Some c.args.number → ShowsNamedQuote allowed name c.args.instance s)
    (λ s told name named. shows-named c.args.instance c.args.number c.in_ok-moved-in-All.moved name allowed s c.requires.number c.in_ok-moved-in-All.ensures.same named told)
    c.quote_moved.ensures.shown
