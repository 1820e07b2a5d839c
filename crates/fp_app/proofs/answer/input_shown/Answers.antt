-- What is shown of the options that an order gives is what is shown of the order.
use Rattle.std.proofs.Common.{◌≡◌, ◌∙◌, ℕ, List, ap, subst, sym}
use Rattle.std.specs.Prelude.{IfOk, None, Option, Some}
use Rattle.fp_ends.specs.Deadlines.{has_shown}
use Rattle.fp_app_words.specs.TimeLimits.{halved, seconds_of}
use Rattle.fp_app_words.specs.declared.orders.Order.{Order}
use Rattle.fp_app_words.specs.declared.orders.Order.TheVariants.{Quote}
use Rattle.fp_app.specs.declared.commands.options.SearchOptions.{SearchOptions}
use Rattle.fp_app.specs.Inputs.{OfNamed, OfQuoted, OfScaled}
use Rattle.fp_app.specs.NamedQuotes.{ShowsNamedQuote}
use Rattle.fp_app.specs.Runs.{ShowsImproveOf, ShowsInput, ShowsQuote, ShowsSearch}
use Rattle.fp_app.specs.Searches.{within}
use Rattle.fp_app.proofs.answer.input_shown.Goals as goal

pub returns-in-Plan-clause-shown : goal.returns-in-Plan-clause-shown
returns-in-Plan-clause-shown g c =
    let m : ℕ = g.C.Clock.moment c.plan_shown.new.clock in
    let b : ℕ = g.C.Clock.faults c.args.clock.now in
    let n : ℕ = g.C.Clock.faults c.plan_shown.new.clock in
    let input : List ℕ = c.args.bytes.items in
    subst (λ (o : Order). IfOk c.plan_shown.result (ShowsInput (has_shown (seconds_of (Some o)) m b n) o input)) (sym c.in-Plan.is)
    (subst (λ (o : SearchOptions). IfOk c.plan_shown.result (λ shown. OfScaled c.in-Plan.scale input shown (λ p. ShowsSearch (within o.budget (has_shown o.seconds m b n) o.spans) p shown))) c.new-options.ensures c.plan_shown.ensures.shown)

pub returns-in-Improve-clause-shown : goal.returns-in-Improve-clause-shown
returns-in-Improve-clause-shown g c =
    let m : ℕ = g.C.Clock.moment c.improve_shown.new.clock in
    let b : ℕ = g.C.Clock.faults c.args.clock.now in
    let n : ℕ = g.C.Clock.faults c.improve_shown.new.clock in
    let input : List ℕ = c.args.bytes.items in
    subst (λ (o : Order). IfOk c.improve_shown.result (ShowsInput (has_shown (seconds_of (Some o)) m b n) o input)) (sym c.in-Improve.is)
    (subst (λ (o : SearchOptions). IfOk c.improve_shown.result (ShowsImproveOf (within o.budget (has_shown o.seconds m b n) o.spans) c.in-Improve.scale input)) c.new-options-in-Improve.ensures c.improve_shown.ensures.shown)

pub returns-in-None-clause-shown : goal.returns-in-None-clause-shown
returns-in-None-clause-shown g c =
    let m : ℕ = g.C.Clock.moment c.quote_shown.new.clock in
    let b : ℕ = g.C.Clock.faults c.args.clock.now in
    let n : ℕ = g.C.Clock.faults c.quote_shown.new.clock in
    let input : List ℕ = c.args.bytes.items in
    let is : c.args.order ≡ Quote c.in-Quote.budget c.in-Quote.spans c.in-Quote.seconds c.in-Quote.wanted None =
    c.in-Quote.is ∙ ap (λ (name : Option (List ℕ)). Quote c.in-Quote.budget c.in-Quote.spans c.in-Quote.seconds c.in-Quote.wanted name) c.in-None.is in
    subst (λ (o : Order). IfOk c.quote_shown.result (ShowsInput (has_shown (seconds_of (Some o)) m b n) o input)) (sym is)
    (subst (λ (o : SearchOptions). IfOk c.quote_shown.result (λ shown. OfQuoted input shown (λ p. ShowsQuote (within o.budget (has_shown (halved o.seconds) m b n) o.spans) p shown))) c.new-options-in-Quote.ensures c.quote_shown.ensures.shown)

pub returns-in-Some-clause-shown : goal.returns-in-Some-clause-shown
returns-in-Some-clause-shown g c =
    let m : ℕ = g.C.Clock.moment c.named_quote_shown.new.clock in
    let b : ℕ = g.C.Clock.faults c.args.clock.now in
    let n : ℕ = g.C.Clock.faults c.named_quote_shown.new.clock in
    let input : List ℕ = c.args.bytes.items in
    let is : c.args.order ≡ Quote c.in-Quote.budget c.in-Quote.spans c.in-Quote.seconds c.in-Quote.wanted (Some c.in-Some.name) =
    c.in-Quote.is ∙ ap (λ (name : Option (List ℕ)). Quote c.in-Quote.budget c.in-Quote.spans c.in-Quote.seconds c.in-Quote.wanted name) c.in-Some.is in
    subst (λ (o : Order). IfOk c.named_quote_shown.result (ShowsInput (has_shown (seconds_of (Some o)) m b n) o input)) (sym is)
    (subst (λ (o : SearchOptions). IfOk c.named_quote_shown.result (λ shown. OfNamed c.in-Some.name input shown (λ p. ShowsNamedQuote (within o.budget (has_shown (halved o.seconds) m b n) o.spans) c.in-Some.name p shown))) c.new-options-in-Quote.ensures c.named_quote_shown.ensures.shown)
