use Rattle.std.proofs.Common.{◌≡◌, ◌∙◌, ap, sym}
use Rattle.std.specs.Prelude.{None, Ok, Some}
use Rattle.fp_ends.specs.Deadlines.{has_shown}
use Rattle.fp_model.specs.Problem.{Problem}
use Rattle.fp_records.specs.Fields.{records_of}
use Rattle.fp_certificate_lines.specs.Statements.{Statement}
use Rattle.fp_app_tails.specs.declared.answers.Scale.TheVariants.{Of}
use Rattle.fp_app.specs.Improvements.{ShowsImprove}
use Rattle.fp_app.specs.Inputs.{CertifiedInstance, IsTailAnswer, OfCertified, certified_at}
use Rattle.fp_app.specs.Notes.{IsNotedFor}
use Rattle.fp_app.specs.Searches.{within}
use Rattle.fp_app.specs.TailAnswers.{GivesOfTail}
use Rattle.fp_app.specs.Wanted.{Wanted, every}
use Rattle.fp_app.proofs.TailAnswers.{alone-noted, tail-noted, tail-shown}
use Rattle.fp_app.proofs.commands.improvements.improve_shown.Goals as goal

pub returns-in-Some-clause-shown : goal.returns-in-Some-clause-shown
returns-in-Some-clause-shown g c =
    let input = c.args.bytes.items in
    let first : records_of input ≡ c.deref-2.result.now = sym (c.deref-2.ensures.value ∙ c.in_ok-lines.ensures.all ∙ ap records_of c.deref.ensures.value) in
    let same : records_of input ≡ c.deref-in-Some.result.now = sym (c.deref-in-Some.ensures.value ∙ c.in_ok-lines.ensures.all ∙ ap records_of c.deref.ensures.value) in
    let s = c.in_ok-shown-in-Some.shown in
    let tells : IsTailAnswer input (Some c.in-Some.place) = rw c.in-Some.is at (c.tail_answer.ensures.tells input first) in
    tail-shown (Of c.args.scale) input c.deref-in-Some.result.now same c.in-Some.place tells s (λ (p : Problem) (wanted : Wanted) (d : Statement). ShowsImprove (within c.args.options.budget (has_shown c.args.options.seconds (g.C.Clock.moment c.improve_after.new.clock) (g.C.Clock.faults c.args.clock.now) (g.C.Clock.faults c.improve_after.new.clock)) c.args.options.spans) p wanted d s)
    (OfCertified c.args.scale input s (λ (x : CertifiedInstance). ShowsImprove (within c.args.options.budget (has_shown c.args.options.seconds (g.C.Clock.moment c.improve_after.new.clock) (g.C.Clock.faults c.args.clock.now) (g.C.Clock.faults c.improve_after.new.clock)) c.args.options.spans) x.instance every x.certificate s)) c.in_ok-shown-in-Some.ensures.shown

pub returns-in-Some-clause-noted : goal.returns-in-Some-clause-noted
returns-in-Some-clause-noted g c =
    let input = c.args.bytes.items in
    let first : records_of input ≡ c.deref-2.result.now = sym (c.deref-2.ensures.value ∙ c.in_ok-lines.ensures.all ∙ ap records_of c.deref.ensures.value) in
    let same : records_of input ≡ c.deref-in-Some.result.now = sym (c.deref-in-Some.ensures.value ∙ c.in_ok-lines.ensures.all ∙ ap records_of c.deref.ensures.value) in
    let tells : IsTailAnswer input (Some c.in-Some.place) = rw c.in-Some.is at (c.tail_answer.ensures.tells input first) in
    tail-noted (Of c.args.scale) input c.deref-in-Some.result.now same c.in-Some.place tells c.args.options.notes (g.N.Sink.taken c.args.notes.now) (g.N.Sink.taken c.improve_after.new.notes) (λ (p : Problem) (wanted : Wanted) (d : Statement). IsNotedFor p wanted (g.N.Sink.taken c.args.notes.now) (g.N.Sink.taken c.improve_after.new.notes))
    ((x : CertifiedInstance) × (certified_at c.args.scale input ≡ Ok x) × IsNotedFor x.instance every (g.N.Sink.taken c.args.notes.now) (g.N.Sink.taken c.improve_after.new.notes)) c.improve_after.ensures.noted

pub returns-in_err-shown-in-Some-clause-noted : goal.returns-in_err-shown-in-Some-clause-noted
returns-in_err-shown-in-Some-clause-noted g c =
    let input = c.args.bytes.items in
    let first : records_of input ≡ c.deref-2.result.now = sym (c.deref-2.ensures.value ∙ c.in_ok-lines.ensures.all ∙ ap records_of c.deref.ensures.value) in
    let same : records_of input ≡ c.deref-in-Some.result.now = sym (c.deref-in-Some.ensures.value ∙ c.in_ok-lines.ensures.all ∙ ap records_of c.deref.ensures.value) in
    let tells : IsTailAnswer input (Some c.in-Some.place) = rw c.in-Some.is at (c.tail_answer.ensures.tells input first) in
    tail-noted (Of c.args.scale) input c.deref-in-Some.result.now same c.in-Some.place tells c.args.options.notes (g.N.Sink.taken c.args.notes.now) (g.N.Sink.taken c.improve_after.new.notes) (λ (p : Problem) (wanted : Wanted) (d : Statement). IsNotedFor p wanted (g.N.Sink.taken c.args.notes.now) (g.N.Sink.taken c.improve_after.new.notes))
    ((x : CertifiedInstance) × (certified_at c.args.scale input ≡ Ok x) × IsNotedFor x.instance every (g.N.Sink.taken c.args.notes.now) (g.N.Sink.taken c.improve_after.new.notes)) c.improve_after.ensures.noted

pub returns-in_err-shown-in-None-clause-noted : goal.returns-in_err-shown-in-None-clause-noted
returns-in_err-shown-in-None-clause-noted g c =
    let input = c.args.bytes.items in
    let first : records_of input ≡ c.deref-2.result.now = sym (c.deref-2.ensures.value ∙ c.in_ok-lines.ensures.all ∙ ap records_of c.deref.ensures.value) in
    let same : records_of input ≡ c.deref-in-None.result.now = sym (c.deref-in-None.ensures.value ∙ c.in_ok-lines.ensures.all ∙ ap records_of c.deref.ensures.value) in
    let tells : IsTailAnswer input None = rw c.in-None.is at (c.tail_answer.ensures.tells input first) in
    alone-noted c.args.options.notes input (g.N.Sink.taken c.args.notes.now) (g.N.Sink.taken c.improve_alone.new.notes) (GivesOfTail (Of c.args.scale) input (λ (p : Problem) (wanted : Wanted) (d : Statement). IsNotedFor p wanted (g.N.Sink.taken c.args.notes.now) (g.N.Sink.taken c.improve_alone.new.notes)))
    ((x : CertifiedInstance) × (certified_at c.args.scale input ≡ Ok x) × IsNotedFor x.instance every (g.N.Sink.taken c.args.notes.now) (g.N.Sink.taken c.improve_alone.new.notes)) tells (c.improve_alone.ensures.noted input same)
