use Rattle.std.proofs.Common.{◌≡◌, ◌∙◌, false, refl, sym, subst, arith}
use Rattle.std.specs.Prelude.{IfSome, None, Option, Some}
use Rattle.std.specs.Option.{is_some}
use Rattle.std.proofs.lemmas.Bool.{false≢true}
use Rattle.fp_ends.specs.Deadlines.{has_shown}
use Rattle.fp_ends.proofs.Deadlines.{IsLater-trans}
use Rattle.fp_model.specs.Problem.{Problem}
use Rattle.fp_flatnet.specs.Tables.{WindowTable, windows_in}
use Rattle.fp_certificate_rules.specs.Claims.{NoPlanWithinCheaper}
use Rattle.fp_session_history.specs.declared.endings.Left.{Left}
use Rattle.fp_session.specs.Sessions.{hand_of}
use Rattle.fp_session.specs.Steps.{StayFixed}
use Rattle.fp_session.proofs.StepsLeft.{fixed-same, fixed-twice}
use Rattle.fp_session.proofs.TimelyMoves.{timely-later, timely-none}
use Rattle.fp_app.specs.declared.notes.Figures.{Figures}
use Rattle.fp_app.specs.Notes.{IsLook}
use Rattle.fp_app.proofs.NotesTaken.{look-shut, may-note, notes-begin, notes-more}
use Rattle.fp_app.proofs.commands.searches.finish.Goals as goal

-- a search goes on of which it isn't said that it has ended
goes-on : (o : Option Left) → is_some o ≡ false → o ≡ None
goes-on None is = refl
goes-on (Some left) is = absurd (false≢true (sym is))

pub loop-alloc-init : goal.loop-alloc-init
loop-alloc-init g c =
    let start = g.N.Sink.taken c.args.notes.now in
    let now = g.N.Sink.taken c.look-state.new.notes in
    let p = c.args.session.now.instance in
    let table = c.args.session.now.windows in
    record {
      fixed = fixed-same (hand_of c.args.session.now);
      unit = refl;
      later = record { moment = omega arith; faults = omega arith };
      timed = timely-none (has_shown c.args.options.seconds (g.C.Clock.moment c.args.clock.now) (g.C.Clock.faults c.args.clock.now) (g.C.Clock.faults c.args.clock.now)) c.args.session.now.left c.requires;
      known = c.look-state.ensures.known;
      noted = notes-more p table start start now (record { is_open = c.args.options.notes; last = None; looks = 0 }) c.look-state.result (notes-begin p table start c.args.options.notes) c.look-state.ensures.look;
      quiet = λ none. look-shut p table (record { is_open = c.args.options.notes; last = None; looks = 0 }) c.look-state.result start now none c.look-state.ensures.look;
    }

pub loop-alloc-preserved : goal.loop-alloc-preserved
loop-alloc-preserved g c =
    let start = g.N.Sink.taken c.args.notes.now in
    let mid = g.N.Sink.taken c.loop-alloc.notes in
    let now = g.N.Sink.taken c.look-state-in-loop-alloc.new.notes in
    let p = c.args.session.now.instance in
    let table = c.args.session.now.windows in
    let going : c.loop-alloc.session.left ≡ None = goes-on c.loop-alloc.session.left (sym c.has_ended.ensures ∙ c.loop-alloc-test.true) in
    let fixed : StayFixed (hand_of c.args.session.now) (hand_of c.go_on_within.new.self) =
    fixed-twice (hand_of c.args.session.now) (hand_of c.loop-alloc.session) (hand_of c.go_on_within.new.self) c.loop-alloc.invariant.fixed c.go_on_within.ensures.fixed in
    let look : IsLook c.args.session.now.instance c.args.session.now.windows c.loop-alloc.state c.look-state-in-loop-alloc.result (g.N.Sink.taken c.loop-alloc.notes) (g.N.Sink.taken c.look-state-in-loop-alloc.new.notes) =
    subst (λ (t : WindowTable). IsLook c.args.session.now.instance t c.loop-alloc.state c.look-state-in-loop-alloc.result (g.N.Sink.taken c.loop-alloc.notes) (g.N.Sink.taken c.look-state-in-loop-alloc.new.notes)) fixed.windows
    (subst (λ (q : Problem). IsLook q c.go_on_within.new.self.windows c.loop-alloc.state c.look-state-in-loop-alloc.result (g.N.Sink.taken c.loop-alloc.notes) (g.N.Sink.taken c.look-state-in-loop-alloc.new.notes)) fixed.instance
    c.look-state-in-loop-alloc.ensures.look) in
    record {
      fixed = fixed;
      unit = c.go_on_within.ensures.unit ∙ c.loop-alloc.invariant.unit;
      later =
          IsLater-trans (g.C.Clock.moment c.args.clock.now) (g.C.Clock.moment c.loop-alloc.clock) (g.C.Clock.moment c.go_on_within.new.clock) (g.C.Clock.faults c.args.clock.now) (g.C.Clock.faults c.loop-alloc.clock)
          (g.C.Clock.faults c.go_on_within.new.clock) c.loop-alloc.invariant.later c.go_on_within.ensures.later;
      timed =
          timely-later c.args.options.seconds (g.C.Clock.moment c.go_on_within.new.clock) (g.C.Clock.moment c.go_on_within.new.clock) (g.C.Clock.faults c.loop-alloc.clock) (g.C.Clock.faults c.args.clock.now)
          (g.C.Clock.faults c.go_on_within.new.clock) (g.C.Clock.faults c.go_on_within.new.clock) c.go_on_within.new.self.left (omega arith) c.loop-alloc.invariant.later.faults (omega arith) c.go_on_within.ensures.timed;
      known = subst (λ (t : WindowTable). IfSome c.look-state-in-loop-alloc.result.last (λ (f : Figures). NoPlanWithinCheaper c.args.session.now.instance (windows_in t) f.bound)) fixed.windows
          (subst (λ (q : Problem). IfSome c.look-state-in-loop-alloc.result.last (λ (f : Figures). NoPlanWithinCheaper q (windows_in c.go_on_within.new.self.windows) f.bound)) fixed.instance c.look-state-in-loop-alloc.ensures.known);
      noted = notes-more p table start mid now c.loop-alloc.state c.look-state-in-loop-alloc.result c.loop-alloc.invariant.noted look;
      quiet = λ none.
          let was = c.loop-alloc.invariant.quiet none in
          let is = look-shut p table c.loop-alloc.state c.look-state-in-loop-alloc.result mid now was.0 look in
          (is.0, is.1 ∙ was.1);
    }

pub returns-in_err-go_on_within-clause-noted : goal.returns-in_err-go_on_within-clause-noted
returns-in_err-go_on_within-clause-noted g c =
    may-note c.args.session.now.instance c.args.session.now.windows (g.N.Sink.taken c.args.notes.now) (g.N.Sink.taken c.loop-alloc.notes) c.loop-alloc.state c.args.options.notes c.loop-alloc.invariant.noted c.loop-alloc.invariant.quiet

pub returns-clause-noted : goal.returns-clause-noted
returns-clause-noted g c =
    may-note c.args.session.now.instance c.args.session.now.windows (g.N.Sink.taken c.args.notes.now) (g.N.Sink.taken c.loop-alloc.notes) c.loop-alloc.state c.args.options.notes c.loop-alloc.invariant.noted c.loop-alloc.invariant.quiet
