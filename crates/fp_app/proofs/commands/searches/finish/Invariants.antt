use Rattle.std.proofs.Common.{◌≡◌, false}
use Rattle.std.specs.Prelude.{IfSome}
use Rattle.fp_ends.specs.Deadlines.{IsLater, has_shown}
use Rattle.fp_flatnet.specs.Tables.{windows_in}
use Rattle.fp_certificate_rules.specs.Claims.{NoPlanWithinCheaper}
use Rattle.fp_session_history.specs.Solutions.{IsTimely}
use Rattle.fp_session.specs.Sessions.{hand_of}
use Rattle.fp_session.specs.Preparations.{work_left}
use Rattle.fp_session.specs.Steps.{StayFixed}
use Rattle.fp_app.specs.declared.notes.Figures.{Figures}
use Rattle.fp_app.specs.Notes.{HasNoted}
use Rattle.fp_app.proofs.commands.searches.finish.Given as goal

-- what a search was begun for stays, by a clock that goes on, and what was noted is true
abbrev pub invariant-loop-alloc : goal.invariant-loop-alloc
invariant-loop-alloc g l = record {
  fixed : StayFixed (hand_of l.fn.session) (hand_of l.session);
  unit : l.session.prices.unit ≡ l.fn.session.prices.unit;
  later : IsLater (g.C.Clock.moment l.fn.clock) (g.C.Clock.moment l.clock) (g.C.Clock.faults l.fn.clock) (g.C.Clock.faults l.clock);
  timed : IfSome l.session.left (IsTimely (has_shown l.options.seconds (g.C.Clock.moment l.clock) (g.C.Clock.faults l.fn.clock) (g.C.Clock.faults l.clock)));
  known : IfSome l.state.last (λ (f : Figures). NoPlanWithinCheaper l.fn.session.instance (windows_in l.fn.session.windows) f.bound);
  noted : HasNoted l.fn.session.instance l.fn.session.windows (g.N.Sink.taken l.fn.notes) (g.N.Sink.taken l.notes) l.state;
  quiet : l.options.notes ≡ false → (l.state.is_open ≡ false) × (g.N.Sink.taken l.notes ≡ g.N.Sink.taken l.fn.notes);
}

abbrev pub decreases-loop-alloc : goal.decreases-loop-alloc
decreases-loop-alloc g l = work_left (hand_of l.session)
