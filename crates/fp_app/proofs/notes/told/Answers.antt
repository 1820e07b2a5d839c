-- A note is written, or a front of it.
use Rattle.std.proofs.Common.{ℕ, Bool, List, refl, subst, inr}
use Rattle.std.specs.Io.KnownBytes.{Appends}
use Rattle.fp_ends.specs.Moves.{AppendsFront}
use Rattle.fp_session.specs.Sessions.{cheapest_of}
use Rattle.fp_app.specs.Notes.{IsPlanText}
use Rattle.fp_app.proofs.notes.told.Goals as goal

pub returns-in-Ok-write_all-clause-look : goal.returns-in-Ok-write_all-clause-look
returns-in-Ok-write_all-clause-look g c =
    inr (inr (record {
      was_open = c.requires.was_open;
      note = record { rounds = c.args.seen.rounds; branches = c.args.seen.branches; cost = c.args.seen.cost; bound = c.args.seen.bound; plan = cheapest_of c.args.session.now };
      text = c.in-Ok-note_text.text.items;
      is = record { plan = c.requires.note.plan; within = c.requires.note.within; cost = c.requires.note.cost; bound = c.requires.note.bound };
      no_worse = c.requires.no_worse;
      own = record {
        answer = c.in-Ok.plan.items;
        plan = subst (λ (b : Bool). IsPlanText c.args.session.now.instance (cheapest_of c.args.session.now) b c.in-Ok.plan.items) c.is_cheaper-is_cheaper.ensures c.in-Ok.ensures;
        line = c.in-Ok-note_text.ensures;
      };
      took = (refl, subst (λ (t : List ℕ). Appends (g.N.Sink.taken c.args.notes.now) (g.N.Sink.taken c.write_all.new.sink) t) c.deref.ensures.value c.in-Ok-write_all.ensures.ok);
    }))

pub returns-clause-look : goal.returns-clause-look
returns-clause-look g c =
    inr (inr (record {
      was_open = c.requires.was_open;
      note = record { rounds = c.args.seen.rounds; branches = c.args.seen.branches; cost = c.args.seen.cost; bound = c.args.seen.bound; plan = cheapest_of c.args.session.now };
      text = c.in-Ok-note_text.text.items;
      is = record { plan = c.requires.note.plan; within = c.requires.note.within; cost = c.requires.note.cost; bound = c.requires.note.bound };
      no_worse = c.requires.no_worse;
      own = record {
        answer = c.in-Ok.plan.items;
        plan = subst (λ (b : Bool). IsPlanText c.args.session.now.instance (cheapest_of c.args.session.now) b c.in-Ok.plan.items) c.is_cheaper-is_cheaper.ensures c.in-Ok.ensures;
        line = c.in-Ok-note_text.ensures;
      };
      took = subst (λ (t : List ℕ). AppendsFront (g.N.Sink.taken c.args.notes.now) (g.N.Sink.taken c.write_all.new.sink) t) c.deref.ensures.value c.in-Err.ensures.err;
    }))
