use Rattle.std.proofs.Common.{◌∙◌, refl, ap, not, arith}
use Rattle.fp_ends.specs.Deadlines.{has_shown}
use Rattle.fp_ends.proofs.Deadlines.{IsLater-trans}
use Rattle.fp_session.specs.Searches.{in_hand}
use Rattle.fp_session.proofs.LaterSearches.{gone-none, gone-twice}
use Rattle.fp_session.proofs.StepsLeft.{fixed-same, fixed-twice, none-left}
use Rattle.fp_session.proofs.TimelyMoves.{timely-later, timely-none}
use Rattle.fp_session.proofs.advances.finish.Goals as goal

pub loop-alloc-init : goal.loop-alloc-init
loop-alloc-init g c = record {
  search = c.requires.search;
  fixed = fixed-same (in_hand c.args.search.now);
  onward = gone-none (in_hand c.args.search.now);
  unit = refl;
  later = record { moment = omega arith; faults = omega arith };
  timed = λ none. timely-none (has_shown c.args.seconds (g.C.Clock.moment c.args.clock.now) (g.C.Clock.faults c.args.clock.now) (g.C.Clock.faults c.args.clock.now)) c.args.search.now.left none;
}

pub loop-alloc-preserved : goal.loop-alloc-preserved
loop-alloc-preserved g c =
    let going = none-left c.loop-alloc.search.left (c.is_none.ensures ∙ ap not c.loop-alloc-test.true) in
    let before = c.loop-alloc.invariant.later.faults in
    record {
      search = c.go_on.ensures.search;
      fixed = fixed-twice (in_hand c.args.search.now) (in_hand c.loop-alloc.search) (in_hand c.go_on.new.search) c.loop-alloc.invariant.fixed c.go_on.ensures.fixed;
      onward = gone-twice (in_hand c.args.search.now) (in_hand c.loop-alloc.search) (in_hand c.go_on.new.search) c.loop-alloc.invariant.onward going c.in_ok-go_on.ensures.onward;
      unit = c.go_on.ensures.unit ∙ c.loop-alloc.invariant.unit;
      later =
          IsLater-trans (g.C.Clock.moment c.args.clock.now) (g.C.Clock.moment c.loop-alloc.clock) (g.C.Clock.moment c.go_on.new.clock) (g.C.Clock.faults c.args.clock.now) (g.C.Clock.faults c.loop-alloc.clock)
          (g.C.Clock.faults c.go_on.new.clock) c.loop-alloc.invariant.later c.go_on.ensures.later;
      timed = λ none.
          timely-later c.args.seconds (g.C.Clock.moment c.go_on.new.clock) (g.C.Clock.moment c.go_on.new.clock) (g.C.Clock.faults c.loop-alloc.clock) (g.C.Clock.faults c.args.clock.now)
          (g.C.Clock.faults c.go_on.new.clock) (g.C.Clock.faults c.go_on.new.clock) c.go_on.new.search.left (omega arith) before (omega arith) c.go_on.ensures.timed;
    }

pub loop-alloc-smaller : goal.loop-alloc-smaller
loop-alloc-smaller g c = c.in_ok-go_on.ensures.fewer
