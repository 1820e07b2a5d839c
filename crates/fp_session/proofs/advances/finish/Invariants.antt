use Rattle.std.proofs.Common.{◌≡◌}
use Rattle.std.specs.Prelude.{IfSome, None}
use Rattle.fp_ends.specs.Deadlines.{IsLater, has_shown}
use Rattle.fp_session_history.specs.Solutions.{IsTimely}
use Rattle.fp_session.specs.Searches.{IsSearch, in_hand}
use Rattle.fp_session.specs.Preparations.{work_left}
use Rattle.fp_session.specs.Steps.{HasGoneOn, StayFixed}
use Rattle.fp_session.proofs.advances.finish.Given as goal

-- what a search knows, of what it was begun for, and by a clock that goes on
abbrev pub invariant-loop-alloc : goal.invariant-loop-alloc
invariant-loop-alloc g l = record {
  search : IsSearch l.search l.prices;
  fixed : StayFixed (in_hand l.initial.search) (in_hand l.search);
  onward : HasGoneOn (in_hand l.initial.search) (in_hand l.search);
  unit : l.prices.unit ≡ l.initial.prices.unit;
  later : IsLater (g.C.Clock.moment l.initial.clock) (g.C.Clock.moment l.clock) (g.C.Clock.faults l.initial.clock) (g.C.Clock.faults l.clock);
  timed : l.initial.search.left ≡ None → IfSome l.search.left (IsTimely (has_shown l.seconds (g.C.Clock.moment l.clock) (g.C.Clock.faults l.initial.clock) (g.C.Clock.faults l.clock)));
}

abbrev pub decreases-loop-alloc : goal.decreases-loop-alloc
decreases-loop-alloc g l = work_left (in_hand l.search)
