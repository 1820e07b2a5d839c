use Rattle.std.proofs.Common.{[], ◌∷◌, ◌++◌, take}
use Rattle.fp_base_lists.specs.Vectors.{lists_of}
use Rattle.fp_fleet.specs.Queues.{AreQueued}
use Rattle.fp_fleet.proofs.TruckCounts.{turn_of}
use Rattle.fp_fleet.proofs.queues.Queues.turn.Given as goal

-- so many of the turn's trucks have turned
abbrev pub invariant-loop : goal.invariant-loop
invariant-loop l =
    AreQueued l.instance l.lines l.fleet.begins (take l.place l.fleet.turns ++ turn_of l.turn.before l.turn.after l.counter ∷ [])
    (lists_of l.self.days.items) (lists_of l.self.queues.items) l.self.heads.items
