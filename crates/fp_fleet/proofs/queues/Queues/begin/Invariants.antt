use Rattle.std.proofs.Common.{[], ◌∷◌, ◌++◌, take}
use Rattle.fp_base_lists.specs.Vectors.{lists_of}
use Rattle.fp_fleet.specs.Queues.{AreQueued}
use Rattle.fp_fleet.proofs.TruckCounts.{begin_of}
use Rattle.fp_fleet.proofs.queues.Queues.begin.Given as goal

-- so many of the begin's trucks have begun
abbrev pub invariant-loop : goal.invariant-loop
invariant-loop l =
    AreQueued l.instance l.lines (take l.place l.fleet.begins ++ begin_of l.begin.line l.counter ∷ []) [] (lists_of l.self.days.items) (lists_of l.self.queues.items) l.self.heads.items
