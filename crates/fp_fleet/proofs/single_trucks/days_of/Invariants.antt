use Rattle.std.proofs.Common.{[], take}
use Rattle.fp_base_lists.specs.Vectors.{lists_of}
use Rattle.fp_fleet.specs.Queues.{AreQueued}
use Rattle.fp_fleet.proofs.single_trucks.days_of.Given as goal

-- the trucks of the begins so far have begun
abbrev pub invariant-loop-place : goal.invariant-loop-place
invariant-loop-place l =
    AreQueued l.instance l.lines (take l.place l.fleet.begins) [] (lists_of l.queues.days.items) (lists_of l.queues.queues.items) l.queues.heads.items

-- those of the turns so far have turned
abbrev pub invariant-loop-place-2 : goal.invariant-loop-place-2
invariant-loop-place-2 l =
    AreQueued l.instance l.lines l.fleet.begins (take l.place l.fleet.turns) (lists_of l.queues.days.items) (lists_of l.queues.queues.items) l.queues.heads.items
