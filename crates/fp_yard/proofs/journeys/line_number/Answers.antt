-- The lines stand in order, so `partition_point` finds the line of the leg.
use Rattle.std.proofs.Common.{ℕ, List, ltb, rules}
use Rattle.std.proofs.lemmas.List.Sorted.{IsPartitionPoint-from_clause, IsPartitionedBy-ltb}
use Rattle.fp_timetable.specs.declared.lines.TruckLine.{TruckLine}
use Rattle.fp_timetable.specs.Order.{rank_of, truck_rank}
use Rattle.fp_yard.proofs.LineNumbers.{found-line, ranks-order}
use Rattle.fp_yard.proofs.journeys.line_number.Goals as goal

pub returns-clause-exists : goal.returns-clause-exists
returns-clause-exists c =
    let lines : List TruckLine = c.args.lines.now in
    let least : ℕ = rank_of c.args.leg.depart c.args.leg.arc in
    let parted = IsPartitionedBy-ltb truck_rank lines least (ranks-order lines c.requires.order c.requires.arcs) in
    let point = IsPartitionPoint-from_clause (λ (t : TruckLine). ltb (truck_rank t) least) lines c.partition_point.result c.partition_point.ensures.partitioned parted (λ a r n k. search rules) in
    (found-line lines c.args.leg c.partition_point.result c.requires.order c.requires.arcs c.requires.has point).0

pub returns-clause-leg : goal.returns-clause-leg
returns-clause-leg c =
    let lines : List TruckLine = c.args.lines.now in
    let least : ℕ = rank_of c.args.leg.depart c.args.leg.arc in
    let parted = IsPartitionedBy-ltb truck_rank lines least (ranks-order lines c.requires.order c.requires.arcs) in
    let point = IsPartitionPoint-from_clause (λ (t : TruckLine). ltb (truck_rank t) least) lines c.partition_point.result c.partition_point.ensures.partitioned parted (λ a r n k. search rules) in
    (found-line lines c.args.leg c.partition_point.result c.requires.order c.requires.arcs c.requires.has point).1
