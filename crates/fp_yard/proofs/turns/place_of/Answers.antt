-- The events stand by line, so `partition_point` finds the place of a line.
use Rattle.std.proofs.Common.{ltb, rules}
use Rattle.std.proofs.lemmas.List.Sorted.{IsPartitionPoint-from_clause, IsPartitionedBy-ltb}
use Rattle.fp_yard.specs.declared.events.Event.{Event}
use Rattle.fp_yard.proofs.EventLists.{found-place, lines-order}
use Rattle.fp_yard.proofs.turns.place_of.Goals as goal

pub returns : goal.returns
returns c =
    let parted = IsPartitionedBy-ltb (λ (f : Event). f.line) c.args.events.now c.args.line (lines-order c.args.events.now c.requires) in
    found-place c.args.events.now c.args.line c.partition_point.result c.partition_point.ensures.bound
    (IsPartitionPoint-from_clause (λ (f : Event). ltb f.line c.args.line) c.args.events.now c.partition_point.result c.partition_point.ensures.partitioned parted (λ a r n k. search rules))
