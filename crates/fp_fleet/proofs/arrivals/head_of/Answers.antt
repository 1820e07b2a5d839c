use Rattle.std.proofs.Common.{ℕ, List, ltb, arith, rules}
use Rattle.std.proofs.lemmas.Bool.{ltb-true, ltb-false}
use Rattle.std.proofs.lemmas.List.Sorted.{IsPartitionPoint-from_clause, IsPartitionedBy-ltb}
use Rattle.fp_fleet.specs.declared.arrivals.Arrival.{Arrival}
use Rattle.fp_fleet.specs.Arrivals.{no_arrival}
use Rattle.fp_fleet.proofs.arrivals.head_of.Goals as goal

pub returns : goal.returns
returns c =
    let arrivals : List Arrival = c.args.arrivals.now in
    let rank : ℕ = c.rank_at-rank.result in
    let parted = IsPartitionedBy-ltb (λ (a : Arrival). a.rank) arrivals rank c.requires.sorted in
    let point = IsPartitionPoint-from_clause (λ (a : Arrival). ltb a.rank rank) arrivals c.partition_point.result c.partition_point.ensures.partitioned parted (λ a r n k. search rules) in
    record {
      within = c.partition_point.ensures.bound;
      before = λ k h. omega (arith, ltb-true _ rank (point.0 k no_arrival (omega arith) h), c.rank_at-rank.ensures);
      after = λ k from h. omega (arith, ltb-false _ rank (point.1 k no_arrival from h), c.rank_at-rank.ensures);
    }
