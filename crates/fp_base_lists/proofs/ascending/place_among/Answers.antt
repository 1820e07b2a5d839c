-- The numbers don't fall, so `partition_point` parts those below this one from the others.
use Rattle.std.proofs.Common.{ℕ, List, ltb, sym, arith, rules}
use Rattle.std.proofs.lemmas.Bool.{ltb-true, ltb-false}
use Rattle.std.proofs.lemmas.List.Sorted.{IsPartitionPoint-from_clause, IsPartitionedBy-ltb}
use Rattle.fp_base_lists.proofs.Places.{place_in-unique}
use Rattle.fp_base_lists.proofs.ascending.place_among.Goals as goal

pub returns-clause-parts : goal.returns-clause-parts
returns-clause-parts c =
    let numbers : List ℕ = c.args.numbers.now in
    let parted = IsPartitionedBy-ltb (λ n. n) numbers c.args.number c.requires in
    let point = IsPartitionPoint-from_clause (λ n. ltb n c.args.number) numbers c.partition_point.result c.partition_point.ensures.partitioned parted (λ a r n k. search rules) in
    record {
      within = c.partition_point.ensures.bound;
      below = λ k d h. ltb-true _ c.args.number (point.0 k d (omega arith) h);
      above = λ k d from h. ltb-false _ c.args.number (point.1 k d from h);
    }

pub returns-clause-place : goal.returns-clause-place
returns-clause-place c = sym (place_in-unique c.args.numbers.now c.args.number c.partition_point.result (returns-clause-parts c))
