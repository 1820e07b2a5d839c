-- The numbers don't fall, so `partition_point` parts those that are at most this one from the others.
use Rattle.std.proofs.Common.{ℕ, List, leb, arith, rules}
use Rattle.std.proofs.lemmas.Bool.{leb-true, leb-false}
use Rattle.std.proofs.lemmas.List.Sorted.{IsPartitionPoint-from_clause, IsPartitionedBy-leb}
use Rattle.fp_base_lists.proofs.ascending.count_until.Goals as goal

pub returns : goal.returns
returns c =
    let numbers : List ℕ = c.args.numbers.now in
    let parted = IsPartitionedBy-leb (λ n. n) numbers c.args.most c.requires in
    let point = IsPartitionPoint-from_clause (λ n. leb n c.args.most) numbers c.partition_point.result c.partition_point.ensures.partitioned parted (λ a r n k. search rules) in
    record {
      within = c.partition_point.ensures.bound;
      until = λ k d h. leb-true _ c.args.most (point.0 k d (omega arith) h);
      after = λ k d from h. leb-false _ c.args.most (point.1 k d from h);
    }
