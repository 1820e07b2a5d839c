-- The stamps ascend, so `partition_point` parts those that are not after the time from the others.
use Rattle.std.proofs.Common.{◌≡◌, ◌<◌, ◌≤◌, ⊎_elim, List, get_or, leb, arith, rules}
use Rattle.std.proofs.lemmas.Bool.{cases_lt, leb-true, leb-false}
use Rattle.std.proofs.lemmas.List.Sorted.{IsPartitionPoint-from_clause, IsPartitionedBy-leb}
use Rattle.std.specs.List.Sorted.{IsNonDecreasingBy}
use Rattle.fp_timenodes.specs.declared.timelines.Stamp.{Stamp}
use Rattle.fp_timenodes.specs.Stamps.{IsAscending}
use Rattle.fp_timenodes.proofs.timelines.count_until.Goals as goal

-- what ascends does not fall
rising : (stamps : List Stamp) → IsAscending stamps → IsNonDecreasingBy (λ (s : Stamp). s.at) stamps
rising stamps up i j d le h =
    ⊎_elim
    (λ (less : i < j). omega (arith, up i j d less h))
    (λ (more : j ≤ i). let same : i ≡ j = omega arith in rw same (omega arith))
    (cases_lt i j)

pub returns : goal.returns
returns c =
    let stamps : List Stamp = c.args.stamps.now in
    let parted = IsPartitionedBy-leb (λ (s : Stamp). s.at) stamps c.args.at (rising stamps c.requires) in
    let point = IsPartitionPoint-from_clause (λ (s : Stamp). leb s.at c.args.at) stamps c.partition_point.result c.partition_point.ensures.partitioned parted (λ a r q k. search rules) in
    record {
      ascending = c.requires;
      within = c.partition_point.ensures.bound;
      until = λ k d from h. leb-true (get_or stamps k d).at c.args.at (point.0 k d from h);
      after = λ k d from h. leb-false (get_or stamps k d).at c.args.at (point.1 k d from h);
    }
