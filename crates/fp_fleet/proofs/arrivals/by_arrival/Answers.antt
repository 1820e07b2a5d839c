use Rattle.std.proofs.Common.{List, subst, rules}
use Rattle.std.specs.List.Sorted.{IsPermutation}
use Rattle.std.proofs.lemmas.List.Sorted.{IsNonDecreasingBy-from_sort, answers_always}
use Rattle.fp_fleet.specs.declared.arrivals.Arrival.{Arrival}
use Rattle.fp_fleet.proofs.SortedArrivals.{AreArrivals-sorted}
use Rattle.fp_fleet.proofs.arrivals.by_arrival.Goals as goal

pub returns : goal.returns
returns c =
    let arrivals : List Arrival = c.sort_unstable_by_key.new.self.items in
    AreArrivals-sorted c.args.instance.now c.args.lines.now arrivals
    (subst (λ (all : List Arrival). IsPermutation all arrivals) c.in_ok-arrivals.ensures c.sort_unstable_by_key.ensures.permutation)
    (IsNonDecreasingBy-from_sort (λ (a : Arrival). a.rank) arrivals
    (c.sort_unstable_by_key.ensures.sorted (λ (a : Arrival). a.rank) (answers_always _ _ _ (λ f a r g h. search rules))))
