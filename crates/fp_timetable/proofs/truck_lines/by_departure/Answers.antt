use Rattle.std.proofs.Common.{List, subst, rules}
use Rattle.std.specs.List.Sorted.{IsPermutation}
use Rattle.std.proofs.lemmas.List.Sorted.{IsNonDecreasingBy-from_sort, answers_always}
use Rattle.fp_timetable.specs.declared.lines.LegLine.{LegLine}
use Rattle.fp_timetable.specs.Order.{departure_rank}
use Rattle.fp_timetable.proofs.OrderedLines.{LineExists-plan}
use Rattle.fp_timetable.proofs.truck_lines.by_departure.Goals as goal

pub returns-clause-sorted : goal.returns-clause-sorted
returns-clause-sorted c =
    IsNonDecreasingBy-from_sort departure_rank c.sort_unstable_by_key.new.self.items
    (c.sort_unstable_by_key.ensures.sorted departure_rank (answers_always _ _ _ (λ f a r g h. search rules)))

pub returns-clause-exist : goal.returns-clause-exist
returns-clause-exist c =
    let legs : List LegLine = c.sort_unstable_by_key.new.self.items in
    LineExists-plan c.args.instance.now c.args.plan.now legs c.in_ok-legs.ensures.valid c.requires
    (subst (λ (all : List LegLine). IsPermutation all legs) c.in_ok-legs.ensures.lines c.sort_unstable_by_key.ensures.permutation)
