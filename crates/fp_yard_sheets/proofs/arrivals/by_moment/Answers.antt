use Rattle.std.proofs.Common.{◌≡◌, ◌∙◌, List, [], ◌++◌, drop, ap, arith, subst, sym, rules}
use Rattle.std.proofs.lemmas.List.{append-nil, drop_all}
use Rattle.fp_timetable.specs.declared.lines.TruckLine.{TruckLine}
use Rattle.std.specs.List.Sorted.{IsPermutation}
use Rattle.std.proofs.lemmas.List.Sorted.{IsNonDecreasingBy-from_sort, answers_always}
use Rattle.fp_yard_sheets.specs.declared.arrivals.Arrival.{Arrival}
use Rattle.fp_yard_sheets.specs.Arrivals.{arrival_rank, arrivals_from}
use Rattle.fp_yard_sheets.proofs.OrderedArrivals.{AreByMoment-sorted}
use Rattle.fp_yard_sheets.proofs.arrivals.by_moment.Goals as goal

pub returns : goal.returns
returns c =
    let arrivals : List Arrival = c.sort_unstable_by_key.new.self.items in
    let none : drop c.loop-number.number c.args.lines.now ≡ [] = drop_all c.loop-number.number c.args.lines.now (omega arith) in
    let all : c.loop-number.arrivals.items ≡ arrivals_from c.args.instance.now 0 c.args.lines.now =
    sym (append-nil c.loop-number.arrivals.items) ∙ ap (λ (rest : List TruckLine). c.loop-number.arrivals.items ++ arrivals_from c.args.instance.now c.loop-number.number rest) (sym none)
    ∙ c.loop-number.invariant in
    AreByMoment-sorted c.args.instance.now c.args.lines.now arrivals
    (subst (λ (list : List Arrival). IsPermutation list arrivals) all c.sort_unstable_by_key.ensures.permutation)
    (IsNonDecreasingBy-from_sort arrival_rank arrivals (c.sort_unstable_by_key.ensures.sorted arrival_rank (answers_always _ _ _ (λ f a r g h. search rules))))
