use Rattle.std.proofs.Common.{List, subst, rules}
use Rattle.std.specs.List.Sorted.{IsPermutation}
use Rattle.std.proofs.lemmas.List.Sorted.{IsNonDecreasingBy-from_sort, answers_always}
use Rattle.fp_timetable.specs.declared.lines.LegLine.{LegLine}
use Rattle.fp_timetable.proofs.LineRanks.{leg_rank}
use Rattle.fp_timetable.proofs.ExistingLines.{LegExists-plan}
use Rattle.fp_timetable.proofs.PlanLegs.{IsReady, IsReady-plan}
use Rattle.fp_timetable.proofs.OrderedLines.{AreLegLines-sorted}
use Rattle.fp_timetable.proofs.ReadBack.{routes_from-lines}
use Rattle.fp_timetable.proofs.leg_lines.legs.Goals as goal

pub returns-clause-lines : goal.returns-clause-lines
returns-clause-lines c =
    let ready : IsReady c.args.instance.now c.args.plan.now = IsReady-plan _ _ c.in_ok-lines.ensures.valid c.requires in
    let lines : List LegLine = c.sort_unstable_by_key.new.self.items in
    AreLegLines-sorted c.args.instance.now c.args.plan.now lines ready.few ready.rise
    (subst (λ (all : List LegLine). IsPermutation all lines) c.in_ok-lines.ensures.lines c.sort_unstable_by_key.ensures.permutation)
    (IsNonDecreasingBy-from_sort leg_rank lines (c.sort_unstable_by_key.ensures.sorted leg_rank (answers_always _ _ _ (λ f a r g h. search rules))))

pub returns-clause-routes : goal.returns-clause-routes
returns-clause-routes c =
    let ready : IsReady c.args.instance.now c.args.plan.now = IsReady-plan _ _ c.in_ok-lines.ensures.valid c.requires in
    routes_from-lines c.args.instance.now c.args.plan.now c.sort_unstable_by_key.new.self.items (returns-clause-lines c) ready.long ready.rise

pub returns-clause-exist : goal.returns-clause-exist
returns-clause-exist c =
    LegExists-plan c.args.instance.now c.args.plan.now c.sort_unstable_by_key.new.self.items c.in_ok-lines.ensures.valid c.requires (returns-clause-lines c)
