use Rattle.std.proofs.Common.{List, ap, ◌∙◌, subst, arith, rules}
use Rattle.std.specs.Prelude.{sum_by}
use Rattle.std.proofs.lemmas.List.Sorted.{IsNonDecreasingBy-from_sort, answers_always}
use Rattle.fp_model.specs.Problem.{Problem}
use Rattle.fp_timetable.specs.declared.lines.TruckLine.{TruckLine}
use Rattle.fp_fleet.specs.declared.fleets.Begin.{Begin}
use Rattle.fp_fleet.specs.declared.fleets.Turn.{Turn}
use Rattle.fp_fleet.specs.NeedTables.{IsNeedTable}
use Rattle.fp_fleet.specs.Sweeps.{turn_rank}
use Rattle.fp_fleet.proofs.FewestFleets.{IsFewest-assigned, begins-fit}
use Rattle.fp_fleet.proofs.fewest_trucks.fewest_of.Goals as goal

pub needs_of-requires-clause-fits : goal.needs_of-requires-clause-fits
needs_of-requires-clause-fits c =
    omega (
      arith,
      begins-fit c.args.instance.now c.args.lines.now c.in_ok-begins.field-0.begins.items c.in_ok-begins.field-0.turns.items c.requires c.in_ok-begins.ensures,
      ap (λ (bs : List Begin). sum_by (λ (b : Begin). b.count) bs) c.as_slice.ensures.value,
    )

pub begin_total-requires : goal.begin_total-requires
begin_total-requires c =
    omega (
      arith,
      begins-fit c.args.instance.now c.args.lines.now c.in_ok-begins.field-0.begins.items c.in_ok-begins.field-0.turns.items c.requires c.in_ok-begins.ensures,
      ap (λ (bs : List Begin). sum_by (λ (b : Begin). b.count) bs) c.as_slice-2.ensures.value,
    )

pub returns : goal.returns
returns c =
    let p : Problem = c.args.instance.now in
    let lines : List TruckLine = c.args.lines.now in
    let turns : List Turn = c.sort_unstable_by_key.new.self.items in
    let told = c.in_ok-needs.ensures in
    IsFewest-assigned p lines c.in_ok-begins.field-0.begins.items c.in_ok-begins.field-0.turns.items turns told.0 c.in_ok-needs.needs.items c.begin_total.result c.requires
    c.in_ok-begins.ensures c.sort_unstable_by_key.ensures.permutation
    (IsNonDecreasingBy-from_sort turn_rank turns (c.sort_unstable_by_key.ensures.sorted turn_rank (answers_always _ _ _ (λ f a r g h. search rules))))
    (subst (λ (bs : List Begin). IsNeedTable p lines bs told.0) c.as_slice.ensures.value told.1)
    told.2
    (c.begin_total.ensures ∙ ap (λ (bs : List Begin). sum_by (λ (b : Begin). b.count) bs) c.as_slice-2.ensures.value)
