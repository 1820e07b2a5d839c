use Rattle.std.proofs.Common.{◌≡◌, ◌∙◌, ap, map, List}
use Rattle.fp_model.specs.declared.parts.Arc.{Arc}
use Rattle.fp_flatnet.specs.Tables.{WindowTable, tail_of, windows_in}
use Rattle.fp_flatnet.proofs.WindowEntries.{table_of}
use Rattle.fp_flatnet.proofs.WindowRows.{BelongsTo-window_rows, AreWindows-window_rows, AreFull-window_rows}
use Rattle.fp_flatnet.proofs.WindowTimes.{BelongsTo-FitsInstance}
use Rattle.fp_flatnet.proofs.PlansInWindows.{CoverPlans-from_windows}
use Rattle.fp_flatnet.proofs.window_tables.Windows.of.Goals as goal

pub invariant_of-result : goal.invariant_of-result
invariant_of-result c =
    let p = c.args.instance.now in
    let tails : c.in_ok-tails_of.field-0.items ≡ map tail_of p.arcs = c.in_ok-tails_of.ensures ∙ ap (λ (xs : List Arc). map tail_of xs) c.arcs.ensures.same in
    AreFull-window_rows p c.in_ok-tails_of.field-0.items c.in_ok-all_rows.field-0.items c.in_ok-all_rows.ensures tails

pub returns-clause-windows : goal.returns-clause-windows
returns-clause-windows c =
    let p = c.args.instance.now in
    let table : WindowTable = table_of c.in_ok-tails_of.field-0.items c.in_ok-all_rows.field-0.items c.new.result.items in
    AreWindows-window_rows p table c.in_ok-all_rows.ensures

pub returns-clause-belongs : goal.returns-clause-belongs
returns-clause-belongs c =
    let p = c.args.instance.now in
    let table : WindowTable = table_of c.in_ok-tails_of.field-0.items c.in_ok-all_rows.field-0.items c.new.result.items in
    let tails : c.in_ok-tails_of.field-0.items ≡ map tail_of p.arcs = c.in_ok-tails_of.ensures ∙ ap (λ (xs : List Arc). map tail_of xs) c.arcs.ensures.same in
    BelongsTo-window_rows p table c.arcs.ensures.valid c.in_ok-all_rows.ensures tails c.new.ensures.items

pub returns-clause-fits : goal.returns-clause-fits
returns-clause-fits c =
    let table : WindowTable = table_of c.in_ok-tails_of.field-0.items c.in_ok-all_rows.field-0.items c.new.result.items in
    BelongsTo-FitsInstance c.args.instance.now table (returns-clause-belongs c)

pub returns-clause-covers : goal.returns-clause-covers
returns-clause-covers c =
    let p = c.args.instance.now in
    let table : WindowTable = table_of c.in_ok-tails_of.field-0.items c.in_ok-all_rows.field-0.items c.new.result.items in
    CoverPlans-from_windows p (windows_in table) (AreWindows-window_rows p table c.in_ok-all_rows.ensures)
