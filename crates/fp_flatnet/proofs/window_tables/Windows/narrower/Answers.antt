use Rattle.std.proofs.Common.{◌≡◌, ◌∙◌, ap, map, List}
use Rattle.fp_model.specs.declared.parts.Arc.{Arc}
use Rattle.fp_flatnet.specs.Tables.{WindowTable, tail_of}
use Rattle.fp_flatnet.proofs.WindowEntries.{table_of}
use Rattle.fp_flatnet.proofs.WindowRows.{AreFull-narrower}
use Rattle.fp_flatnet.proofs.WindowTimes.{FitsInstance-rows}
use Rattle.fp_flatnet.proofs.window_tables.Windows.narrower.Goals as goal

pub invariant_of-result : goal.invariant_of-result
invariant_of-result c =
    let p = c.args.instance.now in
    let tails : c.in_ok-tails_of.field-0.items ≡ map tail_of p.arcs = c.in_ok-tails_of.ensures ∙ ap (λ (xs : List Arc). map tail_of xs) c.arcs.ensures.same in
    AreFull-narrower p c.in_ok-tails_of.field-0.items c.args.rows.items c.requires tails

pub returns-clause-fits : goal.returns-clause-fits
returns-clause-fits c =
    let p = c.args.instance.now in
    let table : WindowTable = table_of c.in_ok-tails_of.field-0.items c.args.rows.items c.new.result.items in
    let tails : c.in_ok-tails_of.field-0.items ≡ map tail_of p.arcs = c.in_ok-tails_of.ensures ∙ ap (λ (xs : List Arc). map tail_of xs) c.arcs.ensures.same in
    FitsInstance-rows p table c.arcs.ensures.valid tails c.requires
