use Rattle.std.proofs.Common.{◌≡◌, ◌<◌, length, sym, ap, subst, arith}
use Rattle.std.proofs.lemmas.Grind.{common_steps}
use Rattle.fp_flatnet.specs.Belonging.{BelongsTo}
use Rattle.fp_flatnet.specs.Tables.{WindowTable, row_lists}
use Rattle.fp_flatnet.proofs.WindowChanges.{BelongsTo-closed}
use Rattle.fp_flatnet.proofs.WindowEntries.{full-rows, length-row_lists}
use Rattle.fp_flatnet.proofs.window_tables.Windows.close.Goals as goal

pub set_entry-requires-clause-arc : goal.set_entry-requires-clause-arc
set_entry-requires-clause-arc c =
    let inside = c.self.inside in
    let long : length (row_lists inside.rows.items) ≡ length c.args.self.now.rows = ap (λ (t : WindowTable). length t.rows) c.self.view_is in
    let wide : length inside.tails.items ≡ length c.args.self.now.tails = ap (λ (t : WindowTable). length t.tails) c.self.view_is in
    let there : c.args.shipment < length inside.rows.items = omega (arith, c.requires.shipment, long, length-row_lists inside.rows.items) in
    rw c.deref_mut.ensures.value (omega (arith, c.requires.arc, wide, full-rows inside.tails.items inside.rows.items c.self.invariant c.args.shipment there))

pub returns-clause-closed : goal.returns-clause-closed
returns-clause-closed c = grind (arith, common_steps)

pub returns-clause-belongs : goal.returns-clause-belongs
returns-clause-belongs c =
    λ p belongs.
    subst (λ (t : WindowTable). BelongsTo p t) (sym (returns-clause-closed c))
    (BelongsTo-closed p c.args.self.now c.args.shipment c.args.arc belongs c.requires.shipment c.requires.arc)
