use Rattle.std.proofs.Common.{◌≡◌, Some, sym, ◌∙◌, subst, arith}
use Rattle.std.specs.Prelude.{slice_index, Option}
use Rattle.std.proofs.lemmas.List.{get_or_default, with_items_is}
use Rattle.std.proofs.lemmas.Grind.{common_steps}
use Rattle.std.specs.declared.alloc.Global.{Global}
use Rattle.std.specs.declared.vec.Vec.{Vec}
use Rattle.fp_flatnet.specs.declared.window_tables.Window.{Window}
use Rattle.fp_flatnet.specs.Belonging.{BelongsTo}
use Rattle.fp_flatnet.specs.Tables.{WindowTable, CanNarrow, with_entry, row_lists}
use Rattle.fp_flatnet.proofs.WindowChanges.{BelongsTo-narrowed}
use Rattle.fp_flatnet.proofs.WindowEntries.{can_narrow-exists, table_of}
use Rattle.fp_flatnet.proofs.window_tables.Windows.narrow.Goals as goal

pub index-terminal-requires : goal.index-terminal-requires
index-terminal-requires c =
    let inside = c.self.inside in
    let can : CanNarrow (table_of inside.tails.items inside.rows.items inside.anchors.items) c.args.shipment c.args.arc c.args.lo c.args.hi =
    subst (λ (t : WindowTable). CanNarrow t c.args.shipment c.args.arc c.args.lo c.args.hi) (sym c.self.view_is) c.requires.inside in
    let there = can_narrow-exists inside.tails.items inside.rows.items inside.anchors.items c.args.shipment c.args.arc c.args.lo c.args.hi c.self.invariant can in
    omega (arith, there.2, inside.tails.ok)

pub returns-clause-ok : goal.returns-clause-ok
returns-clause-ok c =
    let inside = c.self.inside in
    let terminal = c.index-terminal.result.now in
    let can : CanNarrow (table_of inside.tails.items inside.rows.items inside.anchors.items) c.args.shipment c.args.arc c.args.lo c.args.hi =
    subst (λ (t : WindowTable). CanNarrow t c.args.shipment c.args.arc c.args.lo c.args.hi) (sym c.self.view_is) c.requires.inside in
    let there = can_narrow-exists inside.tails.items inside.rows.items inside.anchors.items c.args.shipment c.args.arc c.args.lo c.args.hi c.self.invariant can in
    let tail : terminal ≡ slice_index inside.tails.items c.args.arc = c.index-terminal.ensures ∙ get_or_default inside.tails.items c.args.arc terminal 0 there.2 in
    let pushed = c.in_ok-push.ensures.items in
    let set : row_lists c.set_entry.new.rows ≡ with_entry (row_lists inside.rows.items) c.args.shipment c.args.arc (Some (record { lo = c.args.lo; hi = c.args.hi })) =
    rw c.deref_mut.ensures.value at c.set_entry.ensures.set in
    grind (arith, common_steps, with_items_is {X = Vec (Option Window) Global} {Z = Global})

pub returns-clause-belongs : goal.returns-clause-belongs
returns-clause-belongs c =
    λ p belongs.
    subst (λ (t : WindowTable). BelongsTo p t) (sym (returns-clause-ok c))
    (BelongsTo-narrowed p c.args.self.now c.args.shipment c.args.arc c.args.lo c.args.hi belongs c.requires.inside c.requires.few)
