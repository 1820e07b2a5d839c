use Rattle.std.proofs.Common.{◌∙◌, ℕ, ◌*◌, length, ap}
use Rattle.fp_reader.specs.Generator.{drawn_arcs, number_after, ring_ends}
use Rattle.fp_reader.proofs.GeneratorLimits.{parts-valid}
use Rattle.fp_reader.proofs.generation.generator.generate.Goals as goal

pub new-requires : goal.new-requires
new-requires c =
    let ends = ring_ends c.args.terminals in
    parts-valid c.args.seed c.args.terminals c.args.shipments c.draw_arcs.new.draws
    c.in_ok-names.names.items c.in_ok-holds.holds.items c.in_ok-arcs.arcs.items c.in_ok-shipments.shipments.items
    c.requires.terminals.0 c.requires.terminals.1 c.requires.shipments
    c.in_ok-names.ensures (c.in_ok-holds.ensures.items_if_clones_equal (λ y e. e))
    (c.in_ok-arcs.ensures.arcs ∙ ap (λ (s : ℕ). drawn_arcs s ends) c.new-draws.ensures)
    (c.in_ok-arcs.ensures.next ∙ ap (λ (s : ℕ). number_after s (4 * length ends)) c.new-draws.ensures)
    c.in_ok-shipments.ensures
